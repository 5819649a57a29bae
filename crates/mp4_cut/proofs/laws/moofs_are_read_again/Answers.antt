use Rattle.mp4_cut.proofs.ByteLemmas.{moof_box_bytes}
use Rattle.mp4_cut.proofs.ReadLemmas.{fragment_again, is_read_as, moof_whole}
use Rattle.mp4_cut.proofs.laws.moofs_are_read_again.Goals as goal

pub returns-clause-whole : goal.returns-clause-whole
returns-clause-whole c f seq fits = moof_whole f seq fits

pub returns-clause-bytes : goal.returns-clause-bytes
returns-clause-bytes c f seq fits i = moof_box_bytes f seq fits i

pub returns-clause-read : goal.returns-clause-read
returns-clause-read c tracks f seq offset can = is_read_as f seq offset tracks can

pub returns-clause-again : goal.returns-clause-again
returns-clause-again c f h run t = fragment_again f h run t
