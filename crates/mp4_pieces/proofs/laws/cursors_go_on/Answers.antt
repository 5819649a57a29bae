use Rattle.mp4_pieces.proofs.PieceLemmas.{goes_on}
use Rattle.mp4_pieces.proofs.laws.cursors_go_on.Goals as goal

pub returns : goal.returns
returns c cut moof_bytes run at p ps is e = goes_on cut moof_bytes run at p ps is e
