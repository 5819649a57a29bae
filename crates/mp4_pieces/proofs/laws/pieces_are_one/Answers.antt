use Rattle.mp4_pieces.specs.Fitting.{fits}
use Rattle.mp4_pieces.proofs.CutLemmas.{pieces_are, pieces_only}
use Rattle.mp4_pieces.proofs.FitLemmas.{is_limit}
use Rattle.mp4_pieces.proofs.laws.pieces_are_one.Goals as goal

pub returns-clause-exists : goal.returns-clause-exists
returns-clause-exists c cut rows = pieces_are (fits cut) rows (is_limit cut)

pub returns-clause-alone : goal.returns-clause-alone
returns-clause-alone c cut rows ps are = pieces_only (fits cut) rows ps (is_limit cut) are
