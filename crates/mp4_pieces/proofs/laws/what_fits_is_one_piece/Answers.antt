use Rattle.mp4_pieces.specs.Fitting.{fits}
use Rattle.mp4_pieces.proofs.CutLemmas.{piece_again}
use Rattle.mp4_pieces.proofs.FitLemmas.{is_limit}
use Rattle.mp4_pieces.proofs.laws.what_fits_is_one_piece.Goals as goal

pub returns-clause-limit : goal.returns-clause-limit
returns-clause-limit c cut = is_limit cut

pub returns-clause-whole : goal.returns-clause-whole
returns-clause-whole c cut row rows fit = piece_again (fits cut) row rows (is_limit cut) fit
