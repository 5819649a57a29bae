use Rattle.mp4_recut_laws.proofs.OwnIndexLemmas.{one_fits_index}
use Rattle.mp4_recut_laws.proofs.PieceTimesLemmas.{times_read, times_text}
use Rattle.mp4_recut_laws.proofs.recut_text_with_an_index.Goals as goal

pub returns-clause-one : goal.returns-clause-one
returns-clause-one c = one_fits_index

pub returns-clause-read : goal.returns-clause-read
returns-clause-read c = λ cut s is index. times_read cut index s is

pub returns-clause-text : goal.returns-clause-text
returns-clause-text c = λ cut s is index. times_text cut index s is
