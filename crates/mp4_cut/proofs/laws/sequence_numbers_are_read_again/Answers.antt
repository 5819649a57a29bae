use Rattle.mp4_cut.proofs.ReadIndexLemmas.{number_read}
use Rattle.mp4_cut.proofs.laws.sequence_numbers_are_read_again.Goals as goal

pub returns : goal.returns
returns c = number_read
