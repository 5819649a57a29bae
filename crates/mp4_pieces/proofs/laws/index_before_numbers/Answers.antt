use Rattle.mp4_pieces.proofs.LowerRuleLemmas.{index_first}
use Rattle.mp4_pieces.proofs.laws.index_before_numbers.Goals as goal

pub returns : goal.returns
returns c cut h runs seq f g fs e is = index_first cut h runs seq f g fs e is
