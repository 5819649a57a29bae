use Rattle.mp4_boxes.proofs.RestLemmas.{rest-reads}
use Rattle.mp4_boxes.proofs.laws.each_rest.Goals as goal

pub returns : goal.returns
returns c at y r fits is = rest-reads at y r fits is
