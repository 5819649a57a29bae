use Rattle.mp4_boxes.proofs.JoinLemmas.{reading-boxes}
use Rattle.mp4_boxes.proofs.laws.whole_boxes.Goals as goal

pub returns : goal.returns
returns c bs at later are near = reading-boxes bs at later are near
