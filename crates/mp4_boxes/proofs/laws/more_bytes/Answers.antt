use Rattle.mp4_boxes.specs.Boxes.{top_box}
use Rattle.mp4_boxes.proofs.BoxLemmas.{front-items}
use Rattle.mp4_machine.proofs.ReadingGrowthLemmas.{reading_grows}
use Rattle.mp4_boxes.proofs.PastLemmas.{top_past}
use Rattle.mp4_boxes.proofs.BoxGrowthLemmas.{front-grows}
use Rattle.mp4_boxes.proofs.laws.more_bytes.Goals as goal

pub returns : goal.returns
returns c at b later = reading_grows top_box front-items front-grows top_past at b later
