use Rattle.mp4_cut.proofs.ReadLemmas.{mdat_is_box}
use Rattle.mp4_cut.proofs.laws.mdats_are_whole_boxes.Goals as goal

pub returns : goal.returns
returns c = mdat_is_box
