use Rattle.mp4_box.proofs.GrammarLemmas.{split_all}
use Rattle.mp4_box.proofs.laws.boxes_and_rest.Goals as goal

pub returns : goal.returns
returns c x fits = split_all x fits
