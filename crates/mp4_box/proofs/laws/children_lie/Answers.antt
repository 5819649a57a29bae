use Rattle.mp4_box.proofs.GrammarLemmas.{children_are}
use Rattle.mp4_box.proofs.laws.children_lie.Goals as goal

pub returns : goal.returns
returns c xs o all = children_are xs o all
