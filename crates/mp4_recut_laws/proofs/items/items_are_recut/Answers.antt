use Rattle.mp4_recut_laws.proofs.FirstItemLemmas.{first_items_joined, first_items_agree}
use Rattle.mp4_recut_laws.proofs.items.items_are_recut.Goals as goal

pub returns-clause-joined : goal.returns-clause-joined
returns-clause-joined c = first_items_joined

pub returns-clause-sound : goal.returns-clause-sound
returns-clause-sound c = λ cut is w. (first_items_agree cut is w).sound

pub returns-clause-again : goal.returns-clause-again
returns-clause-again c = λ cut is w. (first_items_agree cut is w).text

pub returns-clause-samples : goal.returns-clause-samples
returns-clause-samples c = λ cut is w. (first_items_agree cut is w).same
