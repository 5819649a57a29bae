use Rattle.mp4_recut_laws.proofs.FirstItemLemmas.{first_items_read}
use Rattle.mp4_recut_laws.proofs.items.text_has_no_fault.Goals as goal

pub returns : goal.returns
returns c = first_items_read
