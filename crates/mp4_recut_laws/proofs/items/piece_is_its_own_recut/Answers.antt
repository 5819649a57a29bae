use Rattle.mp4_recut_laws.proofs.OnePieceLemmas.{one_recut}
use Rattle.mp4_recut_laws.proofs.items.piece_is_its_own_recut.Goals as goal

pub returns : goal.returns
returns c = one_recut
