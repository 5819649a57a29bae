use Rattle.mp4_recut_laws.proofs.PieceListLemmas.{pieces_own_recut}
use Rattle.mp4_recut_laws.proofs.items.pieces_are_their_own_recut.Goals as goal

pub returns : goal.returns
returns c = pieces_own_recut
