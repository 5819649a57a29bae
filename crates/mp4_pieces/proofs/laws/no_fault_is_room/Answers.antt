use Rattle.mp4_pieces.proofs.FitsLemmas.{room_from, room_to}
use Rattle.mp4_pieces.proofs.laws.no_fault_is_room.Goals as goal

pub returns : goal.returns
returns c cut h runs seq = (λ none. room_from cut h runs seq none, λ has. room_to cut h runs seq has)
