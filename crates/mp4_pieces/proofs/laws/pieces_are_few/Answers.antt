use Rattle.mp4_pieces.proofs.RoomLemmas.{moof_count_few}
use Rattle.mp4_pieces.proofs.laws.pieces_are_few.Goals as goal

pub returns : goal.returns
returns c cut h tracks = moof_count_few cut h tracks
