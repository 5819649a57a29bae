use Rattle.std.proofs.Common.{◌≡◌, ◌+◌, length}
use Rattle.mp4_pieces.specs.Implementation.Rooming.{passes_from}
use Rattle.mp4_pieces.specs.Rooms.{passes_index}
use Rattle.mp4_pieces.proofs.index.outcome_of.Given as goal

-- those so far and those that are left
abbrev pub invariant-loop-piece : goal.invariant-loop-piece
invariant-loop-piece l = record {
  count : l.count + length l.piece-iterator ≡ length l.fn.pieces;
  passes : passes_from l.check l.piece-iterator ≡ passes_index l.fn.pieces;
}
