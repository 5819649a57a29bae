use Rattle.std.proofs.Common.{◌≡◌, Bool, length}
use Rattle.mp4_pieces.specs.Implementation.Growing.{Grows, grown}
use Rattle.mp4_pieces.proofs.fill.fill_counted.Given as goal

-- the pieces of what is left, from the piece so far, are those of all, whatever its last row is
abbrev pub invariant-loop-piece : goal.invariant-loop-piece
invariant-loop-piece l = record {
  pieces : (last so_far : Bool) → grown l.own.cut l.piece so_far l.rows ≡ grown l.own.cut l.fn.begun last l.fn.rows;
  grows : Grows l.piece l.rows;
}

abbrev pub decreases-loop-piece : goal.decreases-loop-piece
decreases-loop-piece l = length l.rows
