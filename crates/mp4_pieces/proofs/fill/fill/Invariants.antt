use Rattle.std.proofs.Common.{◌≡◌, length}
use Rattle.mp4_pieces.specs.Implementation.Growing.{Grows, grown}
use Rattle.mp4_pieces.proofs.fill.fill.Given as goal

-- the pieces of what is left, from the piece so far, are those of all
abbrev pub invariant-loop-piece : goal.invariant-loop-piece
invariant-loop-piece l = record {
  pieces : grown l.own.cut l.piece l.last l.rows ≡ grown l.own.cut l.fn.begun l.fn.sync l.fn.rows;
  grows : Grows l.piece l.rows;
}

abbrev pub decreases-loop-piece : goal.decreases-loop-piece
decreases-loop-piece l = length l.rows
