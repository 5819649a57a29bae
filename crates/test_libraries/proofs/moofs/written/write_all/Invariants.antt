use Rattle.std.specs.List.{AllByRecursion}
use Rattle.mp4_pieces.specs.Pieces.{IsPieceOf}
use Rattle.test_libraries.proofs.moofs.written.write_all.Given as goal

-- those that are left are pieces of the run
abbrev pub invariant-loop-piece : goal.invariant-loop-piece
invariant-loop-piece g l = AllByRecursion (IsPieceOf l.held l.run) l.piece-iterator
