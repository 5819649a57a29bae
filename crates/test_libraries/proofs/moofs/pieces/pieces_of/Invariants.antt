use Rattle.mp4_traf.specs.Rows.{IsCursor}
use Rattle.test_libraries.proofs.moofs.pieces.pieces_of.Given as goal

-- the cursor is one of the run
abbrev pub invariant-loop-piece : goal.invariant-loop-piece
invariant-loop-piece l = IsCursor l.run l.held l.at
