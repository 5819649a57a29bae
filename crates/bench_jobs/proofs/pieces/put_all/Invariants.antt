use Rattle.std.specs.List.{AllByRecursion}
use Rattle.mp4_pieces.specs.Pieces.{IsPieceOf}
use Rattle.bench_jobs.proofs.pieces.put_all.Given as goal

-- those that are left are pieces of the run
abbrev pub invariant-loop-piece : goal.invariant-loop-piece
invariant-loop-piece l = AllByRecursion (IsPieceOf l.moof_bytes l.run) l.piece-iterator
