use Rattle.std.proofs.Common.{◌≡◌, ◌≤◌, ◌+◌, ℕ, length}
use Rattle.std.specs.List.{AllByRecursion}
use Rattle.mp4_pieces.specs.Pieces.{IsPieceOf, pieces_of}
use Rattle.mp4_machine.specs.Ends.{sent}
use Rattle.mp4_machine.specs.Puts.{HasPut}
use Rattle.mp4_machine.specs.Readings.{Effects, both}
use Rattle.mp4_recut.specs.Splitting.{run_fragments}
use Rattle.mp4_recut.proofs.OutputFragmentLemmas.{emitted_all}
use Rattle.mp4_recut.proofs.whole.put_by_row.Given as goal

-- what was put, and what the pieces are that are left
abbrev pub invariant-loop-piece : goal.invariant-loop-piece
invariant-loop-piece g l = record {
  effects : Effects;
  put : HasPut (sent g.W.Sink.contents g.W.Sink.has_failed l.fn.w l.w) l.fn.out l.out effects.text effects.fragment_ends;
  are : AllByRecursion (IsPieceOf l.moof_bytes l.run) l.piece-iterator;
  low : l.fn.fragments ≤ l.fragments;
  few : l.fragments + length l.piece-iterator ≡ l.fn.fragments + length (pieces_of l.cut l.moof_bytes l.run);
  left : (timescale : ℕ) → both effects (emitted_all l.start l.payload (run_fragments l.cut l.moof_bytes l.run timescale 0 (l.fragments + 1) l.piece-iterator))
      ≡ emitted_all l.start l.payload (run_fragments l.cut l.moof_bytes l.run timescale 0 (l.fn.fragments + 1) (pieces_of l.cut l.moof_bytes l.run));
}
