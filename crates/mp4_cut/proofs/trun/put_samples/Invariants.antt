use Rattle.std.proofs.Common.{◌≡◌, ◌++◌, ℕ, List, []}
use Rattle.std.specs.Prelude.{take}
use Rattle.std.specs.List.{flat_map}
use Rattle.mp4_machine.specs.Ends.{sent}
use Rattle.mp4_machine.specs.Puts.{HasPut}
use Rattle.mp4_cut.specs.Trun.{sample_bytes}
use Rattle.mp4_cut.proofs.trun.put_samples.Given as goal

abbrev pub decreases-loop-left : goal.decreases-loop-left
decreases-loop-left g l = l.left

-- what was put, and the fields of the rows that are left, are those of all
abbrev pub invariant-loop-left : goal.invariant-loop-left
invariant-loop-left g l = record {
  text : List ℕ;
  put : HasPut (sent g.W.Sink.contents g.W.Sink.has_failed l.fn.w l.w) l.fn.block l.block text [];
  left : text ++ flat_map sample_bytes (take l.left l.rows) ≡ flat_map sample_bytes (take l.count l.fn.rows);
}
