use Rattle.std.proofs.Common.{◌≡◌}
use Rattle.std.specs.List.{fold}
use Rattle.mp4_run_order.specs.Implementation.Searches.{track_start, track_step}
use Rattle.mp4_frag.proofs.moof.Moof.list.Given as goal

-- the result for the runs that are left is the result for all
abbrev pub invariant-loop-run : goal.invariant-loop-run
invariant-loop-run l = record {
  left : fold track_step l.search l.run-iterator ≡ fold track_step track_start l.initial.run-iterator;
}
