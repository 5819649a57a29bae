use Rattle.std.proofs.Common.{◌≡◌, ◌≤◌, length, drop}
use Rattle.std.specs.List.{fold}
use Rattle.mp4_run_order.specs.Implementation.Searches.{track_start, track_step}
use Rattle.test_libraries.proofs.callers.find_by_track.Given as goal

-- the result for the runs that are left is the result for all
abbrev pub invariant-loop-run : goal.invariant-loop-run
invariant-loop-run l =
    (l.run-index ≤ length l.runs)
    × (fold track_step l.search (drop l.run-index l.runs) ≡ fold track_step track_start l.runs)
