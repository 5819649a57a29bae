use Rattle.std.proofs.Common.{◌≡◌, ◌≤◌, length, drop}
use Rattle.std.specs.List.{fold}
use Rattle.mp4_run_order.specs.Implementation.Searches.{place_start, place_step}
use Rattle.test_libraries.proofs.callers.find_by_place.Given as goal

-- the result for the runs that are left is the result for all
abbrev pub invariant-loop-run : goal.invariant-loop-run
invariant-loop-run l =
    (l.run-index ≤ length l.runs)
    × (fold place_step l.search (drop l.run-index l.runs) ≡ fold place_step (place_start l.fn.payload l.fn.offender) l.runs)
