use Rattle.std.proofs.Common.{◌≡◌, ◌+◌, ◌<◌, ◌^◌}
use Rattle.std.specs.Prelude.{◌≤ℤ◌, pos}
use Rattle.std.specs.List.{AllByRecursion, sum_by}
use Rattle.mp4_traf.specs.Ranges.{InRange}
use Rattle.mp4_traf.specs.Runs.{last_end}
use Rattle.mp4_frag.specs.Implementation.Following.{all_follow, bytes_with, past_runs, timed_run}
use Rattle.mp4_frag.proofs.following.follow_runs.Given as goal

abbrev pub invariant-loop-run : goal.invariant-loop-run
invariant-loop-run l =
    (goal.iterator-loop-run).can_next l.run-iterator
    × (goal.iterator-loop-run).is_finite l.run-iterator
    × AllByRecursion InRange l.run-iterator
    × (all_follow l.payload l.so_far.end l.run-iterator ≡ all_follow l.payload l.initial.so_far.end l.fn.runs)
    × (past_runs l.so_far.end l.run-iterator ≡ past_runs l.initial.so_far.end l.fn.runs)
    × (l.so_far.bytes + sum_by bytes_with l.run-iterator ≡ l.initial.so_far.bytes + sum_by bytes_with l.fn.runs)
    × (pos (l.payload.start + l.so_far.bytes) ≤ℤ l.so_far.end)
    × (l.so_far.timed + sum_by timed_run l.run-iterator ≡ l.initial.so_far.timed + sum_by timed_run l.fn.runs)
    × (l.so_far.timed + sum_by timed_run l.run-iterator < 2 ^ 32)
    × (last_end l.so_far.time l.run-iterator ≡ last_end l.initial.so_far.time l.fn.runs)
