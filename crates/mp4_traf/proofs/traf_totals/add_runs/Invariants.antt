use Rattle.std.proofs.Common.{◌≡◌, ◌+◌, ◌<◌, ◌^◌}
use Rattle.std.specs.List.{sum_by}
use Rattle.std.specs.Option.{option_or}
use Rattle.mp4_traf.specs.declared.run.Run.{Run}
use Rattle.mp4_traf.specs.Runs.{last_end}
use Rattle.mp4_traf.specs.TrafTotals.{first_flags}
use Rattle.mp4_traf.proofs.traf_totals.add_runs.Given as goal

abbrev pub invariant-loop-run : goal.invariant-loop-run
invariant-loop-run l =
    (goal.iterator-loop-run).can_next l.run-iterator
    × (goal.iterator-loop-run).is_finite l.run-iterator
    × (last_end l.so_far.end l.run-iterator ≡ last_end l.initial.so_far.end l.fn.runs)
    × (l.so_far.samples + sum_by (λ (run : Run). run.count) l.run-iterator ≡ l.initial.so_far.samples + sum_by (λ (run : Run). run.count) l.fn.runs)
    × (l.so_far.samples + sum_by (λ (run : Run). run.count) l.run-iterator < 2 ^ 32)
    × (l.so_far.bytes + sum_by (λ (run : Run). run.bytes) l.run-iterator ≡ l.initial.so_far.bytes + sum_by (λ (run : Run). run.bytes) l.fn.runs)
    × (l.so_far.bytes + sum_by (λ (run : Run). run.bytes) l.run-iterator < 2 ^ 64)
    × (option_or l.so_far.flags (first_flags l.moof_bytes l.run-iterator) ≡ option_or l.initial.so_far.flags (first_flags l.moof_bytes l.fn.runs))
