use Rattle.std.proofs.Common.{◌≡◌, ◌+◌, ◌<◌, ◌^◌, None, length}
use Rattle.mp4_traf.specs.Rows.{durations}
use Rattle.mp4_grammar.specs.Implementation.FoundRows.{earliest_from}
use Rattle.mp4_grammar.specs.Presented.{all_rows, syncs_in}
use Rattle.mp4_grammar.proofs.presented.add_runs.Given as goal

abbrev pub invariant-loop-run : goal.invariant-loop-run
invariant-loop-run l =
    (goal.iterator-loop-run).can_next l.run-iterator
    × (goal.iterator-loop-run).is_finite l.run-iterator
    × (earliest_from l.so_far.earliest l.so_far.elapsed (all_rows l.fn.moof_bytes l.run-iterator) ≡ earliest_from l.initial.so_far.earliest l.initial.so_far.elapsed (all_rows l.fn.moof_bytes l.fn.runs))
    × (l.so_far.syncs + syncs_in (all_rows l.fn.moof_bytes l.run-iterator) ≡ l.initial.so_far.syncs + syncs_in (all_rows l.fn.moof_bytes l.fn.runs))
    × (l.so_far.elapsed + durations (all_rows l.fn.moof_bytes l.run-iterator) < 2 ^ 64)
    × (l.so_far.syncs + length (all_rows l.fn.moof_bytes l.run-iterator) < 2 ^ 32)
    × (l.so_far.earliest ≡ None → l.so_far.elapsed ≡ 0)
