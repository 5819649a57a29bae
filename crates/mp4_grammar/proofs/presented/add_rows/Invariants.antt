use Rattle.std.proofs.Common.{◌≡◌, ◌+◌, ◌<◌, ◌≤◌, ◌^◌, None, length}
use Rattle.mp4_traf.specs.Rows.{durations}
use Rattle.mp4_grammar.specs.Implementation.FoundRows.{earliest_from}
use Rattle.mp4_grammar.specs.Presented.{syncs_in}
use Rattle.mp4_grammar.proofs.presented.add_rows.Given as goal

abbrev pub invariant-loop-row : goal.invariant-loop-row
invariant-loop-row l =
    (goal.iterator-loop-row).can_next l.row-iterator
    × (goal.iterator-loop-row).is_finite l.row-iterator
    × (earliest_from l.so_far.earliest l.so_far.elapsed l.row-iterator ≡ earliest_from l.initial.so_far.earliest l.initial.so_far.elapsed l.fn.rows)
    × (l.so_far.syncs + syncs_in l.row-iterator ≡ l.initial.so_far.syncs + syncs_in l.fn.rows)
    × (l.so_far.elapsed + durations l.row-iterator ≡ l.initial.so_far.elapsed + durations l.fn.rows)
    × (l.so_far.elapsed + durations l.row-iterator < 2 ^ 64)
    × (l.so_far.syncs + length l.row-iterator ≤ l.initial.so_far.syncs + length l.fn.rows)
    × (l.so_far.syncs + length l.row-iterator < 2 ^ 32)
    × (l.so_far.earliest ≡ None → l.so_far.elapsed ≡ 0)
