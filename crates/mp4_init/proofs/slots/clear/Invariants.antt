use Rattle.std.proofs.Common.{◌≡◌, ◌≤◌, ◌-◌, length}
use Rattle.std.specs.Prelude.{replicate}
use Rattle.mp4_init.specs.Implementation.Summaries.{empty_summary}
use Rattle.mp4_init.proofs.slots.clear.Given as goal

abbrev pub invariant-loop-summaries : goal.invariant-loop-summaries
invariant-loop-summaries g l = record {
  so_far : l.summaries.items ≡ replicate (length l.summaries.items) empty_summary;
  room : length l.summaries.items ≤ l.count;
}

abbrev pub decreases-loop-summaries : goal.decreases-loop-summaries
decreases-loop-summaries g l = l.count - length l.summaries.items
