use Rattle.std.proofs.Common.{◌≡◌}
use Rattle.mp4_box.specs.Trees.{view}
use Rattle.mp4_init.specs.Fields.{begin_with, has_entries}
use Rattle.mp4_init.proofs.sample_tables.holds_entries.Given as goal

abbrev pub invariant-loop-entry : goal.invariant-loop-entry
invariant-loop-entry l = record {
  left : begin_with l.left l.entry-iterator ≡ has_entries (view l.this);
}
