use Rattle.std.proofs.Common.{◌≡◌, length}
use Rattle.mp4_box.specs.Trees.{view}
use Rattle.mp4_box.specs.Paths.{at_path}
use Rattle.mp4_init.specs.Implementation.Summaries.{all_added, gathered}
use Rattle.mp4_init.proofs.slots.add_along.Given as goal

-- the boxes that are left are to be added
abbrev pub invariant-loop-this : goal.invariant-loop-this
invariant-loop-this l = record {
  left : all_added l.source l.ids l.summaries l.this-iterator ≡ all_added l.source l.ids l.fn.summaries (at_path l.path (view l.moov));
  own : gathered l.source l.id l.own l.this-iterator ≡ gathered l.source l.id l.fn.own (at_path l.path (view l.moov));
  size : length l.summaries ≡ length l.ids;
}
