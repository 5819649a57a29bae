use Rattle.std.proofs.Common.{◌≡◌, length}
use Rattle.std.specs.List.{flat_map}
use Rattle.mp4_box.specs.Checks.{along}
use Rattle.mp4_box.specs.Order.{least_from}
use Rattle.mp4_box.specs.Paths.{of_kind}
use Rattle.mp4_box.specs.Trees.{view}
use Rattle.mp4_box.proofs.checks.+note_along.Given as goal

abbrev pub decreases-note_along : goal.decreases-note_along
decreases-note_along g l = length l.path.now

-- what is left to note is what is at fault below the children that are left
abbrev pub invariant-loop-child : goal.invariant-loop-child
invariant-loop-child g l = record {
  left : least_from l.best (flat_map (along (g.C.Check.faults l.check) l.below) (of_kind l.kind l.child-iterator)) ≡ least_from l.fn.best (along (g.C.Check.faults l.check) l.path (view l.this));
}
