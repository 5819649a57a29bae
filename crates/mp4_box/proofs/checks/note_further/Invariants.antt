use Rattle.std.proofs.Common.{◌≡◌, ◌==◌, true, cond, not, length}
use Rattle.std.specs.Prelude.{map}
use Rattle.mp4_box.specs.Trees.{view, children, fault_at}
use Rattle.mp4_box.specs.declared.rules.Rule.TheVariants.{Twice}
use Rattle.mp4_box.specs.Checks.{at_most_one, further}
use Rattle.mp4_box.specs.Order.{least_from}
use Rattle.mp4_box.specs.Paths.{of_kind}
use Rattle.mp4_box.proofs.checks.note_further.Given as goal

-- what is left to note is what there is among the children that are left: each of them, once one was seen
abbrev pub invariant-loop-child : goal.invariant-loop-child
invariant-loop-child l = record {
  left : least_from l.best (cond l.seen (map (fault_at Twice) (of_kind l.kind l.child-iterator)) (further (of_kind l.kind l.child-iterator))) ≡ least_from l.fn.best (at_most_one l.kind (view l.this));
  one : cond l.seen true (not (length (of_kind l.kind l.child-iterator) == 0)) ≡ not (length (of_kind l.kind (children (view l.this))) == 0);
}
