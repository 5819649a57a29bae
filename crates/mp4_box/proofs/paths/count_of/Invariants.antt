use Rattle.std.proofs.Common.{◌≡◌, ◌+◌, ◌^◌, ◌<◌, length}
use Rattle.mp4_box.specs.Trees.{view, children}
use Rattle.mp4_box.specs.Paths.{of_kind}
use Rattle.mp4_box.proofs.paths.count_of.Given as goal

abbrev pub invariant-loop-child : goal.invariant-loop-child
invariant-loop-child l = record {
  few : l.count + length l.child-iterator < 2 ^ 63;
  left : l.count + length (of_kind l.kind l.child-iterator) ≡ length (of_kind l.kind (children (view l.this)));
}
