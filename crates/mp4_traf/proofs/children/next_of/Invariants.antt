use Rattle.std.proofs.Common.{◌≡◌, ◌≤◌, length}
use Rattle.mp4_box.specs.Paths.{of_kind}
use Rattle.mp4_traf.proofs.children.next_of.Given as goal

abbrev pub decreases-loop-child : goal.decreases-loop-child
decreases-loop-child l = length l.walk

abbrev pub invariant-loop-child : goal.invariant-loop-child
invariant-loop-child l = record {
  left : of_kind l.kind l.walk ≡ of_kind l.kind l.fn.walk;
  fewer : length l.walk ≤ length l.fn.walk;
}
