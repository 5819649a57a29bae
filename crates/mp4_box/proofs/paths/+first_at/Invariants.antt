use Rattle.std.proofs.Common.{◌≡◌, length}
use Rattle.mp4_box.specs.Paths.{of_kind, at_path, paths_below}
use Rattle.mp4_box.specs.Trees.{view, first_of}
use Rattle.mp4_box.proofs.paths.+first_at.Given as goal

abbrev pub decreases-first_at : goal.decreases-first_at
decreases-first_at l = length l.path.now

-- the first is the first below the children that are left
abbrev pub invariant-loop-child : goal.invariant-loop-child
invariant-loop-child l = record {
  left : first_of (paths_below l.below (of_kind l.kind l.child-iterator)) ≡ first_of (at_path l.path (view l.this));
}
