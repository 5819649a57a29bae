use Rattle.std.proofs.Common.{◌≡◌, ◌≤◌, ◌++◌, drop, length}
use Rattle.mp4_box.specs.Trees.{view}
use Rattle.mp4_box.specs.Paths.{of_kind}
use Rattle.mp4_traf.specs.Kinds.{traf}
use Rattle.mp4_frag.specs.Repeats.{trafs_after, untimed_ids}
use Rattle.mp4_frag.proofs.rules.repeats.push_ids.Given as goal

-- those so far, and those of the trafs that are left after the children to pass over
abbrev pub invariant-loop-child : goal.invariant-loop-child
invariant-loop-child g l = record {
  fits : length l.ids.items ≤ g.row.N;
  rest : l.ids.items ++ untimed_ids (of_kind traf (drop l.left l.child-iterator)) ≡ untimed_ids (trafs_after l.passed (view l.moof));
}
