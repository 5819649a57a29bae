use Rattle.std.proofs.Common.{◌≡◌, ◌<◌, ◌+◌, ◌^◌, length}
use Rattle.mp4_box.specs.Trees.{view}
use Rattle.mp4_box.specs.Paths.{of_kind}
use Rattle.mp4_traf.specs.Kinds.{traf}
use Rattle.mp4_frag.specs.Repeats.{trafs_of, untimed_ids}
use Rattle.mp4_frag.proofs.rules.repeats.untimed_in.Given as goal

-- those so far, and those that are left
abbrev pub invariant-loop-child : goal.invariant-loop-child
invariant-loop-child l = record {
  few : l.count + length l.child-iterator < 2 ^ 63;
  left : l.count + length (untimed_ids (of_kind traf l.child-iterator)) ≡ length (untimed_ids (trafs_of (view l.moof)));
}
