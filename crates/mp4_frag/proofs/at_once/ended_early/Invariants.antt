use Rattle.std.specs.List.{AllByRecursion}
use Rattle.mp4_box.specs.Paths.{of_kind}
use Rattle.mp4_box.specs.Trees.{view, children}
use Rattle.mp4_frag.specs.Implementation.AtOnce.{HasEarlyEnd}
use Rattle.mp4_traf.specs.Kinds.{traf}
use Rattle.mp4_frag.proofs.at_once.ended_early.Given as goal

abbrev pub invariant-loop-child : goal.invariant-loop-child
invariant-loop-child l =
    AllByRecursion (HasEarlyEnd l.tracks) (of_kind traf l.child-iterator) → AllByRecursion (HasEarlyEnd l.tracks) (of_kind traf (children (view l.moof)))
