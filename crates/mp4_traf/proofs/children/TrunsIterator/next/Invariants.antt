use Rattle.std.proofs.Common.{◌≡◌, ◌++◌, [], ◌∷◌, length}
use Rattle.mp4_box.specs.Paths.{paths_below}
use Rattle.mp4_traf.specs.Kinds.{trun}
use Rattle.mp4_traf.proofs.children.TrunsIterator.next.Given as goal

abbrev pub decreases-loop-trun : goal.decreases-loop-trun
decreases-loop-trun l = length l.self-inside.trafs

abbrev pub invariant-loop-trun : goal.invariant-loop-trun
invariant-loop-trun l = record {
  left : l.self-inside.truns ++ paths_below (trun ∷ []) l.self-inside.trafs ≡ l.fn.self;
}
