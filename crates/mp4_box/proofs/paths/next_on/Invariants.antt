use Rattle.std.proofs.Common.{◌≡◌, ◌<◌, ◌++◌, ◌∷◌, [], length}
use Rattle.mp4_box.specs.Paths.{left_on}
use Rattle.mp4_box.proofs.PathLemmas.{reads_on}
use Rattle.mp4_box.proofs.paths.next_on.Given as goal

abbrev pub invariant-loop-child : goal.invariant-loop-child
invariant-loop-child l = record {
  left : left_on l.path (l.above.items ++ l.walk ∷ []) ≡ left_on l.path (l.fn.above.items ++ l.fn.walk ∷ []);
  deep : length l.above.items < length l.path;
}

abbrev pub decreases-loop-child : goal.decreases-loop-child
decreases-loop-child l = reads_on l.path (l.above.items ++ l.walk ∷ [])
