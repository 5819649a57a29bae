use Rattle.std.proofs.Common.{◌≡◌, ◌+◌, length}
use Rattle.mp4_box.specs.Paths.{at_path}
use Rattle.mp4_box.specs.Trees.{view}
use Rattle.mp4_traf.specs.Kinds.{to_trun}
use Rattle.mp4_frag.proofs.rules.counts.truns_in.Given as goal

abbrev pub invariant-loop : goal.invariant-loop
invariant-loop l =
    (goal.iterator-loop).can_next l.iterator'
    × (goal.iterator-loop).is_finite l.iterator'
    × (l.count + length l.iterator' ≡ length (at_path to_trun (view l.fn.moof)))
