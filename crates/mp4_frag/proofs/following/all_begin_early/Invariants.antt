use Rattle.std.proofs.Common.{◌≡◌, [], ◌∷◌}
use Rattle.std.specs.List.{list_all}
use Rattle.mp4_box.specs.Paths.{at_path}
use Rattle.mp4_box.specs.Trees.{view}
use Rattle.mp4_traf.specs.Kinds.{traf}
use Rattle.mp4_traf.specs.Runs.{begins_early}
use Rattle.mp4_frag.proofs.following.all_begin_early.Given as goal

abbrev pub invariant-loop-traf : goal.invariant-loop-traf
invariant-loop-traf l =
    (goal.iterator-loop-traf).can_next l.traf-iterator
    × (goal.iterator-loop-traf).is_finite l.traf-iterator
    × (list_all begins_early l.traf-iterator ≡ list_all begins_early (at_path (traf ∷ []) (view l.moof)))
