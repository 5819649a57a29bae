use Rattle.std.proofs.Common.{◌≡◌}
use Rattle.std.specs.List.{flat_map}
use Rattle.mp4_box.specs.Trees.{first_of}
use Rattle.mp4_traf.specs.Runs.{runs_of}
use Rattle.mp4_frag.proofs.after.first_run.Given as goal

-- the first run of all trafs is that of the trafs that are left
abbrev pub invariant-loop-traf : goal.invariant-loop-traf
invariant-loop-traf l =
    (goal.iterator-loop-traf).can_next l.traf-iterator
    × (goal.iterator-loop-traf).is_finite l.traf-iterator
    × (first_of (flat_map runs_of l.traf-iterator) ≡ first_of (flat_map runs_of l.fn.trafs))
