use Rattle.std.proofs.Common.{◌≡◌, ◌+◌, ◌++◌, ◌<◌, ◌^◌, [], ◌∷◌}
use Rattle.std.specs.Prelude.{◌≤ℤ◌, pos, take}
use Rattle.std.specs.List.{AllByRecursion, sum_by}
use Rattle.mp4_box.specs.Paths.{at_path}
use Rattle.mp4_box.specs.Trees.{view}
use Rattle.mp4_traf.specs.Kinds.{traf}
use Rattle.mp4_traf.specs.Ranges.{IsSound}
use Rattle.mp4_traf.specs.Runs.{MoofBytes, traf_of}
use Rattle.mp4_frag.specs.TrafEnds.{few_trafs}
use Rattle.mp4_frag.specs.Implementation.Following.{all_follow, bytes_with, ends_by, past_runs, runs_of_trafs, timed_run}
use Rattle.mp4_frag.proofs.following.follow_trafs.Given as goal

abbrev pub invariant-loop-traf : goal.invariant-loop-traf
invariant-loop-traf l =
    let h : MoofBytes = record { bytes = l.moof_bytes; offset = l.offset } in
    (goal.iterator-loop-traf).can_next l.traf-iterator
    × (goal.iterator-loop-traf).is_finite l.traf-iterator
    × AllByRecursion (λ t. IsSound (traf_of h l.tracks t)) l.traf-iterator
    × (all_follow l.payload l.so_far.end (runs_of_trafs h l.tracks l.traf-iterator) ≡ all_follow l.payload l.initial.so_far.end (runs_of_trafs h l.tracks (at_path (traf ∷ []) (view l.moof))))
    × (past_runs l.so_far.end (runs_of_trafs h l.tracks l.traf-iterator) ≡ past_runs l.initial.so_far.end (runs_of_trafs h l.tracks (at_path (traf ∷ []) (view l.moof))))
    × (l.so_far.bytes + sum_by bytes_with (runs_of_trafs h l.tracks l.traf-iterator) ≡ l.initial.so_far.bytes + sum_by bytes_with (runs_of_trafs h l.tracks (at_path (traf ∷ []) (view l.moof))))
    × (pos (l.payload.start + l.so_far.bytes) ≤ℤ l.so_far.end)
    × (l.so_far.timed + sum_by timed_run (runs_of_trafs h l.tracks l.traf-iterator) ≡ l.initial.so_far.timed + sum_by timed_run (runs_of_trafs h l.tracks (at_path (traf ∷ []) (view l.moof))))
    × (l.so_far.timed + sum_by timed_run (runs_of_trafs h l.tracks l.traf-iterator) < 2 ^ 32)
    × (take few_trafs (l.ends.ends.items ++ ends_by h l.tracks l.traf-iterator) ≡ take few_trafs (l.initial.ends.ends.items ++ ends_by h l.tracks (at_path (traf ∷ []) (view l.moof))))
    × (take few_trafs l.ends.ends.items ≡ l.ends.ends.items)
