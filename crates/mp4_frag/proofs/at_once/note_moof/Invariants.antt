use Rattle.std.proofs.Common.{◌≡◌, ◌+◌, true, length}
use Rattle.std.specs.List.{AllByRecursion, flat_map, list_all, sum_by}
use Rattle.mp4_box.specs.Order.{least_from}
use Rattle.mp4_box.specs.Paths.{of_kind}
use Rattle.mp4_box.specs.Trees.{view, box_len, children}
use Rattle.mp4_frag.specs.declared.at_once.MoofCounts.{MoofCounts}
use Rattle.mp4_frag.specs.Implementation.AtOnce.{Adds, TrafHasTicks, faults_in_moof, in_trafs, is_complete, most_64}
use Rattle.mp4_traf.specs.Kinds.{mfhd, traf}
use Rattle.mp4_frag.specs.Repeats.{untimed_ids}
use Rattle.mp4_frag.proofs.AddLemmas.{AddsUp}
use Rattle.mp4_frag.proofs.at_once.note_moof.Given as goal

abbrev pub invariant-loop-child : goal.invariant-loop-child
invariant-loop-child l = record {
  left : least_from l.best (flat_map (faults_in_moof l.tracks) l.child-iterator) ≡ least_from l.fn.best (flat_map (faults_in_moof l.tracks) (children (view l.moof)));
  ticks : AllByRecursion (TrafHasTicks l.tracks) (of_kind traf l.child-iterator) → AllByRecursion (TrafHasTicks l.tracks) (of_kind traf (children (view l.moof)));
  adds : (s : MoofCounts) → Adds (in_trafs l.child-iterator) l.sound s → Adds (in_trafs (children (view l.moof))) l.fn.sound s;
  trafs : l.complete ≡ true → list_all is_complete (of_kind traf l.child-iterator) ≡ true → list_all is_complete (of_kind traf (children (view l.moof))) ≡ true;
  untimed : l.complete ≡ true → AddsUp most_64 l.untimed (length (untimed_ids (of_kind traf l.child-iterator))) (l.fn.untimed + length (untimed_ids (of_kind traf (children (view l.moof)))));
  mfhds : AddsUp most_64 l.mfhds (length (of_kind mfhd l.child-iterator)) (length (of_kind mfhd (children (view l.moof))));
  len : AddsUp most_64 l.len (sum_by box_len l.child-iterator) (sum_by box_len (children (view l.moof)));
}
