use Rattle.std.proofs.Common.{◌≡◌, length}
use Rattle.std.specs.List.{AllByRecursion, flat_map, sum_by}
use Rattle.mp4_box.specs.Order.{least_from}
use Rattle.mp4_box.specs.Paths.{of_kind}
use Rattle.mp4_box.specs.Trees.{view, box_len, children}
use Rattle.mp4_frag.specs.declared.at_once.MoofCounts.{MoofCounts}
use Rattle.mp4_frag.specs.Implementation.AtOnce.{Adds, TrafHasTicks, faults_in_traf, most_64}
use Rattle.mp4_traf.specs.Implementation.Heads.{HasTicks}
use Rattle.mp4_traf.specs.Kinds.{tfhd, tfdt}
use Rattle.mp4_frag.proofs.AddLemmas.{AddsUp}
use Rattle.mp4_frag.proofs.at_once.child_at_once.note_traf.Given as goal

abbrev pub invariant-loop-child : goal.invariant-loop-child
invariant-loop-child l = record {
  left : least_from l.best (flat_map (faults_in_traf l.tracks) l.child-iterator) ≡ least_from l.fn.best (flat_map (faults_in_traf l.tracks) (children (view l.traf)));
  ticks : AllByRecursion (HasTicks l.tracks) (of_kind tfhd l.child-iterator) → TrafHasTicks l.tracks (view l.traf);
  adds : (s : MoofCounts) → Adds l.child-iterator l.sound s → Adds (children (view l.traf)) l.fn.sound s;
  tfhds : AddsUp most_64 l.tfhds (length (of_kind tfhd l.child-iterator)) (length (of_kind tfhd (children (view l.traf))));
  tfdts : AddsUp most_64 l.tfdts (length (of_kind tfdt l.child-iterator)) (length (of_kind tfdt (children (view l.traf))));
  len : AddsUp most_64 l.len (sum_by box_len l.child-iterator) (sum_by box_len (children (view l.traf)));
}
