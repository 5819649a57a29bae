use Rattle.std.proofs.Common.{◌≡◌, ◌+◌, [], ◌∷◌}
use Rattle.mp4_box.specs.Paths.{at_path, of_kind}
use Rattle.mp4_box.specs.Trees.{children, view}
use Rattle.mp4_traf.specs.Kinds.{trun}
use Rattle.mp4_traf.specs.Implementation.TrafContexts.{shared_of}
use Rattle.mp4_traf.specs.Settling.{timed_in}
use Rattle.mp4_traf.specs.Implementation.Ends.{ticks_from}
use Rattle.mp4_traf.specs.Implementation.Times.{late_from}
use Rattle.mp4_traf.proofs.end.end_traf.Given as goal

-- the truns that are left end where all end, and in time; their samples and those so far are all
abbrev pub invariant-loop-child : goal.invariant-loop-child
invariant-loop-child l = record {
  left : ticks_from (shared_of l.context) l.end (of_kind trun l.child-iterator) ≡ ticks_from (shared_of l.context) l.time (of_kind trun (children (view l.fn.traf)));
  late : late_from (shared_of l.context) l.end (of_kind trun l.child-iterator) ≡ [];
  count : l.count + timed_in (of_kind trun l.child-iterator) ≡ l.fn.count + timed_in (at_path (trun ∷ []) (view l.fn.traf));
}
