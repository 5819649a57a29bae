use Rattle.std.proofs.Common.{◌≡◌, ◌+◌, ◌*◌, ◌<◌, ◌^◌, length}
use Rattle.mp4_box.specs.Order.{least_from}
use Rattle.mp4_box.specs.Paths.{of_kind}
use Rattle.mp4_box.specs.Trees.{children, view}
use Rattle.mp4_traf.specs.Kinds.{trun}
use Rattle.mp4_traf.specs.Implementation.TrafContexts.{shared_of}
use Rattle.mp4_traf.specs.Implementation.Times.{late_from}
use Rattle.mp4_traf.proofs.times.note_ends.Given as goal

-- what is left to note is what is late of the truns that are left
abbrev pub invariant-loop-child : goal.invariant-loop-child
invariant-loop-child l = record {
  left : least_from l.best (late_from (shared_of l.context) l.end (of_kind trun l.child-iterator)) ≡ least_from l.fn.best (late_from (shared_of l.context) l.time (of_kind trun (children (view l.traf))));
  room : l.end + 18446744073709551616 * length l.child-iterator < 2 ^ 128;
}
