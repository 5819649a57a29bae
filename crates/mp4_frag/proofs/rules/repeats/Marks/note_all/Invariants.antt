use Rattle.std.proofs.Common.{◌≡◌, ◌+◌, ◌<◌, ◌^◌, drop, length}
use Rattle.mp4_box.specs.Trees.{view, children}
use Rattle.mp4_box.specs.Paths.{of_kind}
use Rattle.mp4_box.specs.Order.{least_from}
use Rattle.mp4_traf.specs.Kinds.{traf}
use Rattle.mp4_frag.specs.Repeats.{repeats, repeat_faults, trafs_before}
use Rattle.mp4_frag.specs.Implementation.RepeatMarks.{marks}
use Rattle.mp4_frag.proofs.rules.repeats.Marks.note_all.Given as goal

abbrev pub invariant-loop-child : goal.invariant-loop-child
invariant-loop-child g l = record {
  few : l.passed + length l.child-iterator < 2 ^ 63;
  rest : drop l.passed (children (view l.moof)) ≡ l.child-iterator;
  seen : l.self.seen ≡ marks g.row.N l.self.ids.items (trafs_before l.passed (view l.moof));
  left : least_from l.best (repeats (trafs_before l.passed (view l.moof)) (of_kind traf l.child-iterator)) ≡ least_from l.fn.best (repeat_faults (view l.moof));
}
