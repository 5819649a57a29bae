use Rattle.std.proofs.Common.{◌≡◌, cond, true, take}
use Rattle.mp4_box.specs.Trees.{view}
use Rattle.mp4_box.specs.Paths.{of_kind}
use Rattle.mp4_traf.specs.Kinds.{traf}
use Rattle.mp4_frag.specs.Repeats.{is_listed, trafs_before}
use Rattle.mp4_frag.specs.Implementation.RepeatMarks.{all_marked, marks}
use Rattle.mp4_frag.proofs.rules.repeats.Marks.refill.Given as goal

abbrev pub invariant-loop-child : goal.invariant-loop-child
invariant-loop-child g l = record {
  seen : all_marked l.self.ids.items l.self.seen (of_kind traf (take l.left l.child-iterator)) ≡ marks g.row.N l.self.ids.items (trafs_before l.passed (view l.moof));
  listed : cond l.found true (is_listed l.id (of_kind traf (take l.left l.child-iterator))) ≡ is_listed l.id (trafs_before l.passed (view l.moof));
}
