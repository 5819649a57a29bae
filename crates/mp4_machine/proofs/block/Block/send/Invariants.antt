use Rattle.std.proofs.Common.{◌≡◌, drop, length}
use Rattle.mp4_machine.specs.Readings.{whole_in}
use Rattle.mp4_machine.proofs.block.Block.send.Given as goal

-- what the marks say that are left
abbrev pub invariant-loop-mark : goal.invariant-loop-mark
invariant-loop-mark g l = record {
  end : l.mark-index-end ≡ length l.mark-items;
  left : whole_in l.taken l.whole (drop l.mark-index l.mark-items) ≡ whole_in l.taken l.initial.whole l.mark-items;
}
