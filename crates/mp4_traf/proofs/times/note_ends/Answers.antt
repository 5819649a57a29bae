use Rattle.std.proofs.Common.{arith}
use Rattle.mp4_box.specs.Order.{least_from}
use Rattle.mp4_box.proofs.OrderLemmas.{least_from_append}
use Rattle.mp4_traf.specs.Implementation.Times.{late_from}
use Rattle.mp4_traf.proofs.times.note_ends.Goals as goal

pub loop-child-preserved-then-is : goal.loop-child-preserved-then-is
unfolding late_from least_from
loop-child-preserved-then-is c = grind (arith, least_from_append)

pub returns : goal.returns
unfolding late_from least_from
returns c = grind (arith, least_from_append)
