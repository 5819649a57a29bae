use Rattle.mp4_boxes.specs.States.{begun, continuation_in}
use Rattle.mp4_machine.specs.Readings.{uncounted}
use Rattle.mp4_machine.proofs.FedMachineLemmas.{after-begun}
use Rattle.mp4_stream.proofs.BoxFeederLemmas.{begun-is}
use Rattle.mp4_stream.proofs.box_feeder.BoxFeeder.new.Goals as goal

pub new-requires-2 : goal.new-requires-2
new-requires-2 c = rw c.new.ensures begun-is

pub returns-clause-after : goal.returns-clause-after
returns-clause-after c = rw (c.new-2.ensures.begun, c.new.ensures) (after-begun (continuation_in begun) uncounted begun-is)
