use Rattle.mp4_stream.proofs.FeederLemmas.{begun-after, begun-is}
use Rattle.mp4_stream.proofs.feeder.Feeder.with_operation.Goals as goal

pub new-requires-2 : goal.new-requires-2
new-requires-2 c = rw c.new.ensures (begun-is c.args.operation)

pub returns-clause-after : goal.returns-clause-after
returns-clause-after c = rw (c.new-2.ensures.begun, c.new.ensures) (begun-after c.args.operation)
