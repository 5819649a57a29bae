use Rattle.mp4_machine.proofs.FedMachineLemmas.{after-begun}
use Rattle.mp4_machine.proofs.fed_machine.FedMachine.new.Goals as goal

pub returns-clause-after : goal.returns-clause-after
returns-clause-after g c = rw c.new.ensures (after-begun _ _ c.requires)
