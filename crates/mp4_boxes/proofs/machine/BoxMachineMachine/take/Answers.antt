use Rattle.mp4_machine.proofs.StepLemmas.{Takes-goes, Takes-stops}
use Rattle.mp4_boxes.proofs.BoxLemmas.{state-quiet}
use Rattle.mp4_boxes.proofs.machine.BoxMachineMachine.take.Goals as goal

pub returns-in-Ok-clause-takes : goal.returns-in-Ok-clause-takes
returns-in-Ok-clause-takes g c =
    let taken = rw c.replace-state.ensures.value at c.in-Ok.ensures in
    rw (← c.self.view_is, c.put_state.ensures) (Takes-goes c.in-Ok.field-0.count taken.2)

pub returns-in-Ok-clause-quiet : goal.returns-in-Ok-clause-quiet
returns-in-Ok-clause-quiet g c = rw c.put_state.ensures (state-quiet c.take_next.new.header_bytes c.in-Ok.field-0.state c.in-Ok.ensures.3)

pub returns-in-Err-clause-takes : goal.returns-in-Err-clause-takes
returns-in-Err-clause-takes g c =
    let stops = rw c.replace-state.ensures.value at c.in-Err.ensures in
    rw (← c.self.view_is) (Takes-stops c.in-Err.stop stops.0)
