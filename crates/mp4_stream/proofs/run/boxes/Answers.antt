use Rattle.std.proofs.Common.{◌≡◌, ap, arith, refl, sym}
use Rattle.mp4_machine.proofs.RunLemmas.{Runs-same}
use Rattle.mp4_boxes.proofs.BoxLemmas.{reading-none}
use Rattle.mp4_boxes.proofs.HeldBoxLemmas.{boxes_bound, boxes_enough, claims_by_largest}
use Rattle.mp4_stream.proofs.run.boxes.Goals as goal

pub read_stream-answer-requires-clause-begun : goal.read_stream-answer-requires-clause-begun
read_stream-answer-requires-clause-begun g c = rw c.new-machine.ensures (record { reached = refl; claim = refl; none = reading-none 0; counted = refl })

pub returns-clause-runs : goal.returns-clause-runs
returns-clause-runs g c =
    let peak : c.give_up.new.ledger.peak ≡ c.read_stream-answer.new.ledger.peak = rw c.give_up.ensures refl in
    let ran = rw c.new-machine.ensures at c.read_stream-answer.ensures.runs in
    let runs = (Runs-same refl refl (sym peak) ran).0 in
    record { runs = runs; by_boxes = claims_by_largest _ c.read_stream-answer.result runs }

pub returns-clause-bound : goal.returns-clause-bound
returns-clause-bound g c =
    let ran = rw c.new-machine.ensures at c.read_stream-answer.ensures.runs in
    omega (arith, ap (λ a. a.peak) c.give_up.ensures, boxes_bound _ c.read_stream-answer.result ran.0)

pub returns-clause-enough : goal.returns-clause-enough
returns-clause-enough g c =
    let ran = rw c.new-machine.ensures at c.read_stream-answer.ensures.runs in
    boxes_enough _ c.read_stream-answer.result ran.0
