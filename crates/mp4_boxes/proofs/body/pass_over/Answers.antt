use Rattle.std.proofs.Common.{refl}
use Rattle.mp4_machine.proofs.ContinuationLemmas.{IsLeft-begun}
use Rattle.mp4_boxes.proofs.StateLemmas.{GoesOn-body, GoesOn-empty, needs_none}
use Rattle.mp4_boxes.proofs.body.pass_over.Goals as goal

pub returns-in-Empty-clause-goes : goal.returns-in-Empty-clause-goes
returns-in-Empty-clause-goes c = λ o. GoesOn-empty o c.args.at c.args.header.now c.in-Empty.next c.in-Empty.ensures

pub returns-in-Bytes-clause-goes : goal.returns-in-Bytes-clause-goes
returns-in-Bytes-clause-goes c = λ o.
    let (same, some) = c.in-Bytes.ensures in
    rw same (GoesOn-body o c.args.at c.args.header.now c.args.header.now.size refl some)

pub returns-in-Bytes-clause-state : goal.returns-in-Bytes-clause-state
returns-in-Bytes-clause-state c =
    let (same, some) = c.in-Bytes.ensures in
    rw same (refl, IsLeft-begun c.args.at 0 c.args.header.now c.args.header.now.size some, needs_none c.args.at c.args.header.now.size)
