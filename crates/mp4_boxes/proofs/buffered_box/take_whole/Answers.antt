use Rattle.std.proofs.Common.{◌+◌, ap, arith, Err, refl}
use Rattle.mp4_ledger.specs.Memory.{claimed}
use Rattle.mp4_machine.proofs.AccountLemmas.{within_limit}
use Rattle.mp4_machine.proofs.HeadLemmas.{take-is}
use Rattle.mp4_machine.proofs.StepLemmas.{GoesTo-then, StopsIn-then}
use Rattle.mp4_boxes.specs.States.{environment}
use Rattle.mp4_boxes.proofs.StateLemmas.{StopsIn-refused_claim, box_come, come_whole}
use Rattle.mp4_boxes.proofs.buffered_box.take_whole.Goals as goal

pub returns-in-Err-clause-consumes : goal.returns-in-Err-clause-consumes
returns-in-Err-clause-consumes g c =
    let refused = c.in-Err.ensures in
    let (limit, buffered, fits) = c.requires.buffered in
    rw (c.of_refusal.ensures, refused.err) (
      StopsIn-refused_claim _ c.args.at c.args.header.now c.args.input.now c.requires.is limit c.args.size c.requires.end buffered c.requires.size fits c.in-Err.refused
          (λ e. refused.over_limit.0 (ap Err e))
          (λ e. within_limit c.args.ledger.now.limit (c.args.ledger.now.live + c.args.size) (ap Err e) refused.over_limit.1),
      refl,
    )

pub list_whole-requires-clause-is : goal.list_whole-requires-clause-is
list_whole-requires-clause-is g c = take-is c.args.size c.args.input.now c.args.header.now c.requires.is c.requires.room.0

pub returns-in-Ok-list_whole-clause-consumes : goal.returns-in-Ok-list_whole-clause-consumes
returns-in-Ok-list_whole-clause-consumes g c =
    let (limit, buffered, fits) = c.requires.buffered in
    let o = environment (g.W.Sink.contents c.args.w.now) c.args.out.now c.args.ledger.now in
    let come = come_whole o c.args.at c.args.header.now c.args.input.now c.requires.is limit c.args.size c.requires.end buffered c.requires.size fits c.requires.room in
    rw c.in-Ok.ensures.ok (come.some, c.requires.room.1, GoesTo-then (record { claim = omega arith; goes = come.goes }) (c.in-Ok-list_whole.ensures (box_come c.args.at c.args.header.now c.args.size c.args.input.now) (claimed c.args.ledger.now c.args.size) come.come), (omega arith, c.requires.end))

pub returns-in-Err-list_whole-clause-consumes : goal.returns-in-Err-list_whole-clause-consumes
returns-in-Err-list_whole-clause-consumes g c =
    let (limit, buffered, fits) = c.requires.buffered in
    let o = environment (g.W.Sink.contents c.args.w.now) c.args.out.now c.args.ledger.now in
    let come = come_whole o c.args.at c.args.header.now c.args.input.now c.requires.is limit c.args.size c.requires.end buffered c.requires.size fits c.requires.room in
    rw c.in-Ok.ensures.ok (StopsIn-then c.args.size c.args.input.now (record { claim = omega arith; goes = come.goes }) (c.in-Err-list_whole.ensures (box_come c.args.at c.args.header.now c.args.size c.args.input.now) (claimed c.args.ledger.now c.args.size) come.come), refl)
