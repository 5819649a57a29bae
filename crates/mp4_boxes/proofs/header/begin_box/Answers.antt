use Rattle.std.proofs.Common.{◌∙◌, [], arith, refl, rules, sym}
use Rattle.mp4_box.proofs.HeaderLemmas.{need-least, whole_is}
use Rattle.mp4_machine.proofs.StepLemmas.{GoesOn-then, StopsIn-refused}
use Rattle.mp4_boxes.specs.States.{continuation_at, environment}
use Rattle.mp4_boxes.proofs.StateLemmas.{GoesOn-line, Refuses-far, WriteFailed-line}
use Rattle.mp4_boxes.proofs.header.begin_box.Goals as goal

pub returns-then-is_too_long-clause-consumes : goal.returns-then-is_too_long-clause-consumes
returns-then-is_too_long-clause-consumes g c =
    rw c.at_fault.ensures (StopsIn-refused refl (λ more. Refuses-far _ c.args.at c.args.header.now c.args.input.now c.requires.is more (c.is_too_long.ensures.0 c.if-is_too_long.true)), refl)

pub returns-in-Ok-clause-consumes : goal.returns-in-Ok-clause-consumes
returns-in-Ok-clause-consumes g c =
    let h = c.args.header.now in
    let input = c.args.input.now in
    let next = c.pass_over.ensures in
    let w = whole_is input h c.requires.is in
    let line = GoesOn-line _ c.args.at h input c.requires.is _ c.put_box.new.out (search rules) (sym c.held_limit.ensures ∙ c.in-None.is) c.in-Ok.ensures.passes in (
      omega (arith, w.1, need-least input),
      omega (arith, w.0, w.1),
      record { goes = GoesOn-then (omega arith) line (continuation_at [] c.pass_over.result) (next.goes _); unfailed = c.in-Ok.ensures.unfailed; claim = omega (arith, next.claim) },
      next.state,
    )

pub returns-in-Err-clause-consumes : goal.returns-in-Err-clause-consumes
returns-in-Err-clause-consumes g c = (
  record {
    stops = λ more later. WriteFailed-line (environment (g.W.Sink.contents c.args.w.now) c.args.out.now c.args.ledger.now) c.args.at c.args.header.now c.args.input.now c.requires.is _ _ more later (search rules) (sym c.held_limit.ensures ∙ c.in-None.is) c.in-Err.ensures.breaks;
    failed = λ _. c.in-Err.ensures.failed;
    unfailed = λ other. absurd (other refl);
  },
  refl,
)
