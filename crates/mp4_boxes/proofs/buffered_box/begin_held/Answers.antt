use Rattle.std.proofs.Common.{◌≤◌, ◌+◌, ap, arith, Err, refl, subst}
use Rattle.std.proofs.Math.Seq.{take-length}
use Rattle.mp4_box.proofs.HeaderLemmas.{need-least, whole_is}
use Rattle.mp4_machine.specs.Bodies.{least_end, longest}
use Rattle.mp4_machine.proofs.AccountLemmas.{within_limit}
use Rattle.mp4_machine.proofs.StepLemmas.{StopsIn-refused}
use Rattle.mp4_boxes.proofs.StateLemmas.{GoesOn-claim, Refuses-large, Refuses-open, StopsIn-refused_claim}
use Rattle.mp4_boxes.proofs.buffered_box.begin_held.Goals as goal

pub returns-in_default-clause-consumes : goal.returns-in_default-clause-consumes
returns-in_default-clause-consumes g c =
    let end = subst (λ s. least_end c.args.at c.args.header.now s ≤ longest) c.in_default.is c.requires.end in
    rw c.at_fault.ensures (StopsIn-refused refl (λ more. Refuses-open _ c.args.at c.args.header.now c.args.input.now c.requires.is more c.args.limit end c.requires.buffered c.in_default.is), refl)

pub returns-then-size-limit-clause-consumes : goal.returns-then-size-limit-clause-consumes
returns-then-size-limit-clause-consumes g c =
    let end = subst (λ s. least_end c.args.at c.args.header.now s ≤ longest) c.in-Exact.is c.requires.end in
    rw c.at_fault-then-size-limit.ensures
    (StopsIn-refused refl (λ more. Refuses-large _ c.args.at c.args.header.now c.args.input.now c.requires.is more c.args.limit c.in-Exact.size end c.requires.buffered c.in-Exact.is c.if-size-limit.true), refl)

pub returns-in-Ok-clause-consumes : goal.returns-in-Ok-clause-consumes
returns-in-Ok-clause-consumes g c =
    let end = subst (λ s. least_end c.args.at c.args.header.now s ≤ longest) c.in-Exact.is c.requires.end in
    let input = c.args.input.now in
    let w = whole_is input c.args.header.now c.requires.is in
    let claim = GoesOn-claim _ c.args.at c.args.header.now input c.requires.is c.args.limit c.in-Exact.size end c.requires.buffered c.in-Exact.is c.if-size-limit.false (omega arith) in
    rw (c.in-Ok.ensures.buffered, c.in-Ok.ensures.ok) (
      omega (arith, w.0, w.1, need-least input),
      omega arith,
      record { goes = rw (take-length input) claim; unfailed = refl; claim = omega arith },
      (refl, omega arith, end, (c.args.header.now, c.requires.is, c.in-Exact.is)),
    )

pub returns-in-Ok-clause-all : goal.returns-in-Ok-clause-all
returns-in-Ok-clause-all g c =
    let w = whole_is c.args.input.now c.args.header.now c.requires.is in
    omega (arith, w.0, w.1)

pub returns-in-Err-clause-consumes : goal.returns-in-Err-clause-consumes
returns-in-Err-clause-consumes g c =
    let end = subst (λ s. least_end c.args.at c.args.header.now s ≤ longest) c.in-Exact.is c.requires.end in
    let refused = c.in-Err.ensures in
    rw (c.of_refusal.ensures, refused.err) (
      StopsIn-refused_claim _ c.args.at c.args.header.now c.args.input.now c.requires.is c.args.limit c.in-Exact.size end c.requires.buffered c.in-Exact.is c.if-size-limit.false c.in-Err.refused
          (λ e. refused.over_limit.0 (ap Err e))
          (λ e. within_limit c.args.ledger.now.limit (c.args.ledger.now.live + c.in-Exact.size) (ap Err e) refused.over_limit.1),
      refl,
    )
