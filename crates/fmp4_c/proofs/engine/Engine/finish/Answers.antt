use Rattle.std.proofs.Common.{sym, subst, refl}
use Rattle.fmp4_c.specs.Engines.{Finished, Holds, Run}
use Rattle.fmp4_c.specs.declared.answer.Answer.{Answer}
use Rattle.fmp4_c.proofs.HoldLemmas.{after-its, finished-err, finished-ok}
use Rattle.fmp4_c.proofs.engine.Engine.finish.Goals as goal

pub returns-in-Err-clause-finishes : goal.returns-in-Err-clause-finishes
returns-in-Err-clause-finishes c = λ task b given h.
    let p = c.in-Some.feeder in
    let now : Run = record { account = c.self.inside.ledger; feeding = c.self.inside.feeder; waiting = c.self.inside.out; share = c.self.inside.share; reported = c.self.inside.reported; task = c.self.inside.task } in
    let before : Holds task b given now = subst (λ (r : Run). Holds task b given r) (sym c.self.view_is) h in
    let is = sym c.in-Some.ensures.value in
    subst (λ (a : Answer). Finished task b a c.of-in-Err.result) (sym c.of_stop.ensures)
    (finished-err task b given now p c.in-Err.stop is before (c.in-Err.ensures.finishes b (after-its task b given now p is before)) c.of-in-Err.result
    (rw (c.of-in-Err.ensures, c.totals-totals.ensures, c.fault_in.ensures) refl))

pub returns-in-Ok-clause-finishes : goal.returns-in-Ok-clause-finishes
returns-in-Ok-clause-finishes c = λ task b given h.
    let p = c.in-Some.feeder in
    let now : Run = record { account = c.self.inside.ledger; feeding = c.self.inside.feeder; waiting = c.self.inside.out; share = c.self.inside.share; reported = c.self.inside.reported; task = c.self.inside.task } in
    let before : Holds task b given now = subst (λ (r : Run). Holds task b given r) (sym c.self.view_is) h in
    let is = sym c.in-Some.ensures.value in
    finished-ok task b given now p c.in-Ok.field-0 is before (c.in-Ok.ensures.finishes b (after-its task b given now p is before)) c.of.result
    (rw (c.of.ensures, c.totals-totals.ensures) refl)
