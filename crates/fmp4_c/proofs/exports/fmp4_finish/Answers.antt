use Rattle.std.proofs.Common.{◌≡◌, ◌∙◌, Some, ap, subst}
use Rattle.fmp4_c.specs.Answers.{number_of}
use Rattle.fmp4_c.specs.Engines.{Holds, Run}
use Rattle.fmp4_c.specs.declared.handle.Handle.{Handle}
use Rattle.fmp4_c.proofs.HoldLemmas.{the-run}
use Rattle.fmp4_c.proofs.exports.fmp4_finish.Goals as goal

pub returns-in-Some-clause-finishes : goal.returns-in-Some-clause-finishes
returns-in-Some-clause-finishes c = λ task b given h. (
  c.finish-answer.result,
  c.number.ensures,
  c.finish-answer.ensures.finishes task b given (subst (λ (x : Run). Holds task b given x) (the-run _ _ _ _ h.0 c.in-Some.ensures (ap (λ (x : Handle). x.held) c.replace.ensures.value) c.deref_mut.ensures.value h.1) h.2),
)

pub returns-in-Some-clause-stopped : goal.returns-in-Some-clause-stopped
returns-in-Some-clause-stopped c = λ r p e here pushes stop.
    let reported = c.finish-answer.ensures.stopped p e (subst (λ (x : Run). x.feeding ≡ Some p) (the-run _ _ _ _ r c.in-Some.ensures (ap (λ (x : Handle). x.held) c.replace.ensures.value) c.deref_mut.ensures.value here) pushes) stop in
    (c.number.ensures ∙ ap number_of reported.0, reported.1)
