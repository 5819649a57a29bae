use Rattle.std.proofs.Common.{◌≡◌, ◌∙◌, Some, ap, subst}
use Rattle.fmp4_c.specs.Answers.{number_of}
use Rattle.fmp4_c.specs.Engines.{Run}
use Rattle.fmp4_c.specs.declared.handle.Handle.{Handle}
use Rattle.fmp4_c.proofs.HoldLemmas.{report-holds, the-run}
use Rattle.fmp4_c.proofs.exports.fmp4_totals.Goals as goal

pub returns-in-Some-clause-reports : goal.returns-in-Some-clause-reports
returns-in-Some-clause-reports c = λ r p here pushes.
    let reported = c.totals-answer.ensures.reports p (subst (λ (x : Run). x.feeding ≡ Some p) (the-run _ _ _ _ r c.in-Some.ensures (ap (λ (x : Handle). x.held) c.replace.ensures.value) c.deref_mut.ensures.value here) pushes) in
    (c.number.ensures ∙ ap number_of reported.0, reported.1)

pub returns-in-Some-clause-counts : goal.returns-in-Some-clause-counts
returns-in-Some-clause-counts c = λ task b given h.
    let reported = c.totals-answer.ensures.reports h.2.feeding (subst (λ (x : Run). x.feeding ≡ Some h.2.feeding) (the-run _ _ _ _ h.0 c.in-Some.ensures (ap (λ (x : Handle). x.held) c.replace.ensures.value) c.deref_mut.ensures.value h.1) h.2.runs) in
    reported.1 ∙ report-holds task b given h.0 h.2
