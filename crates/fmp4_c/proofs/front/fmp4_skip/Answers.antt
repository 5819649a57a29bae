use Rattle.std.proofs.Common.{ap}
use Rattle.fmp4_c.specs.Engines.{SkipClauses}
use Rattle.fmp4_c.specs.declared.handle.Handle.{Handle}
use Rattle.fmp4_c.proofs.HoldLemmas.{handed-back}
use Rattle.fmp4_c.proofs.front.fmp4_skip.Goals as goal

pub returns-in-Some-clause-open : goal.returns-in-Some-clause-open
returns-in-Some-clause-open c = λ r here.
    handed-back (λ x answer left. SkipClauses x c.args.most (record { count = c.skip-gone.result.count; answer = answer }) left)
    _ _ _ _ r c.in-Some.ensures (ap (λ (x : Handle). x.held) c.replace.ensures.value) c.deref_mut.ensures.value here
    _ _ _ _ c.number.ensures c.of-stream.ensures c.skip-gone.ensures
