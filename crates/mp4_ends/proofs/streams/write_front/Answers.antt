use Rattle.std.proofs.Common.{rules, sym, ◌∙◌}
use Rattle.std.proofs.lemmas.List.{take_rest}
use Rattle.mp4_ends.proofs.StreamLemmas.{Appends-take_more, Appends-kept}
use Rattle.mp4_ends.proofs.streams.write_front.Goals as goal

pub returns-in-Err-clause-short : goal.returns-in-Err-clause-short
returns-in-Err-clause-short g c = (search rules, Appends-kept _ _ _ _ c.loop-at.invariant.taken c.in-Err.ensures.bytes)

pub loop-at-preserved : goal.loop-at-preserved
loop-at-preserved g c =
    let now_failed = c.in-Ok.ensures.failed_ok in
    let wrote = simp take_rest at c.in-Ok.ensures.bytes in
    record {
      within = let b = c.in-Ok.ensures.bound in search rules;
      taken = Appends-take_more _ _ _ _ _ _ c.loop-at.invariant.taken wrote;
      kept = now_failed.1 ∙ sym now_failed.0 ∙ c.loop-at.invariant.kept;
    }
