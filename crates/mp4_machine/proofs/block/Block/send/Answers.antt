use Rattle.std.proofs.Common.{◌≡◌, ◌≤◌, Result, Ok, Err, ◌∙◌, ap, arith, length, subst, sym}
use Rattle.std.proofs.lemmas.List.{drop_all}
use Rattle.std.specs.Io.KnownBytes.{Appends}
use Rattle.std.specs.List.{AllByRecursion}
use Rattle.mp4_machine.specs.Readings.{whole_in}
use Rattle.mp4_machine.proofs.BlockLemmas.{Breaks-sent, Passes-sent}
use Rattle.mp4_machine.proofs.block.Block.send.Goals as goal
use Rattle.mp4_machine.proofs.block.Block.send.Goals.{in-Ok, in-Err}

one_or_other : {T E : Type 0} (r : Result T E) {t : T} {e : E} → r ≡ Err e → r ≡ Ok t → ⊥
one_or_other r p q = absurd cc

pub returns-in-Ok-answer-clause-puts : goal.returns-in-Ok-answer-clause-puts
returns-in-Ok-answer-clause-puts g c =
    let v = c.args.self.now in
    let within = subst (λ v. AllByRecursion (λ m. m.end ≤ length v.bytes) v.ends) c.self.view_is c.self.invariant in
    let bytes : c.self.inside.waiting ≡ v.bytes = ap (λ v. v.bytes) c.self.view_is in
    let whole : c.loop-mark.whole ≡ whole_in c.match-answer.taken v.whole v.ends = sym (ap (whole_in c.match-answer.taken c.loop-mark.whole) (drop_all c.loop-mark.mark-index c.deref-mark-items.result.now c.loop-mark-test.false)) ∙ c.loop-mark.invariant.left ∙ ap (whole_in c.match-answer.taken c.self.inside.whole) c.deref-mark-items.ensures.0 ∙ ap (λ v. whole_in c.match-answer.taken v.whole v.ends) c.self.view_is in
    let wrote : (c.match-answer.taken ≡ length v.bytes) × Appends (g.W.Sink.contents c.args.w.now) (g.W.Sink.contents c.write_front-answer.new.w) v.bytes × (g.W.Sink.has_failed c.write_front-answer.new.w ≡ g.W.Sink.has_failed c.args.w.now) =
    elim c.match-answer.branch [
      | in-Ok w ↦ (w.taken-is ∙ w.len-taken.ensures.len ∙ ap length bytes, rw (c.bytes.ensures ∙ bytes) at w.in-Ok.ensures.ok, w.in-Ok.ensures.kept)
      | in-Err w ↦ let e = sym w.answer-is ∙ c.in-Ok-answer.is in absurd cc
    ] in
    record {
      passes = rw (c.clear-in-Ok-answer.ensures, c.clear.ensures, whole) (Passes-sent _ _ v c.match-answer.taken wrote.0 within wrote.1);
      unfailed = wrote.2;
    }

pub returns-in-Err-answer-clause-puts : goal.returns-in-Err-answer-clause-puts
returns-in-Err-answer-clause-puts g c =
    let v = c.args.self.now in
    let bytes : c.bytes.result.now ≡ v.bytes = c.bytes.ensures ∙ ap (λ v. v.bytes) c.self.view_is in
    let whole : c.loop-mark.whole ≡ whole_in c.match-answer.taken v.whole v.ends = sym (ap (whole_in c.match-answer.taken c.loop-mark.whole) (drop_all c.loop-mark.mark-index c.deref-mark-items.result.now c.loop-mark-test.false)) ∙ c.loop-mark.invariant.left ∙ ap (whole_in c.match-answer.taken c.self.inside.whole) c.deref-mark-items.ensures.0 ∙ ap (λ v. whole_in c.match-answer.taken v.whole v.ends) c.self.view_is in
    elim c.match-answer.branch [
      | in-Ok w ↦ absurd (one_or_other _ (sym w.answer-is ∙ c.in-Err-answer.is) w.in-Ok.is)
      | in-Err w ↦
          let short = rw bytes at w.in-Err.ensures.short in
          record {
            breaks = Breaks-sent _ _ v _ c.match-answer.taken (omega (arith, short.0, w.taken-is)) (rw w.taken-is short.1) whole;
            failed = w.in-Err.ensures.failed;
          }
    ]
