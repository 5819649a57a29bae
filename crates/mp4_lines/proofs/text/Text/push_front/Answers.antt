use Rattle.std.proofs.Common.{◌≡◌, ◌∙◌, ◌+◌, ◌++◌, ap, arith, length, sym, take}
use Rattle.std.proofs.lemmas.List.{length-take-le, take-take}
use Rattle.mp4_lines.proofs.MoreLemmas.{front}
use Rattle.mp4_lines.proofs.text.Text.push_front.Goals as goal

pub returns-clause-text : goal.returns-clause-text
returns-clause-text g c =
    let old = c.args.self.now in
    let bytes = c.args.bytes.now in
    let at = c.self.inside.len in
    let i = c.loop-i.i in
    let text : take (at + i) c.loop-i.all ≡ old ++ take i bytes = c.loop-i.invariant.text ∙ ap (λ l. l ++ take i bytes) c.self.view_is in
    let long : length old ≡ at = sym (ap length c.self.view_is) ∙ length-take-le at c.self.inside.bytes (omega arith) in
    front c.loop-i.all old (take i bytes) at c.args.n (at + i) text long (omega (arith, c.requires.few, c.loop-i-test.false)) ∙ ap (λ l. old ++ l) (take-take c.args.n i bytes (omega (arith, c.requires.few, c.loop-i-test.false)))
