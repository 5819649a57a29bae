-- The bytes of one more input, by those that came before.
use Rattle.std.proofs.Common.{◌≡◌, ℕ, ◌+◌, List, ◌++◌, length, Option, ap, sym, ◌∙◌, arith, length-append, subst}
use Rattle.std.proofs.KnownBytes.{Appends-trans}
use Rattle.std.specs.Io.KnownBytes.{Appends}
use Rattle.mp4_machine.specs.Fed.{AllWhole, Borrowed, WritesRest}
use Rattle.mp4_machine.specs.Readings.{Reading, both, whole_in}
use Rattle.mp4_machine.proofs.MarkLemmas.{whole_in-both}

pub text-more : (reads : List ℕ → Reading) (b b' : List ℕ) (l : Borrowed) (own own' : ℕ) → WritesRest reads b b' l own own' → (first : Option (List ℕ)) → Appends first l.written (reads b).effects.text → Appends first l.written' (reads b').effects.text
text-more reads b b' l own own' r first h = subst (λ t. Appends first l.written' t.text) (sym r.all) (Appends-trans first l.written l.written' (reads b).effects.text r.effects.text h r.text)

-- the fragments that b' adds to b are whole too
pub whole-more : (reads : List ℕ → Reading) (b b' : List ℕ) (l : Borrowed) (own own' : ℕ) → WritesRest reads b b' l own own' → AllWhole (reads b).effects l.whole → AllWhole (reads b').effects l.whole'
whole-more reads b b' l own own' r h n =
    let t = (reads b).effects in
    let len : length (t.text ++ r.effects.text) + n ≡ length t.text + (length r.effects.text + n) = omega (arith, length-append t.text r.effects.text) in
    ap (λ x. whole_in (length x.text + n) 0 x.fragment_ends) r.all
    ∙ ap (λ k. whole_in k 0 (both t r.effects).fragment_ends) len
    ∙ whole_in-both (length t.text) 0 l.whole t.fragment_ends r.effects.fragment_ends h (length r.effects.text + n)
    ∙ r.fragments n
