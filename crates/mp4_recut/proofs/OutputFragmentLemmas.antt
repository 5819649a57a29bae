-- The output of the media of output fragments.
use Rattle.std.proofs.Common.{true, false, ◌≡◌, ℕ, zero, suc, ◌+◌, ◌-◌, ◌<◌, ◌≤◌, List, [], ◌∷◌, ◌++◌, length, take, drop, ap, sym, ◌∙◌, refl, arith, append-nil, length-append, length-drop, ⊎_elim, subst}
use Rattle.std.proofs.Math.Seq.{take-append-add, drop-append-add}
use Rattle.std.proofs.lemmas.List.{drop-drop, take-append-le, drop-append-le}
use Rattle.std.proofs.lemmas.Bool.{cases_lt, ltb-true, ltb-false}
use Rattle.std.specs.Prelude.{Bool, nat_lt, if◌then◌else◌}
use Rattle.mp4_machine.specs.Readings.{ArePast, Effects, no_effects, says, both, Extends}
use Rattle.mp4_machine.proofs.BodyLemmas.{nat_lt_true, nat_lt_false}
use Rattle.mp4_machine.proofs.ReadingLemmas.{both-assoc, silent-both}
use Rattle.mp4_machine.proofs.ReadingGrowthLemmas.{Extends-silent, Extends-same, Extends-says, Extends-goes_on, Extends-after}
use Rattle.mp4_recut.proofs.PastLemmas.{FragmentsPast, output_of-past, span_of-past}
use Rattle.mp4_recut.specs.Media.{IsPlain}
use Rattle.mp4_recut.specs.OutputFragments.{OutputFragment, fragment_ends_in, opens, fragments_effects, span_of, span_from, output_of, slices, Ascends, ascends_from}

-- ---- turns of a span

-- a span with bytes
pub span-some : (at place n : ℕ) (more : ℕ → List ℕ → Effects) (bytes : List ℕ) → 0 < n
    → span_from at place n more bytes ≡ span_of n (drop (place - at) bytes) (more (at + (place - at) + n))
span-some at place zero more bytes h = absurd (omega arith)
span-some at place (suc n) more bytes h = refl

-- bytes before it came
pub span-skipped : (at place n : ℕ) (more : ℕ → List ℕ → Effects) (x later : List ℕ) → 0 < n → at + length x ≤ place
    → span_from at place n more (x ++ later) ≡ span_from (at + length x) place n more later
span-skipped at place n more x later some h =
    let far : place - at ≡ length x + (place - (at + length x)) = omega arith in
    let same : at + (place - at) ≡ at + length x + (place - (at + length x)) = omega arith in
    span-some at place n more (x ++ later) some
    ∙ ap (λ d. span_of n d (more (at + (place - at) + n))) (ap (λ k. drop k (x ++ later)) far ∙ drop-append-add x later (place - (at + length x)))
    ∙ ap (λ m. span_of n (drop (place - (at + length x)) later) (more (m + n))) same
    ∙ sym (span-some (at + length x) place n more later some)

-- bytes of it came
pub span-took : (at place k : ℕ) (more : ℕ → List ℕ → Effects) (x later : List ℕ) → place ≤ at → 0 < length x
    → span_from at place (length x + k) more (x ++ later) ≡ both (says x) (span_from (at + length x) place k more later)
span-took at place k more x later h some =
    let e : place - at ≡ 0 = omega arith in
    span-some at place (length x + k) more (x ++ later) (omega arith)
    ∙ ap (λ d. span_of (length x + k) (drop d (x ++ later)) (more (at + d + (length x + k)))) e
    ∙ rest k
  where
    rest : (k : ℕ) → span_of (length x + k) (x ++ later) (more (at + 0 + (length x + k))) ≡ both (says x) (span_from (at + length x) place k more later)
    rest zero =
        let z : at + 0 + (length x + 0) ≡ at + length x = omega arith in
        rw (nat_lt_false (length (x ++ later)) (length x + 0) (omega (arith, length-append x later)), take-append-add, drop-append-add, z)
        (ap (λ l. both (says l) (more (at + length x) later)) (append-nil x))
    rest (suc k) =
        let f : place - (at + length x) ≡ 0 = omega arith in
        let g : at + 0 + (length x + suc k) ≡ at + length x + 0 + suc k = omega arith in
        ⊎_elim
        (λ (short : length later < suc k). rw (nat_lt_true (length (x ++ later)) (length x + suc k) (omega (arith, length-append x later)), f, nat_lt_true (length later) (suc k) short) refl)
        (λ (whole : suc k ≤ length later). rw (nat_lt_false (length (x ++ later)) (length x + suc k) (omega (arith, length-append x later)), f, nat_lt_false (length later) (suc k) whole, take-append-add, drop-append-add, g)
        (both-assoc (says x) (says (take (suc k) later)) (more (at + length x + 0 + suc k) (drop (suc k) later))))
        (cases_lt (length later) (suc k))

-- one of which bytes are missing has no further effects
pub span-waits : (at place n : ℕ) (more : ℕ → List ℕ → Effects) → 0 < n → span_from at place n more [] ≡ no_effects
span-waits at place zero more h = absurd (omega arith)
span-waits at place (suc n) more h = none (place - at)
  where
    none : (k : ℕ) → span_of (suc n) (drop k []) (more (at + (place - at) + suc n)) ≡ no_effects
    none zero = rw (nat_lt_true 0 (suc n) (omega arith)) refl
    none (suc k) = rw (nat_lt_true 0 (suc n) (omega arith)) refl

-- ---- more bytes have more effects

of-grows : (n : ℕ) (more : List ℕ → Effects) → ((b x : List ℕ) → Extends (more b) (more (b ++ x))) → ((b : List ℕ) → ArePast 0 (more b).fragment_ends) → (b x : List ℕ) → Extends (span_of n b more) (span_of n (b ++ x) more)
of-grows n more grow past b x = by (nat_lt (length b) n) (nat_lt (length (b ++ x)) n) refl refl
  where
    by : (u v : Bool) → nat_lt (length b) n ≡ u → nat_lt (length (b ++ x)) n ≡ v → Extends (span_of n b more) (span_of n (b ++ x) more)
    by true true e f = rw (e, f) (Extends-says b x)
    by true false e f =
        let short : length b < n = ltb-true _ _ e in
        let ahead : take n (b ++ x) ≡ b ++ take (n - length b) x = ap (λ k. take k (b ++ x)) (omega arith) ∙ take-append-add b x (n - length b) in
        rw (e, f, ahead) (Extends-goes_on b (take (n - length b) x) (more (drop n (b ++ x))) (past (drop n (b ++ x))))
    by false v e f =
        let enough : n ≤ length b = ltb-false _ _ e in
        rw (e, nat_lt_false (length (b ++ x)) n (omega (arith, length-append b x)), take-append-le n b x enough, drop-append-le n b x enough)
        (Extends-after (says (take n b)) (more (drop n b)) (more (drop n b ++ x)) (grow (drop n b) x))

none_left : (k : ℕ) (b : List ℕ) → length b ≤ k → drop k b ≡ []
none_left zero [] h = refl
none_left (suc k) [] h = refl
none_left zero (a ∷ b) h = absurd (omega arith)
none_left (suc k) (a ∷ b) h = none_left k b (omega arith)

skip-grows : (n k : ℕ) (more : List ℕ → Effects) → ((b x : List ℕ) → Extends (more b) (more (b ++ x))) → ((b : List ℕ) → ArePast 0 (more b).fragment_ends) → 0 < n → (b x : List ℕ) → Extends (span_of n (drop k b) more) (span_of n (drop k (b ++ x)) more)
skip-grows n k more grow past some b x = ⊎_elim
    (λ (short : length b < k). subst (λ l. Extends (span_of n l more) (span_of n (drop k (b ++ x)) more)) (sym (none_left k b (omega arith)))
    (rw (nat_lt_true 0 n some) (Extends-silent _ (span_of-past n (drop k (b ++ x)) more past _ refl))))
    (λ (long : k ≤ length b). subst (λ l. Extends (span_of n (drop k b) more) (span_of n l more)) (sym (drop-append-le k b x long)) (of-grows n more grow past (drop k b) x))
    (cases_lt (length b) k)

pub span-grows : (at place n : ℕ) (more : ℕ → List ℕ → Effects) → ((m : ℕ) (b x : List ℕ) → Extends (more m b) (more m (b ++ x))) → ((m : ℕ) (b : List ℕ) → ArePast 0 (more m b).fragment_ends) → (b x : List ℕ) → Extends (span_from at place n more b) (span_from at place n more (b ++ x))
span-grows at place zero more grow past b x = grow at b x
span-grows at place (suc n) more grow past b x = skip-grows (suc n) (place - at) (more (at + (place - at) + suc n)) (grow (at + (place - at) + suc n)) (past (at + (place - at) + suc n)) (omega arith) b x

pub output_of-grows : (at : ℕ) (ps : List OutputFragment) → FragmentsPast ps → (b x : List ℕ) → Extends (output_of at ps b) (output_of at ps (b ++ x))
output_of-grows at [] past b x = Extends-same no_effects
output_of-grows at (p ∷ ps) past b x =
    Extends-after (opens p) _ _ (span-grows at p.place p.len (λ next rest. output_of next ps rest) (λ m b x. output_of-grows m ps past.1 b x) (λ m b. output_of-past m ps b past.1) b x)

-- ---- the effects request nothing, and count only fragments

plain-both : (s t : Effects) → IsPlain s → IsPlain t → IsPlain (both s t)
plain-both s t p q = record {
  requests = rw (p.requests, q.requests) refl;
  samples = omega (arith, p.samples, q.samples);
  media = omega (arith, p.media, q.media);
  inspected = omega (arith, p.inspected, q.inspected);
}

plain-says : (x : List ℕ) → IsPlain (says x)
plain-says x = record { requests = refl; samples = refl; media = refl; inspected = refl }

plain-of : (n : ℕ) (bytes : List ℕ) (more : List ℕ → Effects) → ((b : List ℕ) → IsPlain (more b)) → IsPlain (span_of n bytes more)
plain-of n bytes more p = by (nat_lt (length bytes) n)
  where
    by : (u : Bool) → IsPlain (if u then says bytes else both (says (take n bytes)) (more (drop n bytes)))
    by true = plain-says bytes
    by false = plain-both (says (take n bytes)) (more (drop n bytes)) (plain-says (take n bytes)) (p (drop n bytes))

plain-from : (at place n : ℕ) (bytes : List ℕ) (more : ℕ → List ℕ → Effects) → ((m : ℕ) (b : List ℕ) → IsPlain (more m b)) → IsPlain (span_from at place n more bytes)
plain-from at place zero bytes more p = p at bytes
plain-from at place (suc n) bytes more p = plain-of (suc n) (drop (place - at) bytes) (more (at + (place - at) + suc n)) (p (at + (place - at) + suc n))

pub output_of-plain : (at : ℕ) (ps : List OutputFragment) (bytes : List ℕ) → IsPlain (output_of at ps bytes)
output_of-plain at [] bytes = record { requests = refl; samples = refl; media = refl; inspected = refl }
output_of-plain at (p ∷ ps) bytes =
    plain-both (opens p) _ (record { requests = refl; samples = refl; media = refl; inspected = refl })
    (plain-from at p.place p.len bytes (λ next rest. output_of next ps rest) (λ m b. output_of-plain m ps b))

-- ---- all bytes came

span-all : (start at : ℕ) (payload : List ℕ) (place n : ℕ) (more : ℕ → List ℕ → Effects) (rest : Effects) → start ≤ at
    → ascends_from at (start + length payload) place n (λ next. start ≤ next → more next (drop (next - start) payload) ≡ rest)
    → span_from at place n more (drop (at - start) payload) ≡ both (says (take n (drop (place - start) payload))) rest
span-all start at payload place zero more rest low a = a low ∙ sym (silent-both rest)
span-all start at payload place (suc n) more rest low a =
    let there : drop (place - at) (drop (at - start) payload) ≡ drop (place - start) payload = drop-drop (place - at) (at - start) payload ∙ ap (λ k. drop k payload) (omega (arith, a.0)) in
    let next : at + (place - at) ≡ place = omega (arith, a.0) in
    let after : drop (suc n) (drop (place - start) payload) ≡ drop (place + suc n - start) payload = drop-drop (suc n) (place - start) payload ∙ ap (λ k. drop k payload) (omega (arith, a.0)) in
    let all : suc n ≤ length (drop (place - start) payload) = omega (arith, a.0, a.1, length-drop (place - start) payload) in
    ap (λ l. span_of (suc n) l (more (at + (place - at) + suc n))) there
    ∙ ap (λ m. span_of (suc n) (drop (place - start) payload) (more (m + suc n))) next
    ∙ rw (nat_lt_false (length (drop (place - start) payload)) (suc n) all) (ap (both (says (take (suc n) (drop (place - start) payload))))
    (ap (more (place + suc n)) after ∙ a.2 (omega (arith, a.0))))

ascends-map : (at end place n : ℕ) (P Q : ℕ → Type 0) → ((next : ℕ) → P next → Q next) → ascends_from at end place n P → ascends_from at end place n Q
ascends-map at end place zero P Q f a = f at a
ascends-map at end place (suc n) P Q f a = (a.0, a.1, f (place + suc n) a.2)

-- the effects of a whole payload
abbrev pub emitted_all : ℕ → List ℕ → List OutputFragment → Effects
emitted_all start payload ps = fragments_effects (slices start payload ps) (fragment_ends_in start payload ps) (length ps)

pub emitted-more : (start : ℕ) (payload : List ℕ) (p : OutputFragment) (ps : List OutputFragment) → both (opens p) (both (says (take p.len (drop (p.place - start) payload))) (emitted_all start payload ps)) ≡ emitted_all start payload (p ∷ ps)
emitted-more start payload p ps =
    let e : 1 + (0 + length ps) ≡ suc (length ps) = omega arith in
    ap (fragments_effects (slices start payload (p ∷ ps)) (fragment_ends_in start payload (p ∷ ps))) e

pub output_of-all : (start at : ℕ) (payload : List ℕ) (ps : List OutputFragment) → Ascends at (start + length payload) ps → start ≤ at → output_of at ps (drop (at - start) payload) ≡ emitted_all start payload ps
output_of-all start at payload [] a low = refl
output_of-all start at payload (p ∷ ps) a low =
    ap (both (opens p)) (span-all start at payload p.place p.len (λ next rest. output_of next ps rest) (emitted_all start payload ps) low
    (ascends-map at (start + length payload) p.place p.len (λ next. Ascends next (start + length payload) ps) (λ next. start ≤ next → output_of next ps (drop (next - start) payload) ≡ emitted_all start payload ps)
    (λ next b. output_of-all start next payload ps b) a))
    ∙ emitted-more start payload p ps

pub output_of-slices : (start : ℕ) (payload : List ℕ) (ps : List OutputFragment) → Ascends start (start + length payload) ps → output_of start ps payload ≡ emitted_all start payload ps
output_of-slices start payload ps a =
    let none : start - start ≡ 0 = omega arith in
    ap (λ k. output_of start ps (drop k payload)) (sym none) ∙ output_of-all start start payload ps a (omega arith)
