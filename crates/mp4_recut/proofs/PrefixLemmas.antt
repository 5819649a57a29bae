-- The output of a prefix of a payload: the fragments of which all bytes came, the next head, and the bytes of its span that came.
use Rattle.std.proofs.Common.{◌≡◌, ◌∙◌, ℕ, zero, suc, ◌+◌, ◌-◌, ◌<◌, ◌≤◌, List, [], ◌∷◌, ◌++◌, length, take, drop, Bool, true, false, ap, sym, refl, arith, append_assoc, length-drop, length-take}
use Rattle.std.specs.Prelude.{nat_lt}
use Rattle.std.proofs.lemmas.Bool.{ltb-true, ltb-false}
use Rattle.std.proofs.lemmas.List.{drop-drop}
use Rattle.mp4_recut.specs.OutputFragments.{Ascends, ascends_from, CameOf, CameWhole, OutputFragment, open_fragment, output_of, slices, span_from, span_of}

-- what a prefix has from a place on that lies in it is what all has there
take-inside : (k d n : ℕ) (l : List ℕ) → d + k ≤ n → take k (drop d (take n l)) ≡ take k (drop d l)
take-inside zero d n l h = refl
take-inside (suc k) d zero l h = absurd (omega arith)
take-inside (suc k) zero (suc n) [] h = refl
take-inside (suc k) (suc d) (suc n) [] h = refl
take-inside (suc k) zero (suc n) (x ∷ l) h = ap (λ t. x ∷ t) (take-inside k zero n l (omega arith))
take-inside (suc k) (suc d) (suc n) (x ∷ l) h = take-inside (suc k) d n l (omega arith)

-- a part comes before these
abbrev fragment-before : (start n : ℕ) (p : OutputFragment) (ps : List OutputFragment) → CameWhole (start + n) p → CameOf start n ps → CameOf start n (p ∷ ps)
fragment-before start n p ps h s = record { whole = p ∷ s.whole; later = s.later; all = ap (λ l. p ∷ l) s.all; came = (h, s.came); missing = s.missing }

module _ (start n : ℕ) (payload : List ℕ) (few : n ≤ length payload) where
  -- its effects, by the output fragments that are whole and the next
  abbrev emitted_of : (ps : List OutputFragment) → CameOf start n ps → List ℕ
  emitted_of ps s = slices start payload s.whole ++ open_fragment start (take n payload) s.later

  -- the output of these fragments, from a place on
  abbrev Outputs : ℕ → List OutputFragment → Type 0
  Outputs at ps = (s : CameOf start n ps) × ((output_of at ps (drop (at - start) (take n payload))).text ≡ emitted_of ps s)

  none : (at : ℕ) → Outputs at []
  none at = (record { whole = []; later = []; all = refl; came = tt; missing = tt }, refl)

  -- all bytes of the span came, and it is written
  span-came : (p : OutputFragment) (ps : List OutputFragment) (h : CameWhole (start + n) p) (text : List ℕ) (s : CameOf start n ps) → text ≡ emitted_of ps s
      → p.head ++ (take p.len (drop (p.place - start) payload) ++ text) ≡ emitted_of (p ∷ ps) (fragment-before start n p ps h s)
  span-came p ps h text s e =
      ap (λ t. p.head ++ (take p.len (drop (p.place - start) payload) ++ t)) e
      ∙ ap (λ t. p.head ++ t) (sym (append_assoc (take p.len (drop (p.place - start) payload)) (slices start payload s.whole) (open_fragment start (take n payload) s.later)))
      ∙ sym (append_assoc p.head (take p.len (drop (p.place - start) payload) ++ slices start payload s.whole) (open_fragment start (take n payload) s.later))

  -- the next output fragment, with the output of those after it at each place
  module _ (at : ℕ) (ps : List OutputFragment) (low : start ≤ at) (more : (next : ℕ) → Ascends next (start + length payload) ps → start ≤ next → Outputs next ps) where
    -- its span from its place on
    from : ℕ → List ℕ
    from place = drop (place - start) (take n payload)

    from-is : (place : ℕ) → at ≤ place → drop (place - at) (drop (at - start) (take n payload)) ≡ drop (place - start) (take n payload)
    from-is place h = drop-drop (place - at) (at - start) (take n payload) ∙ ap (λ k. drop k (take n payload)) (omega (arith, h, low))

    from-len : (place : ℕ) → length (drop (place - start) (take n payload)) ≡ n - (place - start)
    from-len place = omega (arith, length-drop (place - start) (take n payload), length-take n payload, few)

    step : (p : OutputFragment) (k : ℕ) → p.len ≡ suc k → at ≤ p.place → (Ascends (p.place + suc k) (start + length payload) ps) → (t : Bool) → nat_lt (length (drop (p.place - start) (take n payload))) (suc k) ≡ t
        → (s : CameOf start n (p ∷ ps)) × (p.head ++ (span_of (suc k) (drop (p.place - at) (drop (at - start) (take n payload))) (λ rest. output_of (at + (p.place - at) + suc k) ps rest)).text ≡ emitted_of (p ∷ ps) s)
    step p k e h a true f =
        let short : length (drop (p.place - start) (take n payload)) < suc k = ltb-true _ _ f in (
          record { whole = []; later = p ∷ ps; all = refl; came = tt; missing = (omega (arith, e), omega (arith, e, short, from-len p.place, h, low)) },
          ap (λ l. p.head ++ (span_of (suc k) l (λ rest. output_of (at + (p.place - at) + suc k) ps rest)).text) (from-is p.place h) ∙ rw f refl,
        )
    step p k e h a false f =
        let long : suc k ≤ length (drop (p.place - start) (take n payload)) = ltb-false _ _ f in
        let inside : p.place - start + suc k ≤ n = omega (arith, long, from-len p.place) in
        let (s, g) = more (p.place + suc k) a (omega (arith, h, low)) in
        let whole : CameWhole (start + n) p = λ some. omega (arith, e, inside, h, low) in
        let next : at + (p.place - at) + suc k ≡ p.place + suc k = omega (arith, h) in
        let rest : drop (suc k) (drop (p.place - start) (take n payload)) ≡ drop (p.place + suc k - start) (take n payload) = drop-drop (suc k) (p.place - start) (take n payload) ∙ ap (λ j. drop j (take n payload)) (omega (arith, h, low)) in
        let taken : take (suc k) (drop (p.place - start) (take n payload)) ≡ take p.len (drop (p.place - start) payload) = take-inside (suc k) (p.place - start) n payload inside ∙ ap (λ j. take j (drop (p.place - start) payload)) (sym e) in (
          fragment-before start n p ps whole s,
          ap (λ l. p.head ++ (span_of (suc k) l (λ rest. output_of (at + (p.place - at) + suc k) ps rest)).text) (from-is p.place h)
              ∙ rw f refl
              ∙ ap (λ l. p.head ++ (l ++ (output_of (at + (p.place - at) + suc k) ps (drop (suc k) (drop (p.place - start) (take n payload)))).text)) taken
              ∙ ap (λ m. p.head ++ (take p.len (drop (p.place - start) payload) ++ (output_of m ps (drop (suc k) (drop (p.place - start) (take n payload)))).text)) next
              ∙ ap (λ l. p.head ++ (take p.len (drop (p.place - start) payload) ++ (output_of (p.place + suc k) ps l).text)) rest
              ∙ span-came p ps whole _ s g,
        )

    step_by : (p : OutputFragment) (len : ℕ) → p.len ≡ len → ascends_from at (start + length payload) p.place len (λ next. Ascends next (start + length payload) ps)
        → (s : CameOf start n (p ∷ ps)) × (p.head ++ (span_from at p.place len (λ next rest. output_of next ps rest) (drop (at - start) (take n payload))).text ≡ emitted_of (p ∷ ps) s)
    step_by p zero e a =
        let (s, g) = more at a low in
        let whole : CameWhole (start + n) p = λ some. absurd (omega (arith, e, some)) in
        let none : take p.len (drop (p.place - start) payload) ≡ [] = ap (λ j. take j (drop (p.place - start) payload)) e in (
          fragment-before start n p ps whole s,
          ap (λ l. p.head ++ (l ++ (output_of at ps (drop (at - start) (take n payload))).text)) (sym none) ∙ span-came p ps whole _ s g,
        )
    step_by p (suc k) e a = step p k e a.0 a.2 _ refl

  output_from : (at : ℕ) (ps : List OutputFragment) → Ascends at (start + length payload) ps → start ≤ at → Outputs at ps
  output_from at [] a low = none at
  output_from at (p ∷ ps) a low = step_by at ps low (λ next b h. output_from next ps b h) p p.len refl a

  pub output_of-prefix : (ps : List OutputFragment) → Ascends start (start + length payload) ps → (s : CameOf start n ps) × ((output_of start ps (take n payload)).text ≡ slices start payload s.whole ++ open_fragment start (take n payload) s.later)
  output_of-prefix ps a =
      let (s, e) = output_from start ps a (omega arith) in
      let first : start - start ≡ 0 = omega arith in
      (s, ap (λ k. (output_of start ps (drop k (take n payload))).text) (sym first) ∙ e)
