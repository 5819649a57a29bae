-- Bytes of a body with effects as they come, whatever these are and whatever is read after it.
use Rattle.std.proofs.Common.{◌≡◌, ◌∙◌, ℕ, ◌-◌, ◌<◌, ◌≤◌, List, [], ◌++◌, length, take, drop, Bool, true, false, Some, ap, sym, refl, arith, length-append}
use Rattle.std.proofs.Math.Seq.{take-append-add, drop-append-add}
use Rattle.std.proofs.lemmas.Bool.{ltb-true, ltb-false}
use Rattle.std.proofs.lemmas.Bool.Decides.{nat_tests}
use Rattle.std.specs.Prelude.{nat_lt}
use Rattle.mp4_box.specs.declared.headers.FourCc.{FourCc}
use Rattle.mp4_box.specs.declared.rules.Rule.TheVariants.{Truncated, StreamTooLong}
use Rattle.mp4_machine.specs.Bodies.{fault, body_item, open_body_item}
use Rattle.mp4_machine.specs.Readings.{Reading, Effects, no_effects, both, after, Sound, Faulty, CutOff, then_read}
use Rattle.mp4_machine.proofs.ReadingLemmas.{after-silent, after-both}

pub nat_lt_true : (m n : ℕ) → m < n → nat_lt m n ≡ true
nat_lt_true m n h = grind (arith, nat_tests)

pub nat_lt_false : (m n : ℕ) → n ≤ m → nat_lt m n ≡ false
nat_lt_false m n h = grind (arith, nat_tests)

module _ {C : Type 0} (rest_of : C → List ℕ → Reading) (at : ℕ) (kind : FourCc) (next : C) where
  -- some of it came, with these effects
  pub body-some : (f g : List ℕ → Effects) (t : Effects) (x : List ℕ) (left : ℕ) → ((later : List ℕ) → f (x ++ later) ≡ both t (g later)) → length x ≤ left
      → (later : List ℕ) → then_read rest_of (body_item f at kind next left (x ++ later)) ≡ after t (then_read rest_of (body_item g at kind next (left - length x) later))
  body-some f g t x left same h later = by (nat_lt (length later) (left - length x)) refl
    where
      by : (u : Bool) → nat_lt (length later) (left - length x) ≡ u → then_read rest_of (body_item f at kind next left (x ++ later)) ≡ after t (then_read rest_of (body_item g at kind next (left - length x) later))
      by true e =
          let short : length later < left - length x = ltb-true _ _ e in
          rw (e, nat_lt_true (length (x ++ later)) left (omega (arith, length-append x later))) (ap (λ s. record { effects = s; outcome = CutOff (fault Truncated (Some kind) at) }) (same later))
      by false e =
          let enough : left - length x ≤ length later = ltb-false _ _ e in
          let front : take left (x ++ later) ≡ x ++ take (left - length x) later = ap (λ n. take n (x ++ later)) (omega arith) ∙ take-append-add x later (left - length x) in
          let following : drop left (x ++ later) ≡ drop (left - length x) later = ap (λ n. drop n (x ++ later)) (omega arith) ∙ drop-append-add x later (left - length x) in
          rw (e, nat_lt_false (length (x ++ later)) left (omega (arith, length-append x later)), front, following)
          (ap (λ s. after s (rest_of next (drop (left - length x) later))) (same (take (left - length x) later)) ∙ sym (after-both t (g (take (left - length x) later)) (rest_of next (drop (left - length x) later))))

  -- a body that is passed over has no effects
  pub body-passed : (x later : List ℕ) (left : ℕ) → length x ≤ left → then_read rest_of (body_item (λ _. no_effects) at kind next left (x ++ later)) ≡ then_read rest_of (body_item (λ _. no_effects) at kind next (left - length x) later)
  body-passed x later left h = body-some (λ _. no_effects) (λ _. no_effects) no_effects x left (λ l. refl) h later ∙ after-silent (then_read rest_of (body_item (λ _. no_effects) at kind next (left - length x) later))

  -- all of it came
  pub body-over : (f : List ℕ → Effects) (left : ℕ) (later : List ℕ) → left ≡ 0 → f [] ≡ no_effects → then_read rest_of (body_item f at kind next left later) ≡ rest_of next later
  body-over f left later e none = rw (e, nat_lt_false (length later) 0 (omega arith)) (ap (λ s. after s (rest_of next later)) none ∙ after-silent (rest_of next later))

  -- none of it came
  pub body-none : (f : List ℕ → Effects) (left : ℕ) → 0 < left → then_read rest_of (body_item f at kind next left []) ≡ record { effects = f []; outcome = CutOff (fault Truncated (Some kind) at) }
  body-none f left some = rw (nat_lt_true 0 left some) refl

  -- ---- one to the end of the stream

  pub open-some : (f g : List ℕ → Effects) (t : Effects) (x : List ℕ) (needed left : ℕ) → ((later : List ℕ) → f (x ++ later) ≡ both t (g later)) → length x ≤ left
      → (later : List ℕ) → then_read rest_of (open_body_item f at kind needed left (x ++ later)) ≡ after t (then_read rest_of (open_body_item g at kind (needed - length x) (left - length x) later))
  open-some f g t x needed left same h later = by (nat_lt (left - length x) (length later)) (nat_lt (length later) (needed - length x)) refl refl
    where
      by : (u v : Bool) → nat_lt (left - length x) (length later) ≡ u → nat_lt (length later) (needed - length x) ≡ v
          → then_read rest_of (open_body_item f at kind needed left (x ++ later)) ≡ after t (then_read rest_of (open_body_item g at kind (needed - length x) (left - length x) later))
      by true v e d =
          let far : left - length x < length later = ltb-true _ _ e in
          let front : take left (x ++ later) ≡ x ++ take (left - length x) later = ap (λ n. take n (x ++ later)) (omega arith) ∙ take-append-add x later (left - length x) in
          rw (e, nat_lt_true left (length (x ++ later)) (omega (arith, length-append x later)), front) (ap (λ s. record { effects = s; outcome = Faulty (fault StreamTooLong (Some kind) at) }) (same (take (left - length x) later)))
      by false true e d =
          let near : length later ≤ left - length x = ltb-false _ _ e in
          let short : length later < needed - length x = ltb-true _ _ d in
          rw (e, d, nat_lt_false left (length (x ++ later)) (omega (arith, length-append x later)), nat_lt_true (length (x ++ later)) needed (omega (arith, length-append x later)))
          (ap (λ s. record { effects = s; outcome = CutOff (fault Truncated (Some kind) at) }) (same later))
      by false false e d =
          let near : length later ≤ left - length x = ltb-false _ _ e in
          let enough : needed - length x ≤ length later = ltb-false _ _ d in
          rw (e, d, nat_lt_false left (length (x ++ later)) (omega (arith, length-append x later)), nat_lt_false (length (x ++ later)) needed (omega (arith, length-append x later)))
          (ap (λ s. record { effects = s; outcome = Sound }) (same later))

  -- it goes too far
  pub open-far : (f : List ℕ → Effects) (needed left : ℕ) (bytes : List ℕ) → left < length bytes
      → then_read rest_of (open_body_item f at kind needed left bytes) ≡ record { effects = f (take left bytes); outcome = Faulty (fault StreamTooLong (Some kind) at) }
  open-far f needed left bytes far = rw (nat_lt_true left (length bytes) far) refl

  -- none of it came, and none needs to
  pub open-none : (f : List ℕ → Effects) (left : ℕ) → then_read rest_of (open_body_item f at kind 0 left []) ≡ record { effects = f []; outcome = Sound }
  open-none f left = rw (nat_lt_false left 0 (omega arith)) refl
