-- Effects of which each fragment ends past some text.
use Rattle.std.proofs.Common.{◌≡◌, ℕ, zero, suc, ◌+◌, ◌≤◌, List, [], ◌∷◌, ◌++◌, length, take, Bool, true, false, arith, refl}
use Rattle.std.specs.Prelude.{nat_lt}
use Rattle.mp4_box.specs.declared.headers.FourCc.{FourCc}
use Rattle.mp4_machine.specs.Bodies.{body_item, open_body_item}
use Rattle.mp4_machine.specs.Readings.{ArePast, Effects, FirstItem, Last, Reading, Whole, after_effects, both, moved, read_all, read_at_most, then_read}
use Rattle.mp4_machine.specs.declared.fragment_end.FragmentEnd.{FragmentEnd}

-- where more text is before them
pub ArePast-moved : (n k m : ℕ) (xs : List FragmentEnd) → m ≤ n + k → ArePast k xs → ArePast m (moved n xs)
ArePast-moved n k m [] few h = h
ArePast-moved n k m (x ∷ xs) few h = (omega (arith, few, h.0), ArePast-moved n k m xs few h.1)

-- past fewer bytes
pub ArePast-fewer : (k m : ℕ) (xs : List FragmentEnd) → m ≤ k → ArePast k xs → ArePast m xs
ArePast-fewer k m [] few h = h
ArePast-fewer k m (x ∷ xs) few h = (omega (arith, few, h.0), ArePast-fewer k m xs few h.1)

pub ArePast-append : (k : ℕ) (xs ys : List FragmentEnd) → ArePast k xs → ArePast k ys → ArePast k (xs ++ ys)
ArePast-append k [] ys h j = j
ArePast-append k (x ∷ xs) ys h j = (h.0, ArePast-append k xs ys h.1 j)

pub both-past : (s t : Effects) → ArePast 0 s.fragment_ends → ArePast 0 t.fragment_ends → ArePast 0 (both s t).fragment_ends
both-past s t h k = ArePast-append 0 s.fragment_ends (moved (length s.text) t.fragment_ends) h (ArePast-moved (length s.text) 0 0 t.fragment_ends (omega arith) k)

-- ---- an item

abbrev pub IsPast : {C : Type 0} → FirstItem C → Type 0
IsPast (Last r) = ArePast 0 r.effects.fragment_ends
IsPast (Whole effects next rest) = ArePast 0 effects.fragment_ends

-- the effects of what is at the front
abbrev pub effects_of : {C : Type 0} → FirstItem C → Effects
effects_of (Last r) = r.effects
effects_of (Whole effects next rest) = effects

pub effects-past : {C : Type 0} (f : FirstItem C) → IsPast f → ArePast 0 (effects_of f).fragment_ends
effects-past (Last r) h = h
effects-past (Whole effects next rest) h = h

pub after-past : {C : Type 0} (t : Effects) (f : FirstItem C) → ArePast 0 t.fragment_ends → IsPast f → IsPast (after_effects t f)
after-past t (Last r) h k = both-past t r.effects h k
after-past t (Whole effects next rest) h k = both-past t effects h k

module _ (emit : List ℕ → Effects) (emitted : (b : List ℕ) → ArePast 0 (emit b).fragment_ends) (at : ℕ) (kind : FourCc) where
  pub body-past : {C : Type 0} (next : C) (left : ℕ) (b : List ℕ) → IsPast (body_item emit at kind next left b)
  body-past {C = C} next left b = by (nat_lt (length b) left) refl
    where
      by : (t : Bool) → nat_lt (length b) left ≡ t → IsPast (body_item emit at kind next left b)
      by true e = rw e (emitted b)
      by false e = rw e (emitted (take left b))

  pub open-past : (C : Type 0) (needed left : ℕ) (b : List ℕ) → IsPast {C = C} (open_body_item emit at kind needed left b)
  open-past C needed left b = by (nat_lt left (length b)) (nat_lt (length b) needed) refl refl
    where
      by : (t u : Bool) → nat_lt left (length b) ≡ t → nat_lt (length b) needed ≡ u → IsPast {C = C} (open_body_item emit at kind needed left b)
      by true u e k = rw e (emitted (take left b))
      by false true e k = rw (e, k) (emitted b)
      by false false e k = rw (e, k) (emitted b)

-- ---- a reading

pub then-past : {C : Type 0} (r : C → List ℕ → Reading) → ((c : C) (b : List ℕ) → ArePast 0 (r c b).effects.fragment_ends) → (f : FirstItem C) → IsPast f → ArePast 0 (then_read r f).effects.fragment_ends
then-past r h (Last x) k = k
then-past r h (Whole effects next rest) k = both-past effects (r next rest).effects k (h next rest)

module _ {C : Type 0} (first_item : C → List ℕ → FirstItem C) (past : (c : C) (b : List ℕ) → IsPast (first_item c b)) where
  at_most-past : (n : ℕ) (c : C) (b : List ℕ) → ArePast 0 (read_at_most first_item n c b).effects.fragment_ends
  at_most-past zero c b = tt
  at_most-past (suc n) c b = then-past (λ next rest. read_at_most first_item n next rest) (at_most-past n) (first_item c b) (past c b)

  pub all-past : (c : C) (b : List ℕ) → ArePast 0 (read_all first_item c b).effects.fragment_ends
  unfolding read_all
  all-past c b = at_most-past (length b) c b
