-- What holds of each box that asks for memory, by what holds of the items, whatever the items are.
use Rattle.std.proofs.Common.{◌≡◌, ◌∙◌, ℕ, zero, suc, ◌+◌, ◌-◌, ◌≤◌, List, [], ◌∷◌, ◌++◌, length, take, ap, sym, refl, arith, subst}
use Rattle.std.proofs.Math.Seq.{take-append-add}
use Rattle.mp4_machine.specs.Readings.{Request, shifted_by, shifted, Effects, plus, uncounted, Reading, FirstItem, Last, Whole, after, after_effects, then_read, read_all, inspects}
use Rattle.mp4_machine.specs.declared.tally.Tally.{Tally}
use Rattle.mp4_machine.proofs.ReadingLemmas.{Below, Below-more, IsItemwise, read_all-front}
use Rattle.mp4_machine.proofs.PastLemmas.{effects_of}
use Rattle.mp4_machine.proofs.ReadingItemLemmas.{Each, IsItem, IsItemAt}
use Rattle.mp4_grammar.specs.Counts.{InspectsOn}

pub Each-append : (P : Request → Type 0) (xs ys : List Request) → Each P xs → Each P ys → Each P (xs ++ ys)
Each-append P [] ys h k = k
Each-append P (a ∷ xs) ys h k = (h.0, Each-append P xs ys h.1 k)

pub Each-shifted : (P Q : Request → Type 0) (s : Effects) → ((a : Request) → P a → Q (shifted_by s a)) → (xs : List Request) → Each P xs → Each Q (shifted s xs)
Each-shifted P Q s f [] h = tt
Each-shifted P Q s f (a ∷ xs) h = (f a h.0, Each-shifted P Q s f xs h.1)

pub Each-all : (P Q : Request → Type 0) → ((a : Request) → P a → Q a) → (xs : List Request) → Each P xs → Each Q xs
Each-all P Q f [] h = tt
Each-all P Q f (a ∷ xs) h = (f a h.0, Each-all P Q f xs h.1)

pub asks-after : {C : Type 0} (t : Effects) (f : FirstItem C) → (effects_of (after_effects t f)).requests ≡ t.requests ++ shifted t (effects_of f).requests
asks-after t (Last r) = refl
asks-after t (Whole effects next rest) = refl

-- ---- by items

-- I holds of a context and the bytes from it on; P of these and what is asked for there
module _ {C : Type 0} (first_item : C → List ℕ → FirstItem C) (items : IsItemwise first_item) (I : C → List ℕ → Type 0) (P : C → List ℕ → Request → Type 0)
    (here : (c : C) (b : List ℕ) → I c b → Each (P c b) (effects_of (first_item c b)).requests)
    (goes_on : (c next : C) (b rest : List ℕ) (effects : Effects) → I c b → first_item c b ≡ Whole effects next rest → I next rest)
    (later : (c next : C) (b rest : List ℕ) (effects : Effects) → first_item c b ≡ Whole effects next rest → (a : Request) → P next rest a → P c b (shifted_by effects a)) where
  by_front : (n : ℕ) → ((c : C) (b : List ℕ) → length b ≤ n → I c b → Each (P c b) (read_all first_item c b).effects.requests)
      → (c : C) (b : List ℕ) (v : FirstItem C) → first_item c b ≡ v → Below v n → I c b → Each (P c b) (effects_of v).requests → Each (P c b) (then_read (read_all first_item) v).effects.requests
  by_front n more c b (Last r) e below i h = h
  by_front n more c b (Whole effects next rest) e below i h =
      Each-append (P c b) effects.requests (shifted effects (read_all first_item next rest).effects.requests) h
      (Each-shifted (P next rest) (P c b) effects (later c next b rest effects e) (read_all first_item next rest).effects.requests (more next rest below (goes_on c next b rest effects i e)))

  for_length : (n : ℕ) (c : C) (b : List ℕ) → length b ≤ n → I c b → Each (P c b) (read_all first_item c b).effects.requests
  for_length n c [] h i = subst (λ r. Each (P c []) r.effects.requests) (sym (read_all-front first_item items c [] ∙ ap (then_read (read_all first_item)) (items.empty c))) tt
  for_length zero c (a ∷ b) h i = absurd (omega arith)
  for_length (suc n) c (a ∷ b) h i =
      subst (λ r. Each (P c (a ∷ b)) r.effects.requests) (sym (read_all-front first_item items c (a ∷ b)))
      (by_front n (for_length n) c (a ∷ b) (first_item c (a ∷ b)) refl (Below-more (first_item c (a ∷ b)) (length b) n (omega arith) (items.shorter c a b)) i (here c (a ∷ b) i))

  pub each_ask : (c : C) (b : List ℕ) → I c b → Each (P c b) (read_all first_item c b).effects.requests
  each_ask c b i = for_length (length b) c b (omega arith) i

-- ---- what is counted before

-- an item requests memory before it counts anything but samples that were inspected
pub record IsUncounted (t : Tally) : Type 0 where
  pub fragments : t.fragments ≡ 0
  pub samples : t.samples ≡ 0
  pub media_bytes : t.media_bytes ≡ 0

-- what is counted before an ask is what is counted of the bytes before the box
pub record IsCountBefore {C : Type 0} (reads : C → List ℕ → Reading) (at : C → ℕ) (c : C) (bytes : List ℕ) (a : Request) : Type 0 where
  pub near : at c ≤ a.at
  pub counted : InspectsOn (reads c (take (a.at - at c) bytes)).effects.tally a.counted

pub record IsCountedFirst (at : ℕ) (a : Request) : Type 0 where
  pub place : a.at ≡ at
  pub counted : IsUncounted a.counted

pub IsUncounted-inspects : (n : ℕ) → IsUncounted (inspects n)
IsUncounted-inspects n = record { fragments = refl; samples = refl; media_bytes = refl }

inspects-first : (t : Tally) → IsUncounted t → InspectsOn uncounted t
inspects-first t u = record { fragments = u.fragments; samples = u.samples; media_bytes = u.media_bytes; inspected = omega arith }

inspects-after : (u s t : Tally) → InspectsOn s t → InspectsOn (plus u s) (plus u t)
inspects-after u s t w = record {
  fragments = ap (λ n. u.fragments + n) w.fragments;
  samples = ap (λ n. u.samples + n) w.samples;
  media_bytes = ap (λ n. u.media_bytes + n) w.media_bytes;
  inspected = omega (arith, w.inspected);
}

module _ {C : Type 0} (first_item : C → List ℕ → FirstItem C) (at : C → ℕ) (items : IsItemwise first_item)
    (first : (c : C) (b : List ℕ) → Each (IsCountedFirst (at c)) (effects_of (first_item c b)).requests) (whole : (c : C) (b : List ℕ) → IsItemAt first_item at c b (first_item c b)) where
  nothing_read : (c : C) → (read_all first_item c []).effects.tally ≡ uncounted
  nothing_read c = ap (λ r. r.effects.tally) (read_all-front first_item items c [] ∙ ap (then_read (read_all first_item)) (items.empty c))

  counted_first : (c : C) (b : List ℕ) (a : Request) → IsCountedFirst (at c) a → IsCountBefore (read_all first_item) at c b a
  counted_first c b a h =
      let none : a.at - at c ≡ 0 = omega (arith, h.place) in
      record {
        near = omega (arith, h.place);
        counted = subst (λ t. InspectsOn t a.counted) (sym (ap (λ n. (read_all first_item c (take n b)).effects.tally) none ∙ nothing_read c)) (inspects-first a.counted h.counted);
      }

  counted_later : (c next : C) (b rest : List ℕ) (effects : Effects) → first_item c b ≡ Whole effects next rest → (a : Request) → IsCountBefore (read_all first_item) at next rest a → IsCountBefore (read_all first_item) at c b (shifted_by effects a)
  counted_later c next b rest effects e a s =
      let i : IsItem first_item at c b effects next rest = subst (IsItemAt first_item at c b) e (whole c b) in
      let far : a.at - at c ≡ length i.own + (a.at - at next) = omega (arith, i.ends, s.near) in
      let front_of : take (a.at - at c) b ≡ i.own ++ take (a.at - at next) rest = ap (take (a.at - at c)) i.cut ∙ ap (λ n. take n (i.own ++ rest)) far ∙ take-append-add i.own rest (a.at - at next) in
      let all : read_all first_item c (take (a.at - at c) b) ≡ after effects (read_all first_item next (take (a.at - at next) rest)) =
      ap (read_all first_item c) front_of ∙ read_all-front first_item items c (i.own ++ take (a.at - at next) rest) ∙ ap (then_read (read_all first_item)) (i.same (take (a.at - at next) rest)) in
      record {
        near = omega (arith, i.ends, s.near);
        counted = subst (λ r. InspectsOn r.effects.tally (plus effects.tally a.counted)) (sym all)
            (inspects-after effects.tally (read_all first_item next (take (a.at - at next) rest)).effects.tally a.counted s.counted);
      }

  pub counted_before : (c : C) (b : List ℕ) → Each (IsCountBefore (read_all first_item) at c b) (read_all first_item c b).effects.requests
  counted_before c b =
      each_ask first_item items (λ c b. Unit {0}) (IsCountBefore (read_all first_item) at)
      (λ c b i. Each-all (IsCountedFirst (at c)) (IsCountBefore (read_all first_item) at c b) (counted_first c b) (effects_of (first_item c b)).requests (first c b))
      (λ c next b rest effects i e. tt) counted_later c b tt
