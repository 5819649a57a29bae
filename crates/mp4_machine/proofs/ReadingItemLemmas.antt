-- Where a box asks for memory, the text before is that of the bytes before the box, whatever the items are.
use Rattle.std.proofs.Common.{◌≡◌, ◌∙◌, ℕ, zero, suc, ◌+◌, ◌-◌, ◌≤◌, List, [], ◌∷◌, ◌++◌, length, take, ap, sym, refl, arith, subst}
use Rattle.std.proofs.Math.Seq.{take-append-add}
use Rattle.mp4_machine.specs.Readings.{Request, shifted_by, shifted, Effects, Reading, FirstItem, Last, Whole, after, then_read, read_all}
use Rattle.mp4_machine.proofs.ReadingLemmas.{Below, IsItemwise, read_all-front}
use Rattle.mp4_machine.proofs.PastLemmas.{effects_of}

-- each ask is so
abbrev pub Each : (Request → Type 0) → List Request → Type 0
Each P [] = Unit {0}
Each P (a ∷ requests) = P a × Each P requests

Each-append : (P : Request → Type 0) (xs ys : List Request) → Each P xs → Each P ys → Each P (xs ++ ys)
Each-append P [] ys h k = k
Each-append P (a ∷ xs) ys h k = (h.0, Each-append P xs ys h.1 k)

Each-shifted : (P Q : Request → Type 0) (s : Effects) → ((a : Request) → P a → Q (shifted_by s a)) → (xs : List Request) → Each P xs → Each Q (shifted s xs)
Each-shifted P Q s f [] h = tt
Each-shifted P Q s f (a ∷ xs) h = (f a h.0, Each-shifted P Q s f xs h.1)

Each-all : (P Q : Request → Type 0) → ((a : Request) → P a → Q a) → (xs : List Request) → Each P xs → Each Q xs
Each-all P Q f [] h = tt
Each-all P Q f (a ∷ xs) h = (f a h.0, Each-all P Q f xs h.1)

pub Each-at : (P : Request → Type 0) (xs : List Request) (a : Request) (ys : List Request) → Each P (xs ++ a ∷ ys) → P a
Each-at P [] a ys h = h.0
Each-at P (x ∷ xs) a ys h = Each-at P xs a ys h.1

-- a whole item has bytes of its own, and is the same whatever follows
pub record IsItem {C : Type 0} (first_item : C → List ℕ → FirstItem C) (at : C → ℕ) (c : C) (bytes : List ℕ) (effects : Effects) (next : C) (rest : List ℕ) : Type 0 where
  pub own : List ℕ
  pub cut : bytes ≡ own ++ rest
  pub ends : at next ≡ at c + length own
  pub same : (y : List ℕ) → first_item c (own ++ y) ≡ Whole effects next y

abbrev pub IsItemAt : {C : Type 0} → (C → List ℕ → FirstItem C) → (C → ℕ) → C → List ℕ → FirstItem C → Type 0
IsItemAt first_item at c bytes (Last r) = Unit {0}
IsItemAt first_item at c bytes (Whole effects next rest) = IsItem first_item at c bytes effects next rest

-- an item requests memory at its beginning, before its text
pub record IsFirst (at : ℕ) (a : Request) : Type 0 where
  pub place : a.at ≡ at
  pub none_before : a.text_before ≡ 0

-- the text before an ask is that of the bytes before the box
pub record IsTextBefore {C : Type 0} (reads : C → List ℕ → Reading) (at : C → ℕ) (c : C) (bytes : List ℕ) (a : Request) : Type 0 where
  pub near : at c ≤ a.at
  pub text : take a.text_before (reads c bytes).effects.text ≡ (reads c (take (a.at - at c) bytes)).effects.text

module _ {C : Type 0} (first_item : C → List ℕ → FirstItem C) (at : C → ℕ) (items : IsItemwise first_item)
    (first : (c : C) (b : List ℕ) → Each (IsFirst (at c)) (effects_of (first_item c b)).requests) (whole : (c : C) (b : List ℕ) → IsItemAt first_item at c b (first_item c b)) where
  none : (c : C) → (read_all first_item c []).effects.text ≡ []
  none c = ap (λ r. r.effects.text) (read_all-front first_item items c [] ∙ ap (then_read (read_all first_item)) (items.empty c))

  holds_first : (c : C) (b : List ℕ) (a : Request) → IsFirst (at c) a → IsTextBefore (read_all first_item) at c b a
  holds_first c b a h =
      let zero : a.at - at c ≡ 0 = omega (arith, h.place) in
      record {
        near = omega (arith, h.place);
        text = ap (λ n. take n (read_all first_item c b).effects.text) h.none_before ∙ sym (ap (λ n. (read_all first_item c (take n b)).effects.text) zero ∙ none c);
      }

  holds_later : (c next : C) (b rest : List ℕ) (effects : Effects) → first_item c b ≡ Whole effects next rest → IsItem first_item at c b effects next rest → (a : Request) → IsTextBefore (read_all first_item) at next rest a → IsTextBefore (read_all first_item) at c b (shifted_by effects a)
  holds_later c next b rest effects e i a s =
      let all : read_all first_item c b ≡ after effects (read_all first_item next rest) = read_all-front first_item items c b ∙ ap (then_read (read_all first_item)) e in
      let far : a.at - at c ≡ length i.own + (a.at - at next) = omega (arith, i.ends, s.near) in
      let front_of : take (a.at - at c) b ≡ i.own ++ take (a.at - at next) rest = ap (take (a.at - at c)) i.cut ∙ ap (λ n. take n (i.own ++ rest)) far ∙ take-append-add i.own rest (a.at - at next) in
      record {
        near = omega (arith, i.ends, s.near);
        text = ap (λ r. take (length effects.text + a.text_before) r.effects.text) all ∙ take-append-add effects.text (read_all first_item next rest).effects.text a.text_before ∙ ap (λ l. effects.text ++ l) s.text
            ∙ sym (ap (λ l. (read_all first_item c l).effects.text) front_of ∙ ap (λ r. r.effects.text) (read_all-front first_item items c (i.own ++ take (a.at - at next) rest) ∙ ap (then_read (read_all first_item)) (i.same (take (a.at - at next) rest))));
      }

  by_front : (n : ℕ) → ((c : C) (b : List ℕ) → length b ≤ n → Each (IsTextBefore (read_all first_item) at c b) (read_all first_item c b).effects.requests)
      → (c : C) (b : List ℕ) (v : FirstItem C) → first_item c b ≡ v → Below v n → IsItemAt first_item at c b v → Each (IsFirst (at c)) (effects_of v).requests → Each (IsTextBefore (read_all first_item) at c b) (then_read (read_all first_item) v).effects.requests
  by_front n more c b (Last r) e below i h = Each-all (IsFirst (at c)) (IsTextBefore (read_all first_item) at c b) (holds_first c b) r.effects.requests h
  by_front n more c b (Whole effects next rest) e below i h =
      Each-append (IsTextBefore (read_all first_item) at c b) effects.requests (shifted effects (read_all first_item next rest).effects.requests)
      (Each-all (IsFirst (at c)) (IsTextBefore (read_all first_item) at c b) (holds_first c b) effects.requests h)
      (Each-shifted (IsTextBefore (read_all first_item) at next rest) (IsTextBefore (read_all first_item) at c b) effects (holds_later c next b rest effects e i) (read_all first_item next rest).effects.requests (more next rest below))

  asks_for_length : (n : ℕ) (c : C) (b : List ℕ) → length b ≤ n → Each (IsTextBefore (read_all first_item) at c b) (read_all first_item c b).effects.requests
  asks_for_length n c [] h = subst (λ r. Each (IsTextBefore (read_all first_item) at c []) r.effects.requests) (sym (read_all-front first_item items c [] ∙ ap (then_read (read_all first_item)) (items.empty c))) tt
  asks_for_length zero c (a ∷ b) h = absurd (omega arith)
  asks_for_length (suc n) c (a ∷ b) h =
      subst (λ r. Each (IsTextBefore (read_all first_item) at c (a ∷ b)) r.effects.requests) (sym (read_all-front first_item items c (a ∷ b)))
      (by_front n (asks_for_length n) c (a ∷ b) (first_item c (a ∷ b)) refl (Below_less (first_item c (a ∷ b)) (length b) n (omega arith) (items.shorter c a b)) (whole c (a ∷ b)) (first c (a ∷ b)))
    where
      Below_less : (f : FirstItem C) (k m : ℕ) → k ≤ m → Below f k → Below f m
      Below_less (Last r) k m p q = tt
      Below_less (Whole text next rest) k m p q = omega arith

  -- the text before an ask is that of the bytes before the box that asks
  pub asks_hold : (c : C) (b : List ℕ) (before : List Request) (a : Request) (following : List Request) → (read_all first_item c b).effects.requests ≡ before ++ a ∷ following → IsTextBefore (read_all first_item) at c b a
  asks_hold c b before a following e = Each-at (IsTextBefore (read_all first_item) at c b) before a following (subst (Each (IsTextBefore (read_all first_item) at c b)) e (asks_for_length (length b) c b (omega arith)))
