-- Insertion sorts, and lists in order.
use Rattle.std.proofs.Common.{if◌then◌else◌, ◌≡◌, ◌∙◌, Bool, true, false, List, [], ◌∷◌, refl, sym, ap, subst}
use Rattle.std.specs.List.{filter}
use Rattle.std.specs.List.Sorted.{IsPermutation}
use Rattle.std.proofs.lemmas.List.Sorted.{IsPermutation-refl, IsPermutation-cons, IsPermutation-trans, IsPermutation-sym, IsPermutation-middle, Contains-permutation}
use mathlib.Core.Logic.{◌⊎◌, inl, inr}
use Rattle.mp4_run_order.specs.Orders.{put_by, ordered_by}
use Rattle.mp4_run_order.proofs.ListLemmas.{Each, Pairs, each_weaker, each_in, In, in_from, in_to, in_filter, in_of_filter, each_passes}

-- ---- an insertion sort moves elements alone

put_permutes_step : {X : Type 0} (may : X → X → Bool) (x y : X) (ys : List X) → IsPermutation (x ∷ ys) (put_by may x ys) → (b : Bool) → IsPermutation (x ∷ y ∷ ys) (if b then x ∷ y ∷ ys else y ∷ put_by may x ys)
put_permutes_step may x y ys h true = IsPermutation-refl (x ∷ y ∷ ys)
put_permutes_step may x y ys h false = IsPermutation-trans (x ∷ y ∷ ys) (y ∷ x ∷ ys) (y ∷ put_by may x ys) (IsPermutation-middle (x ∷ []) y ys) (IsPermutation-cons y (x ∷ ys) (put_by may x ys) h)

put_permutes : {X : Type 0} (may : X → X → Bool) (x : X) (ys : List X) → IsPermutation (x ∷ ys) (put_by may x ys)
put_permutes may x [] = IsPermutation-refl (x ∷ [])
put_permutes may x (y ∷ ys) = put_permutes_step may x y ys (put_permutes may x ys) (may x y)

pub ordered_permutes : {X : Type 0} (may : X → X → Bool) (xs : List X) → IsPermutation xs (ordered_by may xs)
ordered_permutes may [] = IsPermutation-refl []
ordered_permutes may (x ∷ xs) = IsPermutation-trans (x ∷ xs) (x ∷ ordered_by may xs) (put_by may x (ordered_by may xs)) (IsPermutation-cons x xs (ordered_by may xs) (ordered_permutes may xs)) (put_permutes may x (ordered_by may xs))

-- ---- and puts them in order

-- a test by which any two can be put in order
pub record IsOrder {X : Type 0} (may : X → X → Bool) : Type 0 where
  pub other : (a b : X) → may a b ≡ false → may b a ≡ true
  pub joins : (a b c : X) → may a b ≡ true → may b c ≡ true → may a c ≡ true

abbrev pub Rises : {X : Type 0} → (X → X → Bool) → List X → Type 0
Rises may xs = Pairs (λ a b. may a b ≡ true) xs

put_each_step : {X : Type 0} (may : X → X → Bool) (P : X → Type 0) (x y : X) (ys : List X) → P x → P y → Each P ys → Each P (put_by may x ys) → (b : Bool) → Each P (if b then x ∷ y ∷ ys else y ∷ put_by may x ys)
put_each_step may P x y ys h k hs r true = (h, (k, hs))
put_each_step may P x y ys h k hs r false = (k, r)

put_each : {X : Type 0} (may : X → X → Bool) (P : X → Type 0) (x : X) (ys : List X) → P x → Each P ys → Each P (put_by may x ys)
put_each may P x [] h hs = (h, tt)
put_each may P x (y ∷ ys) h hs = put_each_step may P x y ys h hs.0 hs.1 (put_each may P x ys h hs.1) (may x y)

put_rises_step : {X : Type 0} (may : X → X → Bool) → IsOrder may → (x y : X) (ys : List X) → Rises may (y ∷ ys) → (may x y ≡ false → Each (λ z. may y z ≡ true) (put_by may x ys)) → Rises may (put_by may x ys) → (b : Bool) → may x y ≡ b → Rises may (if b then x ∷ y ∷ ys else y ∷ put_by may x ys)
put_rises_step may o x y ys h k r true e = ((e, each_weaker (λ z. may y z ≡ true) (λ z. may x z ≡ true) (λ z g. o.joins x y z e g) ys h.0), h)
put_rises_step may o x y ys h k r false e = (k e, r)

put_rises : {X : Type 0} (may : X → X → Bool) → IsOrder may → (x : X) (ys : List X) → Rises may ys → Rises may (put_by may x ys)
put_rises may o x [] h = (tt, tt)
put_rises may o x (y ∷ ys) h = put_rises_step may o x y ys h (λ e. put_each may (λ z. may y z ≡ true) x ys (o.other x y e) h.0) (put_rises may o x ys h.1) (may x y) refl

pub ordered_rises : {X : Type 0} (may : X → X → Bool) → IsOrder may → (xs : List X) → Rises may (ordered_by may xs)
ordered_rises may o [] = tt
ordered_rises may o (x ∷ xs) = put_rises may o x (ordered_by may xs) (ordered_rises may o xs)

-- ---- two lists in one order that have the same elements

abbrev pub OneWay : {X : Type 0} → (X → X → Type 0) → Type 0
OneWay {X} R = (a b : X) → R a b → R b a → ⊥

head_same : {X : Type 0} (R : X → X → Type 0) → OneWay R → (x y : X) (xs ys : List X) → Each (R x) xs → Each (R y) ys → (x ≡ y) ⊎ In x ys → (y ≡ x) ⊎ In y xs → x ≡ y
head_same R o x y xs ys a b (inl e) j = e
head_same R o x y xs ys a b (inr i) (inl e) = sym e
head_same R o x y xs ys a b (inr i) (inr j) = absurd (o x y (each_in (R x) xs y a j) (each_in (R y) ys x b i))

rest_in : {X : Type 0} (R : X → X → Type 0) → OneWay R → (x y : X) (xs ys : List X) → x ≡ y → Each (R x) xs → (z : X) → In z xs → (z ≡ y) ⊎ In z ys → In z ys
rest_in R o x y xs ys e a z i (inl f) = let h : R x x = subst (R x) (f ∙ sym e) (each_in (R x) xs z a i) in absurd (o x x h h)
rest_in R o x y xs ys e a z i (inr j) = j

one_order : {X : Type 0} (R : X → X → Type 0) → OneWay R → (xs ys : List X) → Pairs R xs → Pairs R ys → ((z : X) → In z xs → In z ys) → ((z : X) → In z ys → In z xs) → xs ≡ ys
one_order R o [] [] a b f g = refl
one_order R o [] (y ∷ ys) a b f g = absurd (g y (inl refl))
one_order R o (x ∷ xs) [] a b f g = absurd (f x (inl refl))
one_order R o (x ∷ xs) (y ∷ ys) a b f g =
    let e = head_same R o x y xs ys a.0 b.0 (f x (inl refl)) (g y (inl refl)) in
    let r = one_order R o xs ys a.1 b.1 (λ z i. rest_in R o x y xs ys e a.0 z i (f z (inr i))) (λ z i. rest_in R o y x ys xs (sym e) b.0 z i (g z (inr i))) in
    ap (λ (h : _). h ∷ xs) e ∙ ap (λ (t : _). y ∷ t) r

in_moved : {X : Type 0} (xs ys : List X) (z : X) → IsPermutation xs ys → In z xs → In z ys
in_moved xs ys z m i = in_from ys z (Contains-permutation xs ys z m (in_to xs z i))

pub same_order : {X : Type 0} (R : X → X → Type 0) → OneWay R → (xs ys : List X) → IsPermutation xs ys → Pairs R xs → Pairs R ys → xs ≡ ys
same_order R o xs ys m a b = one_order R o xs ys a b (λ z i. in_moved xs ys z m i) (λ z i. in_moved ys xs z (IsPermutation-sym xs ys m) i)

filter_in : {X : Type 0} (p : X → Bool) (xs ys : List X) → IsPermutation xs ys → (z : X) → In z (filter p xs) → In z (filter p ys)
filter_in p xs ys m z i = in_filter p z ys (each_in (λ x. p x ≡ true) (filter p xs) z (each_passes p xs) i) (in_moved xs ys z m (in_of_filter p z xs i))

-- the same of what a test keeps
pub same_filter : {X : Type 0} (p : X → Bool) (R : X → X → Type 0) → OneWay R → (xs ys : List X) → IsPermutation xs ys → Pairs R (filter p xs) → Pairs R (filter p ys) → filter p xs ≡ filter p ys
same_filter p R o xs ys m a b = one_order R o (filter p xs) (filter p ys) a b (filter_in p xs ys m) (filter_in p ys xs (IsPermutation-sym xs ys m))
