-- What holds of each element of a list, and of each element and each later one, by recursion.
use Rattle.std.proofs.Common.{◌≡◌, ◌<◌, ℕ, zero, suc, Bool, true, false, cond, List, [], ◌∷◌, length, get_or, refl, sym, subst, arith}
use Rattle.std.specs.Prelude.{map}
use Rattle.std.specs.List.{All, AllPairs, Contains, filter}
use Rattle.std.specs.List.Sorted.{IsPermutation}
use Rattle.std.proofs.lemmas.List.Elements.{All-head, All-tail, All-cons, All-nil, All-contains, All-contains_itself}
use Rattle.std.proofs.lemmas.List.Sorted.{All-permutation}
use mathlib.Core.Logic.{◌⊎◌, inl, inr}

abbrev pub Each : {X : Type 0} → (X → Type 0) → List X → Type 0
Each P [] = Unit {0}
Each P (x ∷ xs) = P x × Each P xs

abbrev pub Pairs : {X : Type 0} → (X → X → Type 0) → List X → Type 0
Pairs R [] = Unit {0}
Pairs R (x ∷ xs) = Each (R x) xs × Pairs R xs

-- ---- each element

pub each_weaker : {X : Type 0} (P Q : X → Type 0) → ((x : X) → P x → Q x) → (xs : List X) → Each P xs → Each Q xs
each_weaker P Q f [] h = tt
each_weaker P Q f (x ∷ xs) h = (f x h.0, each_weaker P Q f xs h.1)

pub each_both : {X : Type 0} (P Q R : X → Type 0) → ((x : X) → P x → Q x → R x) → (xs : List X) → Each P xs → Each Q xs → Each R xs
each_both P Q R f [] h k = tt
each_both P Q R f (x ∷ xs) h k = (f x h.0 k.0, each_both P Q R f xs h.1 k.1)

pub each_always : {X : Type 0} (P : X → Type 0) → ((x : X) → P x) → (xs : List X) → Each P xs
each_always P f [] = tt
each_always P f (x ∷ xs) = (f x, each_always P f xs)

pub each_of_all : {X : Type 0} (P : X → Type 0) (xs : List X) → All P xs → Each P xs
each_of_all P [] h = tt
each_of_all P (x ∷ xs) h = (All-head P x xs h, each_of_all P xs (All-tail P x xs h))

pub all_of_each : {X : Type 0} (P : X → Type 0) (xs : List X) → Each P xs → All P xs
all_of_each P [] h = All-nil P
all_of_each P (x ∷ xs) h = All-cons P x xs h.0 (all_of_each P xs h.1)

pub each_of : {X : Type 0} (P : X → Type 0) (xs : List X) → ((x : X) → Contains xs x → P x) → Each P xs
each_of P xs f = each_weaker (Contains xs) P f xs (each_of_all (Contains xs) xs (All-contains_itself xs))

pub each_at : {X : Type 0} (P : X → Type 0) (xs : List X) (x : X) → Each P xs → Contains xs x → P x
each_at P xs x h c = All-contains P xs x (all_of_each P xs h) c

pub each_moved : {X : Type 0} (P : X → Type 0) (xs ys : List X) → IsPermutation xs ys → Each P xs → Each P ys
each_moved P xs ys m h = each_of_all P ys (All-permutation P xs ys m (all_of_each P xs h))

-- ---- pairs

pub pairs_weaker : {X : Type 0} (R S : X → X → Type 0) → ((x y : X) → R x y → S x y) → (xs : List X) → Pairs R xs → Pairs S xs
pairs_weaker R S f [] h = tt
pairs_weaker R S f (x ∷ xs) h = (each_weaker (R x) (S x) (f x) xs h.0, pairs_weaker R S f xs h.1)

pub pairs_both : {X : Type 0} (R S T : X → X → Type 0) → ((x y : X) → R x y → S x y → T x y) → (xs : List X) → Pairs R xs → Pairs S xs → Pairs T xs
pairs_both R S T f [] h k = tt
pairs_both R S T f (x ∷ xs) h k = (each_both (R x) (S x) (T x) (f x) xs h.0 k.0, pairs_both R S T f xs h.1 k.1)

pub all_of_pairs : {X : Type 0} (R : X → X → Type 0) (xs : List X) → Pairs R xs → AllPairs R xs
all_of_pairs R [] h i j d lt le = absurd (omega arith)
all_of_pairs R (x ∷ xs) h i zero d lt le = absurd (omega arith)
all_of_pairs R (x ∷ xs) h zero (suc j) d lt le = all_of_each (R x) xs h.0 j d (omega arith)
all_of_pairs R (x ∷ xs) h (suc i) (suc j) d lt le = all_of_pairs R xs h.1 i j d (omega arith) (omega arith)

pub pairs_of_all : {X : Type 0} (R : X → X → Type 0) (xs : List X) → AllPairs R xs → Pairs R xs
pairs_of_all R [] h = tt
pairs_of_all R (x ∷ xs) h = (
  each_of_all (R x) xs (λ k d lt. h zero (suc k) d (omega arith) (omega arith)),
  pairs_of_all R xs (λ i j d lt le. h (suc i) (suc j) d (omega arith) (omega arith)),
)

each_of_map : {X Y : Type 0} (f : X → Y) (P : Y → Type 0) (xs : List X) → Each P (map f xs) → Each (λ x. P (f x)) xs
each_of_map f P [] h = tt
each_of_map f P (x ∷ xs) h = (h.0, each_of_map f P xs h.1)

pub pairs_of_map : {X Y : Type 0} (f : X → Y) (R : Y → Y → Type 0) (xs : List X) → Pairs R (map f xs) → Pairs (λ x y. R (f x) (f y)) xs
pairs_of_map f R [] h = tt
pairs_of_map f R (x ∷ xs) h = (each_of_map f (R (f x)) xs h.0, pairs_of_map f R xs h.1)

-- what holds of any two either way round, and of each with itself, holds of all
pub both_ways : {X : Type 0} (Q : X → X → Type 0) (xs : List X) → Pairs (λ a b. Q a b × Q b a) xs → Each (λ a. Q a a) xs → Each (λ b. Each (λ a. Q a b) xs) xs
both_ways Q [] p s = tt
both_ways Q (x ∷ xs) p s = (
  (s.0, each_weaker (λ y. Q x y × Q y x) (λ a. Q a x) (λ y h. h.1) xs p.0),
  each_both (λ y. Q x y × Q y x) (λ b. Each (λ a. Q a b) xs) (λ b. Q x b × Each (λ a. Q a b) xs) (λ b h k. (h.0, k)) xs p.0 (both_ways Q xs p.1 s.1),
)

-- the same of the elements in another order
pub each_two_moved : {X : Type 0} (Q : X → X → Type 0) (xs ys : List X) → IsPermutation xs ys → Each (λ b. Each (λ a. Q a b) xs) xs → Each (λ b. Each (λ a. Q a b) ys) ys
each_two_moved Q xs ys m h =
    each_weaker (λ b. Each (λ a. Q a b) xs) (λ b. Each (λ a. Q a b) ys) (λ b k. each_moved (λ a. Q a b) xs ys m k) ys (each_moved (λ b. Each (λ a. Q a b) xs) xs ys m h)

-- ---- what a filter keeps

filter_keeps_step : {X : Type 0} (p : X → Bool) (P : X → Type 0) (x : X) (xs : List X) → P x → Each P (filter p xs) → (b : Bool) → Each P (cond b (x ∷ filter p xs) (filter p xs))
filter_keeps_step p P x xs h k true = (h, k)
filter_keeps_step p P x xs h k false = k

pub each_filter : {X : Type 0} (p : X → Bool) (P : X → Type 0) (xs : List X) → Each P xs → Each P (filter p xs)
each_filter p P [] h = tt
each_filter p P (x ∷ xs) h = filter_keeps_step p P x xs h.0 (each_filter p P xs h.1) (p x)

filter_passes_step : {X : Type 0} (p : X → Bool) (x : X) (xs : List X) → Each (λ y. p y ≡ true) (filter p xs) → (b : Bool) → p x ≡ b → Each (λ y. p y ≡ true) (cond b (x ∷ filter p xs) (filter p xs))
filter_passes_step p x xs k true e = (e, k)
filter_passes_step p x xs k false e = k

pub each_passes : {X : Type 0} (p : X → Bool) (xs : List X) → Each (λ x. p x ≡ true) (filter p xs)
each_passes p [] = tt
each_passes p (x ∷ xs) = filter_passes_step p x xs (each_passes p xs) (p x) refl

filter_pairs_step : {X : Type 0} (p : X → Bool) (R : X → X → Type 0) (x : X) (xs : List X) → Each (R x) (filter p xs) → Pairs R (filter p xs) → (b : Bool) → Pairs R (cond b (x ∷ filter p xs) (filter p xs))
filter_pairs_step p R x xs h k true = (h, k)
filter_pairs_step p R x xs h k false = k

pub pairs_filter : {X : Type 0} (p : X → Bool) (R : X → X → Type 0) (xs : List X) → Pairs R xs → Pairs R (filter p xs)
pairs_filter p R [] h = tt
pairs_filter p R (x ∷ xs) h = filter_pairs_step p R x xs (each_filter p (R x) xs h.0) (pairs_filter p R xs h.1) (p x)

-- what holds of each element, of each two, and of each that is kept, holds of those that are kept
pub pairs_with : {X : Type 0} (P : X → Type 0) (R S : X → X → Type 0) → ((x y : X) → P x → P y → R x y → S x y) → (xs : List X) → Each P xs → Pairs R xs → Pairs S xs
pairs_with P R S f [] h k = tt
pairs_with P R S f (x ∷ xs) h k = (each_both P (R x) (S x) (λ y p r. f x y h.0 p r) xs h.1 k.0, pairs_with P R S f xs h.1 k.1)

-- ---- elements

abbrev pub In : {X : Type 0} → X → List X → Type 0
In z [] = ⊥
In z (x ∷ xs) = (z ≡ x) ⊎ In z xs

in_at : {X : Type 0} (xs : List X) (z : X) (k : ℕ) → k < length xs → get_or xs k z ≡ z → In z xs
in_at [] z k lt e = absurd (omega arith)
in_at (x ∷ xs) z zero lt e = inl (sym e)
in_at (x ∷ xs) z (suc k) lt e = inr (in_at xs z k (omega arith) e)

pub in_from : {X : Type 0} (xs : List X) (z : X) → Contains xs z → In z xs
in_from xs z h = in_at xs z h.0 h.1 h.2

pub in_to : {X : Type 0} (xs : List X) (z : X) → In z xs → Contains xs z
in_to [] z h = absurd h
in_to (x ∷ xs) z (inl e) = (zero, omega arith, sym e)
in_to (x ∷ xs) z (inr h) = let r = in_to xs z h in (suc r.0, omega (arith, r.1), r.2)

pub each_in : {X : Type 0} (P : X → Type 0) (xs : List X) (z : X) → Each P xs → In z xs → P z
each_in P [] z h i = absurd i
each_in P (x ∷ xs) z h (inl e) = subst P (sym e) h.0
each_in P (x ∷ xs) z h (inr i) = each_in P xs z h.1 i

keep_in : {X : Type 0} (p : X → Bool) (x z : X) (xs : List X) → p z ≡ true → (z ≡ x) ⊎ In z (filter p xs) → (b : Bool) → p x ≡ b → In z (cond b (x ∷ filter p xs) (filter p xs))
keep_in p x z xs e h true f = h
keep_in p x z xs e (inl g) false f = absurd (cc)
keep_in p x z xs e (inr i) false f = i

pub in_filter : {X : Type 0} (p : X → Bool) (z : X) (xs : List X) → p z ≡ true → In z xs → In z (filter p xs)
in_filter p z [] e h = h
in_filter p z (x ∷ xs) e (inl g) = keep_in p x z xs e (inl g) (p x) refl
in_filter p z (x ∷ xs) e (inr i) = keep_in p x z xs e (inr (in_filter p z xs e i)) (p x) refl

kept_in : {X : Type 0} (p : X → Bool) (x z : X) (xs : List X) → (In z (filter p xs) → In z xs) → (b : Bool) → In z (cond b (x ∷ filter p xs) (filter p xs)) → In z (x ∷ xs)
kept_in p x z xs f true (inl e) = inl e
kept_in p x z xs f true (inr i) = inr (f i)
kept_in p x z xs f false i = inr (f i)

pub in_of_filter : {X : Type 0} (p : X → Bool) (z : X) (xs : List X) → In z (filter p xs) → In z xs
in_of_filter p z [] h = h
in_of_filter p z (x ∷ xs) h = kept_in p x z xs (in_of_filter p z xs) (p x) h
