-- The orders of runs.
use lib.IntN.{negsuc}
use Rattle.std.proofs.Common.{◌==◌, if◌then◌else◌, ◌≡◌, ◌≢◌, ◌+◌, ◌*◌, ◌<◌, ◌≤◌, ℕ, ℤ, pos, ◌+ℤ◌, ◌≤ℤ◌, Bool, true, false, List, [], ◌∷◌, get_or, refl, ap, arith, ◌∙◌}
use Rattle.std.specs.Prelude.{map, nat_le}
use Rattle.std.specs.List.{All}
use Rattle.std.specs.List.Sorted.{IsPermutation, IsNonDecreasingBy}
use Rattle.std.specs.Int.Signed.{lt_z}
use Rattle.std.proofs.lemmas.Int.{ints}
use Rattle.std.proofs.lemmas.Bool.{eqb-false, ne_eqb, leb-true, leb-false, le-leb}
use Rattle.std.proofs.lemmas.Bool.Decides.{nat_tests}
use Rattle.std.proofs.lemmas.List.Sorted.{IsPermutation-sym, IsPermutation-trans}
use Rattle.std.proofs.lemmas.Map.Keys.{IsDistinct-IsPermutation, IsDistinct-from_apart, apart_from_distinct}
use Rattle.mp4_run_order.specs.declared.runs.ListedRun.{ListedRun}
use Rattle.mp4_run_order.specs.Runs.{IsListing}
use Rattle.mp4_run_order.specs.Orders.{IsTakenBefore, IsTakingOrder, IsBeforeByTrack, IsTrackOrder, FitsKeys, put_by, may_precede, taken_by, taken, from_lowest, place_key, track_key}
use Rattle.mp4_run_order.proofs.ListLemmas.{Each, Pairs, each_of_all, each_moved, all_of_pairs, pairs_of_all, pairs_both, pairs_with}
use Rattle.mp4_run_order.proofs.SortLemmas.{IsOrder, OneWay, ordered_permutes, ordered_rises, same_order}
use Rattle.mp4_run_order.proofs.RunLemmas.{lt_from, ge_from}

-- ---- numbers stay apart in any order

abbrev pub Differ : ListedRun → ListedRun → Type 0
Differ a b = a.number ≢ b.number

same_test : {X : Type 0} (key : X → ℕ) (a b : X) → (key a == key b) ≡ (key b == key a)
same_test key a b = grind (arith, nat_tests)

-- numbers that rise differ in any order
pub differ_moved : {X : Type 0} (key : X → ℕ) (xs ys : List X) → Pairs (λ a b. key a < key b) xs → IsPermutation xs ys → Pairs (λ a b. key a ≢ key b) ys
differ_moved key xs ys rise moved =
    let below = all_of_pairs (λ a b. key a < key b) xs rise in
    let d = IsDistinct-from_apart (λ a b. key a == key b) xs (λ i j d lt le. ne_eqb (key (get_or xs i d)) (key (get_or xs j d)) (λ e. let q = below i j d lt le in absurd (omega arith))) in
    let e = IsDistinct-IsPermutation (λ a b. key a == key b) (same_test key) xs ys moved d in
    pairs_of_all (λ a b. key a ≢ key b) ys (λ i j d lt le. eqb-false (key (get_or ys i d)) (key (get_or ys j d)) (apart_from_distinct (λ a b. key a == key b) ys i j d e lt le))

pub differ_of_listing : (runs xs : List ListedRun) → IsListing runs → IsPermutation runs xs → Pairs Differ xs
differ_of_listing runs xs l m = differ_moved (λ run. run.number) runs xs (pairs_of_all (λ a b. a.number < b.number) runs l) m

-- ---- the order in which runs are taken

record Precedes (a b : ListedRun) : Type 0 where
  pub place : a.place ≤ℤ b.place
  pub number : a.place ≡ b.place → a.number ≤ b.number

precedes_by : (a b : ListedRun) → (t : Bool) → lt_z a.place b.place ≡ t → (u : Bool) → lt_z b.place a.place ≡ u → (if t then true else if u then false else nat_le a.number b.number) ≡ true → Precedes a b
precedes_by a b true e u f h = let g = lt_from a.place b.place e in record { place = omega (arith, ints); number = λ q. absurd (omega (arith, ints)) }
precedes_by a b false e true f h = absurd (cc)
precedes_by a b false e false f h = let g = ge_from b.place a.place f in record { place = g; number = λ q. leb-true a.number b.number h }

precedes_from : (a b : ListedRun) → may_precede a b ≡ true → Precedes a b
precedes_from a b h = precedes_by a b (lt_z a.place b.place) refl (lt_z b.place a.place) refl h

precedes_to_by : (a b : ListedRun) → Precedes a b → (t : Bool) → lt_z a.place b.place ≡ t → (u : Bool) → lt_z b.place a.place ≡ u → (if t then true else if u then false else nat_le a.number b.number) ≡ true
precedes_to_by a b h true e u f = refl
precedes_to_by a b h false e true f = let g = lt_from b.place a.place f in let k = h.place in absurd (omega (arith, ints))
precedes_to_by a b h false e false f =
    let g = ge_from b.place a.place f in
    let k = ge_from a.place b.place e in
    le-leb a.number b.number (h.number (omega (arith, ints)))

precedes_to : (a b : ListedRun) → Precedes a b → may_precede a b ≡ true
precedes_to a b h = precedes_to_by a b h (lt_z a.place b.place) refl (lt_z b.place a.place) refl

other_by : (a b : ListedRun) → (t : Bool) → lt_z a.place b.place ≡ t → (u : Bool) → lt_z b.place a.place ≡ u → (if t then true else if u then false else nat_le a.number b.number) ≡ false → Precedes b a
other_by a b true e u f h = absurd (cc)
other_by a b false e true f h = let g = lt_from b.place a.place f in record { place = omega (arith, ints); number = λ q. absurd (omega (arith, ints)) }
other_by a b false e false f h = let k = ge_from a.place b.place e in let g = leb-false a.number b.number h in record { place = k; number = λ q. omega arith }

joined : (a b c : ListedRun) → Precedes a b → Precedes b c → Precedes a c
joined a b c h k =
    let m = h.place in
    let n = k.place in
    record { place = omega (arith, ints); number = λ q. let x = h.number (omega (arith, ints)) in let y = k.number (omega (arith, ints)) in omega arith }

takes_order : {X : Type 0} (run_of : X → ListedRun) → IsOrder (λ a b. may_precede (run_of a) (run_of b))
takes_order run_of = record {
  other = λ a b e. precedes_to (run_of b) (run_of a) (other_by (run_of a) (run_of b) (lt_z (run_of a).place (run_of b).place) refl (lt_z (run_of b).place (run_of a).place) refl e);
  joins = λ a b c d e. precedes_to (run_of a) (run_of c) (joined (run_of a) (run_of b) (run_of c) (precedes_from (run_of a) (run_of b) d) (precedes_from (run_of b) (run_of c) e));
}

abbrev pub TakenBefore : {X : Type 0} → (X → ListedRun) → X → X → Type 0
TakenBefore run_of a b = IsTakenBefore (run_of a) (run_of b)

one_way : {X : Type 0} (run_of : X → ListedRun) → OneWay (TakenBefore run_of)
one_way run_of a b h k =
    let m = h.place in
    let n = k.place in
    let x = h.number (omega (arith, ints)) in
    let y = k.number (omega (arith, ints)) in
    absurd (omega arith)

abbrev pub Listed : {X : Type 0} → (X → ListedRun) → List X → Type 0
Listed run_of xs = Pairs (λ a b. (run_of a).number < (run_of b).number) xs

pub taken_permutes : {X : Type 0} (run_of : X → ListedRun) (xs : List X) → IsPermutation xs (taken_by run_of xs)
taken_permutes run_of xs = ordered_permutes (λ a b. may_precede (run_of a) (run_of b)) xs

pub taken_rises : {X : Type 0} (run_of : X → ListedRun) (xs : List X) → Listed run_of xs → Pairs (TakenBefore run_of) (taken_by run_of xs)
taken_rises run_of xs l =
    pairs_both (λ a b. may_precede (run_of a) (run_of b) ≡ true) (λ a b. (run_of a).number ≢ (run_of b).number) (TakenBefore run_of)
    (λ a b e d. let h = precedes_from (run_of a) (run_of b) e in record { place = h.place; number = λ q. let n = h.number q in omega arith })
    (taken_by run_of xs) (ordered_rises (λ a b. may_precede (run_of a) (run_of b)) (takes_order run_of) xs)
    (differ_moved (λ x. (run_of x).number) xs (taken_by run_of xs) l (taken_permutes run_of xs))

pub taken_alone : {X : Type 0} (run_of : X → ListedRun) (xs ys : List X) → Listed run_of xs → IsPermutation xs ys → Pairs (TakenBefore run_of) ys → ys ≡ taken_by run_of xs
taken_alone run_of xs ys l m o =
    same_order (TakenBefore run_of) (one_way run_of) ys (taken_by run_of xs) (IsPermutation-trans ys xs (taken_by run_of xs) (IsPermutation-sym xs ys m) (taken_permutes run_of xs)) o (taken_rises run_of xs l)

abbrev as_it_is : ListedRun → ListedRun
as_it_is run = run

listed_of : (runs : List ListedRun) → IsListing runs → Listed as_it_is runs
listed_of runs l = pairs_of_all (λ a b. a.number < b.number) runs l

pub taken_is_order : (runs : List ListedRun) → IsListing runs → IsTakingOrder runs (taken runs)
taken_is_order runs l = record { same = taken_permutes as_it_is runs; order = all_of_pairs IsTakenBefore (taken runs) (taken_rises as_it_is runs (listed_of runs l)) }

pub order_is_taken : (runs xs : List ListedRun) → IsListing runs → IsTakingOrder runs xs → xs ≡ taken runs
order_is_taken runs xs l t = taken_alone as_it_is runs xs (listed_of runs l) t.same (pairs_of_all IsTakenBefore xs t.order)

-- ---- the numbers by which runs are sorted

pos_key : (z : ℤ) → negsuc 9223372036854775807 ≤ℤ z → pos (from_lowest z) ≡ z +ℤ pos 9223372036854775808
pos_key (pos n) h = omega (arith, ints)
pos_key (negsuc n) h = omega (arith, ints)

record InOrder (m n a b : ℕ) : Type 0 where
  pub key : m ≤ n
  pub number : m ≡ n → a < b

upper_first : (m n a b : ℕ) → a < 18446744073709551616 → b < 18446744073709551616 → a ≢ b → m * 18446744073709551616 + a ≤ n * 18446744073709551616 + b → InOrder m n a b
upper_first m n a b fa fb ne le = record { key = omega arith; number = λ e. omega arith }

taken_by_key : (a b : ListedRun) → FitsKeys a → FitsKeys b → Differ a b → place_key a ≤ place_key b → IsTakenBefore a b
taken_by_key a b fa fb ne le =
    let o = upper_first (from_lowest a.place) (from_lowest b.place) a.number b.number fa.number fb.number ne le in
    let ka = pos_key a.place fa.place in
    let kb = pos_key b.place fb.place in
    let m = o.key in
    record { place = omega (arith, ints); number = λ e. o.number (ap from_lowest e) }

track_by_key : (a b : ListedRun) → FitsKeys a → FitsKeys b → Differ a b → track_key a ≤ track_key b → IsBeforeByTrack a b
track_by_key a b fa fb ne le =
    let o = upper_first a.track b.track a.number b.number fa.number fb.number ne le in
    record { track = o.key; number = o.number }

no_fall : {X : Type 0} (key : X → ℕ) (xs : List X) → IsNonDecreasingBy key xs → Pairs (λ a b. key a ≤ key b) xs
no_fall key xs h = pairs_of_all (λ a b. key a ≤ key b) xs (λ i j d lt le. h i j d (omega arith) le)

-- what is sorted by a key is in the order of the key
sorted_order : {X : Type 0} (run_of : X → ListedRun) (key : ListedRun → ℕ) (R : ListedRun → ListedRun → Type 0) → ((a b : ListedRun) → FitsKeys a → FitsKeys b → Differ a b → key a ≤ key b → R a b)
    → (xs ys : List X) → Listed run_of xs → Each (λ x. FitsKeys (run_of x)) xs → IsPermutation xs ys → IsNonDecreasingBy (λ x. key (run_of x)) ys → Pairs (λ a b. R (run_of a) (run_of b)) ys
sorted_order run_of key R f xs ys l fits m up =
    pairs_with (λ x. FitsKeys (run_of x)) (λ a b. Differ (run_of a) (run_of b) × (key (run_of a) ≤ key (run_of b))) (λ a b. R (run_of a) (run_of b))
    (λ a b fa fb h. f (run_of a) (run_of b) fa fb h.0 h.1) ys (each_moved (λ x. FitsKeys (run_of x)) xs ys m fits)
    (pairs_both (λ a b. Differ (run_of a) (run_of b)) (λ a b. key (run_of a) ≤ key (run_of b)) (λ a b. Differ (run_of a) (run_of b) × (key (run_of a) ≤ key (run_of b))) (λ a b x y. (x, y)) ys (differ_moved (λ x. (run_of x).number) xs ys l m) (no_fall (λ x. key (run_of x)) ys up))

pub sorted_by_track : {X : Type 0} (run_of : X → ListedRun) (xs ys : List X) → Listed run_of xs → Each (λ x. FitsKeys (run_of x)) xs → IsPermutation xs ys → IsNonDecreasingBy (λ x. track_key (run_of x)) ys → Pairs (λ a b. IsBeforeByTrack (run_of a) (run_of b)) ys
sorted_by_track run_of xs ys l fits m up = sorted_order run_of track_key IsBeforeByTrack track_by_key xs ys l fits m up

pub place_keys_order : (runs xs : List ListedRun) → IsListing runs → All FitsKeys runs → IsPermutation runs xs → IsNonDecreasingBy place_key xs → IsTakingOrder runs xs
place_keys_order runs xs l fits m up = record { same = m; order = all_of_pairs IsTakenBefore xs (sorted_order as_it_is place_key IsTakenBefore taken_by_key runs xs (listed_of runs l) (each_of_all FitsKeys runs fits) m up) }

pub track_keys_order : (runs xs : List ListedRun) → IsListing runs → All FitsKeys runs → IsPermutation runs xs → IsNonDecreasingBy track_key xs → IsTrackOrder runs xs
track_keys_order runs xs l fits m up = record { same = m; order = all_of_pairs IsBeforeByTrack xs (sorted_by_track as_it_is runs xs (listed_of runs l) (each_of_all FitsKeys runs fits) m up) }

-- ---- of what holds runs, their runs

put_map_step : {X : Type 0} (run_of : X → ListedRun) (x y : X) (ys : List X) → map run_of (put_by (λ a b. may_precede (run_of a) (run_of b)) x ys) ≡ put_by may_precede (run_of x) (map run_of ys) → (t : Bool)
    → map run_of (if t then x ∷ y ∷ ys else y ∷ put_by (λ a b. may_precede (run_of a) (run_of b)) x ys) ≡ (if t then run_of x ∷ run_of y ∷ map run_of ys else run_of y ∷ put_by may_precede (run_of x) (map run_of ys))
put_map_step run_of x y ys h true = refl
put_map_step run_of x y ys h false = ap (λ (rs : List ListedRun). run_of y ∷ rs) h

put_map : {X : Type 0} (run_of : X → ListedRun) (x : X) (ys : List X) → map run_of (put_by (λ a b. may_precede (run_of a) (run_of b)) x ys) ≡ put_by may_precede (run_of x) (map run_of ys)
put_map run_of x [] = refl
put_map run_of x (y ∷ ys) = put_map_step run_of x y ys (put_map run_of x ys) (may_precede (run_of x) (run_of y))

pub taken_map : {X : Type 0} (run_of : X → ListedRun) (xs : List X) → map run_of (taken_by run_of xs) ≡ taken (map run_of xs)
taken_map run_of [] = refl
taken_map run_of (x ∷ xs) = put_map run_of x (taken_by run_of xs) ∙ ap (put_by may_precede (run_of x)) (taken_map run_of xs)
