-- What the two passes find is the first run at fault.
use Rattle.std.proofs.Common.{◌≡◌, ◌≢◌, ◌<◌, ◌≤◌, ℕ, Bool, true, false, cond, not, List, [], ◌∷◌, Option, Some, None, refl, sym, ap, arith, nat_lt, ◌∙◌, subst}
use Rattle.std.specs.Prelude.{option_map}
use Rattle.std.specs.List.{Contains, find}
use Rattle.std.specs.List.Sorted.{IsPermutation}
use Rattle.std.proofs.lemmas.Bool.{ltb-true, ltb-false, not-true, not-false}
use Rattle.std.proofs.lemmas.List.Sorted.{IsPermutation-sym, Contains-permutation}
use mathlib.Core.Logic.{◌⊎◌, inl, inr}
use Rattle.mp4_run_order.specs.declared.runs.ListedRun.{ListedRun}
use Rattle.mp4_run_order.specs.declared.runs.Payload.{Payload}
use Rattle.mp4_run_order.specs.Runs.{SharesNoByte, IsInTurn, IsListing}
use Rattle.mp4_run_order.specs.Places.{MayBePlaced, may_be_placed, first_offender, IsOffender}
use Rattle.mp4_run_order.specs.Orders.{IsTakenBefore, IsTakingOrder, IsBeforeByTrack, IsTrackOrder}
use Rattle.mp4_run_order.specs.Implementation.Searches.{found_by_track, found_by_place}
use Rattle.mp4_run_order.proofs.ListLemmas.{Each, Pairs, In, in_to, each_weaker, each_always, each_of, each_at, each_moved, each_two_moved, all_of_each, pairs_of_all, pairs_both, both_ways, pairs_weaker}
use Rattle.mp4_run_order.proofs.RunLemmas.{placed_to, placed_from, apart_if, apart_flip}
use Rattle.mp4_run_order.proofs.BoundLemmas.{IsBelow, below_less}
use Rattle.mp4_run_order.proofs.BlameLemmas.{Blamed}
use Rattle.mp4_run_order.proofs.TrackLemmas.{Turn, by_track}
use Rattle.mp4_run_order.proofs.PlaceLemmas.{Follows, Clear, Inside, by_place}
use Rattle.mp4_run_order.proofs.OrderLemmas.{Differ, differ_of_listing}

-- ---- the first in a listing of which a test is true

abbrev FindMeans : (ListedRun → Bool) → List ListedRun → Option ListedRun → Type 0
FindMeans f runs None = Each (λ x. f x ≡ false) runs
FindMeans f runs (Some x) = In x runs × (f x ≡ true) × Each (λ a. a.number < x.number → f a ≡ false) runs

find_more : (f : ListedRun → Bool) (x : ListedRun) (xs : List ListedRun) → f x ≡ false → (o : Option ListedRun) → FindMeans f xs o → FindMeans f (x ∷ xs) o
find_more f x xs e None h = (e, h)
find_more f x xs e (Some y) h = (inr h.0, h.1, (λ lt. e, h.2))

find_step : (f : ListedRun → Bool) (x : ListedRun) (xs : List ListedRun) → Each (λ y. x.number < y.number) xs → FindMeans f xs (find f xs) → (t : Bool) → f x ≡ t → FindMeans f (x ∷ xs) (cond t (Some x) (find f xs))
find_step f x xs n h true e = (inl refl, e, (λ lt. absurd (omega arith), each_weaker (λ y. x.number < y.number) (λ a. a.number < x.number → f a ≡ false) (λ y k lt. absurd (omega arith)) xs n))
find_step f x xs n h false e = find_more f x xs e (find f xs) h

find_means : (f : ListedRun → Bool) (xs : List ListedRun) → Pairs (λ a b. a.number < b.number) xs → FindMeans f xs (find f xs)
find_means f [] n = tt
find_means f (x ∷ xs) n = find_step f x xs n.0 (find_means f xs n.1) (f x) refl

abbrev fails : Payload → List ListedRun → ListedRun → Bool
fails p runs run = not (may_be_placed p runs run)

placed_if : (p : Payload) (runs : List ListedRun) (x : ListedRun) → fails p runs x ≡ false → MayBePlaced p runs x
placed_if p runs x e = placed_from p runs x (not-false (may_be_placed p runs x) e)

offends_if : (p : Payload) (runs : List ListedRun) (x : ListedRun) → fails p runs x ≡ true → MayBePlaced p runs x → ⊥
offends_if p runs x e h = let a = placed_to p runs x h in let b = not-true (may_be_placed p runs x) e in absurd (cc)

offender_by : (p : Payload) (runs : List ListedRun) (o : Option ListedRun) → FindMeans (fails p runs) runs o → IsOffender p runs o
offender_by p runs None h = all_of_each (MayBePlaced p runs) runs (each_weaker (λ x. fails p runs x ≡ false) (MayBePlaced p runs) (λ x e. placed_if p runs x e) runs h)
offender_by p runs (Some run) h = record {
  listed = in_to runs run h.0;
  offends = offends_if p runs run h.1;
  first = all_of_each (λ a. a.number < run.number → MayBePlaced p runs a) runs (each_weaker (λ a. a.number < run.number → fails p runs a ≡ false) (λ a. a.number < run.number → MayBePlaced p runs a) (λ a k lt. placed_if p runs a (k lt)) runs h.2);
}

find_listing : (p : Payload) (runs : List ListedRun) → IsListing runs → FindMeans (fails p runs) runs (first_offender p runs)
find_listing p runs l = find_means (fails p runs) runs (pairs_of_all (λ a b. a.number < b.number) runs l)

pub offender_means : (p : Payload) (runs : List ListedRun) → IsListing runs → IsOffender p runs (first_offender p runs)
offender_means p runs l = offender_by p runs (first_offender p runs) (find_listing p runs l)

-- ---- what was found is its number

abbrev IsPlacedBelow : Payload → List ListedRun → Option ℕ → ListedRun → Type 0
IsPlacedBelow p runs r x = IsBelow x.number r → MayBePlaced p runs x

none_found : (p : Payload) (runs : List ListedRun) (r : Option ℕ) (o : Option ListedRun) → r ≡ None → Each (IsPlacedBelow p runs r) runs → FindMeans (fails p runs) runs o → r ≡ option_map (λ run. run.number) o
none_found p runs r None e s h = e
none_found p runs r (Some y) e s h = absurd (offends_if p runs y h.1 (each_at (IsPlacedBelow p runs r) runs y s (in_to runs y h.0) (subst (λ (q : Option ℕ). IsBelow y.number q) (sym e) tt)))

some_step : (p : Payload) (runs : List ListedRun) (b y : ListedRun) → Contains runs b → (MayBePlaced p runs b → ⊥) → (y.number < b.number → ⊥) → Each (λ a. a.number < y.number → fails p runs a ≡ false) runs → (t : Bool) → nat_lt b.number y.number ≡ t → b.number ≡ y.number
some_step p runs b y c off le h true e = absurd (off (placed_if p runs b (each_at (λ a. a.number < y.number → fails p runs a ≡ false) runs b h c (ltb-true b.number y.number e))))
some_step p runs b y c off le h false e = same b.number y.number (ltb-false b.number y.number e) le
  where
    same_by : (m n : ℕ) → n ≤ m → (n < m → ⊥) → (t : Bool) → nat_lt n m ≡ t → m ≡ n
    same_by m n le never true e = absurd (never (ltb-true n m e))
    same_by m n le never false e = let g = ltb-false n m e in omega arith

    same : (m n : ℕ) → n ≤ m → (n < m → ⊥) → m ≡ n
    same m n le never = same_by m n le never (nat_lt n m) refl

some_found : (p : Payload) (runs : List ListedRun) (r : Option ℕ) (o : Option ListedRun) → Blamed p runs r → Each (IsPlacedBelow p runs r) runs → FindMeans (fails p runs) runs o → r ≡ option_map (λ run. run.number) o
some_found p runs r None b s h = absurd (b.offends (placed_if p runs b.run (each_at (λ x. fails p runs x ≡ false) runs b.run h b.listed)))
some_found p runs r (Some y) b s h =
    b.number ∙ ap Some (some_step p runs b.run y b.listed b.offends
    (λ lt. offends_if p runs y h.1 (each_at (IsPlacedBelow p runs r) runs y s (in_to runs y h.0) (subst (λ (q : Option ℕ). IsBelow y.number q) (sym b.number) lt)))
    h.2 (nat_lt b.run.number y.number) refl)

found_is : (p : Payload) (runs : List ListedRun) (r : Option ℕ) → IsListing runs → Each (IsPlacedBelow p runs r) runs → (r ≡ None) ⊎ Blamed p runs r → r ≡ option_map (λ run. run.number) (first_offender p runs)
found_is p runs r l s (inl e) = none_found p runs r (first_offender p runs) e s (find_listing p runs l)
found_is p runs r l s (inr b) = some_found p runs r (first_offender p runs) b s (find_listing p runs l)

-- ---- the runs that are listed before what was found

record ApartBelow (r : Option ℕ) (a b : ListedRun) : Type 0 where
  pub apart : a.number < b.number → IsBelow b.number r → SharesNoByte a b

record TurnBelow (r : Option ℕ) (a b : ListedRun) : Type 0 where
  pub in_turn : a.number < b.number → IsBelow b.number r → b.count ≢ 0 → IsInTurn a b

apart_both : (r : Option ℕ) (a b : ListedRun) → Clear r a b → ApartBelow r a b × ApartBelow r b a
apart_both r a b c = (
  record { apart = λ lt k. apart_if a b (λ na nb ya yb. c.clear (below_less a.number b.number r lt k) k na nb ya yb) },
  record { apart = λ lt k. apart_flip a b (apart_if a b (λ na nb ya yb. c.clear k (below_less b.number a.number r lt k) na nb ya yb)) },
)

turn_both : (r found : Option ℕ) → ((n : ℕ) → IsBelow n r → IsBelow n found) → (a b : ListedRun) → IsBeforeByTrack a b → Turn found a b → TurnBelow r a b × TurnBelow r b a
turn_both r found upto a b s t = (
  record { in_turn = λ lt k ne. t.turn (upto b.number k) ne },
  record { in_turn = λ lt k ne. record { in_turn = λ nb same. let g = s.number (sym same) in absurd (omega arith) } },
)

placed_by : (p : Payload) (runs : List ListedRun) (r : Option ℕ) (x : ListedRun) → Inside p r x → Each (λ a. ApartBelow r a x) runs → Each (λ a. TurnBelow r a x) runs → IsPlacedBelow p runs r x
placed_by p runs r x i a t k ne = record {
  lies = i.inside k ne;
  apart = all_of_each (λ y. y.number < x.number → SharesNoByte y x) runs (each_weaker (λ y. ApartBelow r y x) (λ y. y.number < x.number → SharesNoByte y x) (λ y h lt. h.apart lt k) runs a);
  in_turn = all_of_each (λ y. y.number < x.number → IsInTurn y x) runs (each_weaker (λ y. TurnBelow r y x) (λ y. y.number < x.number → IsInTurn y x) (λ y h lt. h.in_turn lt k ne) runs t);
}

pub search_is : (p : Payload) (runs sorted taken : List ListedRun) → IsListing runs → IsTrackOrder runs sorted → IsTakingOrder runs taken → found_by_place p (found_by_track sorted) taken ≡ option_map (λ run. run.number) (first_offender p runs)
search_is p runs sorted taken l s t =
    let found = found_by_track sorted in
    let r = found_by_place p found taken in
    let tracks = pairs_of_all IsBeforeByTrack sorted s.order in
    let places = pairs_of_all IsTakenBefore taken t.order in
    let first = by_track p runs sorted (each_of (Contains runs) sorted (λ x c. moved_back runs sorted x s.same c)) tracks in
    let follows = pairs_both IsTakenBefore Differ Follows (λ a b x y. record { place = x.place; differ = y }) taken places (differ_of_listing runs taken l t.same) in
    let second = by_place p runs found taken (each_of (Contains runs) taken (λ x c. moved_back runs taken x t.same c)) follows in
    let inside = each_moved (Inside p r) taken runs (IsPermutation-sym runs taken t.same) second.inside in
    let apart = each_two_moved (ApartBelow r) taken runs (IsPermutation-sym runs taken t.same)
    (both_ways (ApartBelow r) taken (pairs_weaker (Clear r) (λ a b. ApartBelow r a b × ApartBelow r b a) (apart_both r) taken second.pairs) (each_always (λ a. ApartBelow r a a) (λ a. record { apart = λ lt. absurd (omega arith) }) taken)) in
    let turns = each_two_moved (TurnBelow r) sorted runs (IsPermutation-sym runs sorted s.same)
    (both_ways (TurnBelow r) sorted (pairs_both IsBeforeByTrack (Turn found) (λ a b. TurnBelow r a b × TurnBelow r b a) (turn_both r found second.upto) sorted tracks first.turns) (each_always (λ a. TurnBelow r a a) (λ a. record { in_turn = λ lt. absurd (omega arith) }) sorted)) in
    let placed = three p runs r runs inside apart turns in
    found_is p runs r l placed (joined second.is first.is)
  where
    moved_back : (runs xs : List ListedRun) (x : ListedRun) → IsPermutation runs xs → Contains xs x → Contains runs x
    moved_back runs xs x m c = Contains-permutation xs runs x (IsPermutation-sym runs xs m) c

    joined : {p : Payload} {runs : List ListedRun} {r found : Option ℕ} → (r ≡ found) ⊎ Blamed p runs r → (found ≡ None) ⊎ Blamed p runs found → (r ≡ None) ⊎ Blamed p runs r
    joined (inr b) h = inr b
    joined (inl e) (inl f) = inl (e ∙ f)
    joined {p} {runs} {r} {found} (inl e) (inr b) = inr (subst (Blamed p runs) (sym e) b)

    three : (p : Payload) (runs : List ListedRun) (r : Option ℕ) (xs : List ListedRun) → Each (Inside p r) xs → Each (λ x. Each (λ a. ApartBelow r a x) runs) xs → Each (λ x. Each (λ a. TurnBelow r a x) runs) xs → Each (IsPlacedBelow p runs r) xs
    three p runs r [] i a t = tt
    three p runs r (x ∷ xs) i a t = (placed_by p runs r x i.0 a.0 t.0, three p runs r xs i.1 a.1 t.1)
