-- What holds of runs in the order in which they are taken.
use Rattle.std.proofs.Common.{◌==◌, ◌≡◌, ◌≢◌, ◌<◌, ℕ, ◌≤ℤ◌, Bool, true, false, not, List, [], ◌∷◌, get_or, refl, sym, arith, ◌∙◌, nat_lt}
use Rattle.std.specs.List.{All, AllPairs, filter}
use Rattle.std.specs.List.Sorted.{IsPermutation}
use Rattle.std.proofs.lemmas.Int.{ints}
use Rattle.std.proofs.lemmas.Bool.{eqb-true, and_parts, ltb-true, ltb-false}
use Rattle.std.proofs.lemmas.List.Sorted.{IsPermutation-sym, IsPermutation-refl}
use Rattle.mp4_run_order.specs.declared.runs.ListedRun.{ListedRun}
use Rattle.mp4_run_order.specs.declared.runs.Payload.{Payload}
use Rattle.mp4_run_order.specs.Runs.{end_of, SharesNoByte, IsInTurn, IsListing}
use Rattle.mp4_run_order.specs.Places.{LiesIn, MayBePlaced, Placed}
use Rattle.mp4_run_order.specs.Orders.{IsTakenBefore, IsTakingOrder, taken}
use Rattle.mp4_run_order.specs.Takings.{has_samples, has_bytes, has_samples_of, IsTakenWell, AllFollow}
use Rattle.mp4_run_order.proofs.ListLemmas.{Each, Pairs, each_weaker, each_of_all, all_of_each, each_moved, each_two_moved, each_filter, each_passes, pairs_of_all, all_of_pairs, pairs_both, pairs_filter, pairs_with, each_both}
use Rattle.mp4_run_order.proofs.SortLemmas.{OneWay, same_filter}
use Rattle.mp4_run_order.proofs.RunLemmas.{some_from, apart_flip, both_have, ge_from, lt_from}
use Rattle.std.specs.Int.Signed.{lt_z}
use Rattle.mp4_run_order.proofs.OrderLemmas.{order_is_taken, differ_of_listing, Differ}

-- ---- any two runs of a list

-- what holds of each two elements of a list holds of each and each later one
pairs_of_two : (Q : ListedRun → ListedRun → Type 0) (xs : List ListedRun) → Each (λ b. Each (λ a. Q a b) xs) xs → Pairs (λ a b. Q a b × Q b a) xs
pairs_of_two Q [] h = tt
pairs_of_two Q (x ∷ xs) h = (
  each_both (λ b. Q x b × Each (λ a. Q a b) xs) (λ a. Q a x) (λ y. Q x y × Q y x) (λ y k q. (k.0, q)) xs h.1 h.0.1,
  pairs_of_two Q xs (each_weaker (λ b. Q x b × Each (λ a. Q a b) xs) (λ b. Each (λ a. Q a b) xs) (λ b k. k.1) xs h.1),
)

two_in : (Q : ListedRun → ListedRun → Type 0) (runs xs : List ListedRun) → IsPermutation runs xs → All (λ b. All (λ a. Q a b) runs) runs → Pairs (λ a b. Q a b × Q b a) xs
two_in Q runs xs m h =
    pairs_of_two Q xs (each_two_moved Q runs xs m (each_weaker (λ b. All (λ a. Q a b) runs) (λ b. Each (λ a. Q a b) runs) (λ b k. each_of_all (λ a. Q a b) runs k) runs (each_of_all (λ b. All (λ a. Q a b) runs) runs h)))

-- ---- tests

samples_from : (run : ListedRun) → has_samples run ≡ true → run.count ≢ 0
samples_from run h = some_from run.count h

bytes_from : (run : ListedRun) → has_bytes run ≡ true → (run.count ≢ 0) × (run.bytes ≢ 0)
bytes_from run h = let r = and_parts (has_samples run) (not (run.bytes == 0)) h in (some_from run.count r.0, some_from run.bytes r.1)

track_from : (t : ℕ) (run : ListedRun) → has_samples_of t run ≡ true → (run.count ≢ 0) × (run.track ≡ t)
track_from t run h = let r = and_parts (has_samples run) (run.track == t) h in (some_from run.count r.0, eqb-true run.track t r.1)

-- ---- runs that keep their order

abbrev Earlier : ListedRun → ListedRun → Type 0
Earlier a b = a.number < b.number

earlier_one_way : OneWay Earlier
earlier_one_way a b h k = absurd (omega arith)

-- of two runs the one that is listed earlier begins no later
abbrev Rising : ListedRun → ListedRun → Type 0
Rising a b = a.number < b.number → a.place ≤ℤ b.place

earlier_by : (a b : ListedRun) → IsTakenBefore a b → Differ a b → Rising b a → (t : Bool) → nat_lt a.number b.number ≡ t → a.number < b.number
earlier_by a b o d r true e = ltb-true a.number b.number e
earlier_by a b o d r false e =
    let ge = ltb-false a.number b.number e in
    let h = r (omega arith) in
    let k = o.place in
    o.number (omega (arith, ints))

record Two (a b : ListedRun) : Type 0 where
  pub before : IsTakenBefore a b
  pub differ : Differ a b

-- what a test keeps of runs of which no later listed one begins earlier is taken as it is listed
kept_order : (p : ListedRun → Bool) (runs xs : List ListedRun) → IsListing runs → IsTakingOrder runs xs → All (λ b. All (λ a. p a ≡ true → p b ≡ true → Rising a b) runs) runs → filter p xs ≡ filter p runs
kept_order p runs xs l t h =
    let two = two_in (λ a b. p a ≡ true → p b ≡ true → Rising a b) runs xs t.same h in
    let both = pairs_both IsTakenBefore Differ Two (λ a b x y. record { before = x; differ = y }) xs (pairs_of_all IsTakenBefore xs t.order) (differ_of_listing runs xs l t.same) in
    let earlier = pairs_both Two (λ a b. (p a ≡ true → p b ≡ true → Rising a b) × (p b ≡ true → p a ≡ true → Rising b a)) (λ a b. p a ≡ true → p b ≡ true → Earlier a b)
    (λ a b w q x y. earlier_by a b w.before w.differ (q.1 y x) (nat_lt a.number b.number) refl) xs both two in
    let kept = pairs_with (λ a. p a ≡ true) (λ a b. p a ≡ true → p b ≡ true → Earlier a b) Earlier (λ a b x y q. q x y) (filter p xs) (each_passes p xs) (pairs_filter p (λ a b. p a ≡ true → p b ≡ true → Earlier a b) xs earlier) in
    same_filter p Earlier earlier_one_way xs runs (IsPermutation-sym runs xs t.same) kept (pairs_filter p Earlier runs (pairs_of_all Earlier runs l))

-- ---- runs that break no rule

abbrev KeptApart : ListedRun → ListedRun → Type 0
KeptApart a b = a.number < b.number → b.count ≢ 0 → SharesNoByte a b

clear_by : (a b : ListedRun) → (a.count ≢ 0) × (a.bytes ≢ 0) → (b.count ≢ 0) × (b.bytes ≢ 0) → a.place ≤ℤ b.place → SharesNoByte a b → (t : Bool) → lt_z b.place (end_of a) ≡ t → end_of a ≤ℤ b.place
clear_by a b ha hb le s true e = absurd (both_have a b ha.0 hb.0 hb.1 le (lt_from b.place (end_of a) e) s)
clear_by a b ha hb le s false e = ge_from b.place (end_of a) e

apart_by : (a b : ListedRun) → Differ a b → b.count ≢ 0 → a.count ≢ 0 → KeptApart a b → KeptApart b a → (t : Bool) → nat_lt a.number b.number ≡ t → SharesNoByte a b
apart_by a b d nb na h k true e = h (ltb-true a.number b.number e) nb
apart_by a b d nb na h k false e = let g = ltb-false a.number b.number e in apart_flip b a (k (omega arith) na)

clear_two : (a b : ListedRun) → Two a b → KeptApart a b × KeptApart b a → (a.count ≢ 0) × (a.bytes ≢ 0) → (b.count ≢ 0) × (b.bytes ≢ 0) → end_of a ≤ℤ b.place
clear_two a b w s ha hb =
    clear_by a b ha hb w.before.place (apart_by a b w.differ hb.0 ha.0 s.0 s.1 (nat_lt a.number b.number) refl) (lt_z b.place (end_of a)) refl

kept_apart_all : (p : Payload) (runs : List ListedRun) → Placed p runs → All (λ b. All (λ a. KeptApart a b) runs) runs
kept_apart_all p runs h = λ j d lt i e le less ne. (h j d lt ne).apart i e le less

turn_rises : (track : ℕ) (a b : ListedRun) → (b.count ≢ 0 → IsInTurn a b) → has_samples_of track a ≡ true → has_samples_of track b ≡ true → a.place ≤ℤ b.place
turn_rises track a b h x y =
    let m = track_from track a x in
    let n = track_from track b y in
    let g = (h n.0).in_turn m.0 (m.1 ∙ sym n.1) in
    omega (arith, ints)

rising_all : (p : Payload) (runs : List ListedRun) (track : ℕ) → Placed p runs → All (λ b. All (λ a. has_samples_of track a ≡ true → has_samples_of track b ≡ true → Rising a b) runs) runs
rising_all p runs track h = λ j d lt i e le x y less. turn_rises track (get_or runs i e) (get_or runs j d) (λ ne. (h j d lt ne).in_turn i e le less) x y

pub taken_well : (p : Payload) (runs xs : List ListedRun) → IsListing runs → IsTakingOrder runs xs → Placed p runs → IsTakenWell p runs xs
taken_well p runs xs l t h =
    let two = pairs_both IsTakenBefore Differ Two (λ a b x y. record { before = x; differ = y }) xs (pairs_of_all IsTakenBefore xs t.order) (differ_of_listing runs xs l t.same) in
    let kept_apart = two_in KeptApart runs xs t.same (kept_apart_all p runs h) in
    let clear = pairs_both Two (λ a b. KeptApart a b × KeptApart b a) (λ a b. Two a b × (KeptApart a b × KeptApart b a)) (λ a b x y. (x, y)) xs two kept_apart in
    record {
      ascend = all_of_pairs (λ a b. end_of a ≤ℤ b.place) (filter has_bytes xs)
          (pairs_with (λ a. has_bytes a ≡ true) (λ a b. Two a b × (KeptApart a b × KeptApart b a)) (λ a b. end_of a ≤ℤ b.place)
          (λ a b x y c. clear_two a b c.0 c.1 (bytes_from a x) (bytes_from b y)) (filter has_bytes xs) (each_passes has_bytes xs)
          (pairs_filter has_bytes (λ a b. Two a b × (KeptApart a b × KeptApart b a)) xs clear));
      lie = all_of_each (LiesIn p) (filter has_samples xs)
          (each_both (MayBePlaced p runs) (λ a. has_samples a ≡ true) (LiesIn p) (λ a m e. (m (samples_from a e)).lies) (filter has_samples xs)
          (each_filter has_samples (MayBePlaced p runs) xs (each_moved (MayBePlaced p runs) runs xs t.same (each_of_all (MayBePlaced p runs) runs h))) (each_passes has_samples xs));
      turns = λ track. kept_order (has_samples_of track) runs xs l t (rising_all p runs track h);
    }

-- ---- runs that ascend in the listing

pub ascending_is_taken : (runs : List ListedRun) → IsListing runs → AllPairs (λ a b. a.place ≤ℤ b.place) runs → taken runs ≡ runs
ascending_is_taken runs l up =
    let order = pairs_both (λ a b. a.place ≤ℤ b.place) Earlier IsTakenBefore (λ a b x y. record { place = x; number = λ e. y }) runs
    (pairs_of_all (λ a b. a.place ≤ℤ b.place) runs up) (pairs_of_all Earlier runs l) in
    sym (order_is_taken runs runs l (record { same = IsPermutation-refl runs; order = all_of_pairs IsTakenBefore runs order }))

-- ---- the stricter rule

apart_after : (a b : ListedRun) → (a.count ≢ 0 → end_of a ≤ℤ b.place) → SharesNoByte a b
apart_after a b h = record { no_byte = λ x i j. let g = h i.samples in let f = i.to in let k = j.from in absurd (omega (arith, ints)) }

pub follows_placed : (p : Payload) (runs : List ListedRun) → AllFollow p runs → Placed p runs
follows_placed p runs h = λ j d lt ne.
    let f = h j d lt ne in
    record {
      lies = f.lies;
      apart = λ i e le less. apart_after _ _ (f.after i e le less);
      in_turn = λ i e le less. record { in_turn = λ na same. f.after i e le less na };
    }

after_rises : (a b : ListedRun) → (b.count ≢ 0 → a.count ≢ 0 → end_of a ≤ℤ b.place) → has_samples a ≡ true → has_samples b ≡ true → a.place ≤ℤ b.place
after_rises a b h x y = let g = h (samples_from b y) (samples_from a x) in omega (arith, ints)

follows_rise : (p : Payload) (runs : List ListedRun) → AllFollow p runs → All (λ b. All (λ a. has_samples a ≡ true → has_samples b ≡ true → Rising a b) runs) runs
follows_rise p runs h = λ j d lt i e le x y less. after_rises (get_or runs i e) (get_or runs j d) (λ ne. (h j d lt ne).after i e le less) x y

pub follows_order : (p : Payload) (runs xs : List ListedRun) → IsListing runs → IsTakingOrder runs xs → AllFollow p runs → filter has_samples xs ≡ filter has_samples runs
follows_order p runs xs l t h = kept_order has_samples runs xs l t (follows_rise p runs h)
