-- What a pass over runs in taking order finds.
use Rattle.std.proofs.Common.{◌==◌, if◌then◌else◌, ◌≡◌, ◌≢◌, ◌<◌, ℕ, ◌≤ℤ◌, ◌<ℤ◌, Bool, true, false, not, List, [], ◌∷◌, Option, Some, None, refl, arith, nat_lt}
use Rattle.std.specs.List.{Contains, fold}
use Rattle.std.specs.Int.Signed.{lt_z}
use Rattle.std.proofs.lemmas.Int.{ints}
use Rattle.std.proofs.lemmas.Bool.{eqb-true, eqb-false, ltb-true, ltb-false, and_parts, and_from, not-true, not-false, not_from_false, ne_eqb}
use mathlib.Core.Logic.{◌⊎◌, inl, inr}
use Rattle.mp4_run_order.specs.declared.runs.ListedRun.{ListedRun}
use Rattle.mp4_run_order.specs.declared.runs.Payload.{Payload}
use Rattle.mp4_run_order.specs.declared.place_search.PlaceSearch.{PlaceSearch}
use Rattle.mp4_run_order.specs.Runs.{end_of}
use Rattle.mp4_run_order.specs.Places.{LiesIn, lies_in}
use Rattle.mp4_run_order.specs.Implementation.Searches.{is_below, may_be_first, lower_of, bytes_step, place_step}
use Rattle.mp4_run_order.proofs.ListLemmas.{Each, Pairs, each_always, each_weaker}
use Rattle.mp4_run_order.proofs.RunLemmas.{some_from, lies_from, lies_to, lt_from, ge_from, apart_flip, both_have}
use Rattle.mp4_run_order.proofs.BoundLemmas.{IsBelow, below_from, below_to, below_less, below_lower, lower_which}
use Rattle.mp4_run_order.proofs.BlameLemmas.{Blamed, blamed_out_of_place, blamed_sharing}

-- a search that found this, after this run
abbrev at_state : Payload → Option ℕ → Option ListedRun → PlaceSearch
at_state p found last = record { payload = p; offender = found; last = last }

abbrev found_from : Payload → Option ℕ → Option ListedRun → List ListedRun → Option ℕ
found_from p found last xs = (fold place_step (at_state p found last) xs).offender

-- a begins no later than b, and they have two numbers
pub record Follows (a b : ListedRun) : Type 0 where
  pub place : a.place ≤ℤ b.place
  pub differ : a.number ≢ b.number

-- a ends where b begins or before, where both have bytes and are listed before what was found
pub record Clear (r : Option ℕ) (a b : ListedRun) : Type 0 where
  pub clear : IsBelow a.number r → IsBelow b.number r → a.count ≢ 0 → b.count ≢ 0 → a.bytes ≢ 0 → b.bytes ≢ 0 → end_of a ≤ℤ b.place

abbrev ClearAt : Option ℕ → Option ListedRun → ListedRun → Type 0
ClearAt r None b = Unit {0}
ClearAt r (Some a) b = Clear r a b

pub record Inside (p : Payload) (r : Option ℕ) (x : ListedRun) : Type 0 where
  pub inside : IsBelow x.number r → x.count ≢ 0 → LiesIn p x

-- the last run that was kept, before these
abbrev IsLast : List ListedRun → Option ListedRun → List ListedRun → Type 0
IsLast runs None xs = Unit {0}
IsLast runs (Some a) xs = Contains runs a × (a.count ≢ 0) × (a.bytes ≢ 0) × Each (Follows a) xs

pub record Passed (p : Payload) (runs : List ListedRun) (found : Option ℕ) (last : Option ListedRun) (xs : List ListedRun) (r : Option ℕ) : Type 0 where
  pub upto : (n : ℕ) → IsBelow n r → IsBelow n found
  pub at : Each (ClearAt r last) xs
  pub inside : Each (Inside p r) xs
  pub pairs : Pairs (Clear r) xs
  pub is : (r ≡ found) ⊎ Blamed p runs r

rest_is : (runs : List ListedRun) (last : Option ListedRun) (x : ListedRun) (xs : List ListedRun) → IsLast runs last (x ∷ xs) → IsLast runs last xs
rest_is runs None x xs h = tt
rest_is runs (Some a) x xs h = (h.0, h.1, h.2, h.3.1)

clear_at_if : (r : Option ℕ) (last : Option ListedRun) (x : ListedRun) → (IsBelow x.number r → x.count ≢ 0 → x.bytes ≢ 0 → ⊥) → ClearAt r last x
clear_at_if r None x f = tt
clear_at_if r (Some a) x f = record { clear = λ ba bx na nx ya yx. absurd (f bx nx yx) }

-- a run that isn't listed before what was found, or has no samples
skipped : (p : Payload) (runs : List ListedRun) (found found' : Option ℕ) (last : Option ListedRun) (x : ListedRun) (xs : List ListedRun) (r : Option ℕ) → Passed p runs found' last xs r
    → ((n : ℕ) → IsBelow n r → IsBelow n found) → (IsBelow x.number r → x.count ≢ 0 → ⊥) → (r ≡ found) ⊎ Blamed p runs r → Passed p runs found last (x ∷ xs) r
skipped p runs found found' last x xs r f upto out is = record {
  upto = upto;
  at = (clear_at_if r last x (λ b n y. out b n), f.at);
  inside = (record { inside = λ b n. absurd (out b n) }, f.inside);
  pairs = (each_always (Clear r x) (λ y. record { clear = λ bx by nx ny yx yy. absurd (out bx nx) }) xs, f.pairs);
  is = is;
}

judged_from : (found : Option ℕ) (x : ListedRun) → not (may_be_first found x) ≡ false → (x.count ≢ 0) × IsBelow x.number found
judged_from found x h =
    let r = and_parts (not (x.count == 0)) (is_below x.number found) (not-false (may_be_first found x) h) in
    (some_from x.count r.0, below_from x.number found r.1)

not_judged : (found : Option ℕ) (x : ListedRun) → not (may_be_first found x) ≡ true → IsBelow x.number found → x.count ≢ 0 → ⊥
not_judged found x h b n =
    let e = not-true (may_be_first found x) h in
    let j : may_be_first found x ≡ true = and_from (not (x.count == 0)) (is_below x.number found) (not_from_false (x.count == 0) (ne_eqb x.count 0 n)) (below_to x.number found b) in
    absurd (cc)

-- after a run that was found at fault
after_found : (p : Payload) (runs : List ListedRun) (found : Option ℕ) (last : Option ListedRun) (x : ListedRun) (xs : List ListedRun) (r : Option ℕ) → IsBelow x.number found → Passed p runs (Some x.number) last xs r → (r ≡ Some x.number → Blamed p runs r) → Passed p runs found last (x ∷ xs) r
after_found p runs found last x xs r b f blame =
    skipped p runs found (Some x.number) last x xs r f
    (λ n k. below_less n x.number found (f.upto n k) b)
    (λ k n. let h : x.number < x.number = f.upto x.number k in absurd (omega arith))
    (elim f.is [ inl e ↦ inr (blame e) | inr h ↦ inr h ])

-- after a run that was kept, with what is clear of the last
after_kept : (p : Payload) (runs : List ListedRun) (found found' : Option ℕ) (last : Option ListedRun) (x : ListedRun) (xs : List ListedRun) (r : Option ℕ) → LiesIn p x → Passed p runs found' (Some x) xs r
    → ((n : ℕ) → IsBelow n r → IsBelow n found) → Each (ClearAt r last) (x ∷ xs) → (r ≡ found) ⊎ Blamed p runs r → Passed p runs found last (x ∷ xs) r
after_kept p runs found found' last x xs r lies f upto at is = record {
  upto = upto;
  at = at;
  inside = (record { inside = λ b n. lies }, f.inside);
  pairs = (f.at, f.pairs);
  is = is;
}

abbrev NextIs : Payload → List ListedRun → List ListedRun → Type 0
NextIs p runs xs = (f : Option ℕ) (l : Option ListedRun) → IsLast runs l xs → Passed p runs f l xs (found_from p f l xs)

-- the run begins before the end of the last one
between_step : (p : Payload) (runs : List ListedRun) (found : Option ℕ) (a x : ListedRun) (xs : List ListedRun) → Contains runs x → x.count ≢ 0 → x.bytes ≢ 0 → IsBelow x.number found → LiesIn p x → x.place <ℤ end_of a → Each (Follows x) xs → IsLast runs (Some a) (x ∷ xs)
    → NextIs p runs xs → (w : Bool) → nat_lt a.number x.number ≡ w
    → Passed p runs found (Some a) (x ∷ xs) (fold place_step (if w then at_state p (Some x.number) (Some a) else at_state p (Some (lower_of a.number found)) (Some x)) xs).offender
between_step p runs found a x xs c nx yx b lies over next l ih true e =
    let r = found_from p (Some x.number) (Some a) xs in
    let fo = l.3.0 in
    after_found p runs found (Some a) x xs r b (ih (Some x.number) (Some a) (rest_is runs (Some a) x xs l))
    (λ q. blamed_sharing p runs r a x l.0 c (ltb-true a.number x.number e) q nx (both_have a x l.1 nx yx fo.place over))
between_step p runs found a x xs c nx yx b lies over next l ih false e =
    let found' : Option ℕ = Some (lower_of a.number found) in
    let r = found_from p found' (Some x) xs in
    let f = ih found' (Some x) (c, nx, yx, next) in
    let fo = l.3.0 in
    let ge = ltb-false a.number x.number e in
    let ne = fo.differ in
    let low : (n : ℕ) → IsBelow n r → (n < a.number) × IsBelow n found = λ n k. below_lower n a.number found (f.upto n k) in
    after_kept p runs found found' (Some a) x xs r lies f (λ n k. (low n k).1)
    (each_always (Clear r a) (λ y. record { clear = λ ba by na ny ya yy. let h = (low a.number ba).0 in absurd (omega arith) }) (x ∷ xs))
    (elim f.is [
      | inr h ↦ inr h
      | inl q ↦ elim (lower_which a.number found r q) [
        | inl g ↦ inr (blamed_sharing p runs r x a c l.0 (omega arith) g l.1 (λ s. both_have a x l.1 nx yx fo.place over (apart_flip x a s)))
        | inr g ↦ inl g
      ]
    ])

sharing_step : (p : Payload) (runs : List ListedRun) (found : Option ℕ) (a x : ListedRun) (xs : List ListedRun) → Contains runs x → x.count ≢ 0 → x.bytes ≢ 0 → IsBelow x.number found → LiesIn p x → Each (Follows x) xs → IsLast runs (Some a) (x ∷ xs)
    → NextIs p runs xs → (v : Bool) → lt_z x.place (end_of a) ≡ v → (w : Bool) → nat_lt a.number x.number ≡ w
    → Passed p runs found (Some a) (x ∷ xs) (fold place_step (if v then if w then at_state p (Some x.number) (Some a) else at_state p (Some (lower_of a.number found)) (Some x) else at_state p found (Some x)) xs).offender
sharing_step p runs found a x xs c nx yx b lies next l ih true e w ew =
    between_step p runs found a x xs c nx yx b lies (lt_from x.place (end_of a) e) next l ih w ew
sharing_step p runs found a x xs c nx yx b lies next l ih false e w ew =
    let f = ih found (Some x) (c, nx, yx, next) in
    let r = found_from p found (Some x) xs in
    let ge = ge_from x.place (end_of a) e in
    after_kept p runs found found (Some a) x xs r lies f f.upto
    (record { clear = λ ba bx na mx ya zx. ge }, each_weaker (Follows x) (Clear r a) (λ y k. record { clear = λ ba by na ny ya yy. let h = k.place in omega (arith, ints) }) xs next) f.is

kept_step : (p : Payload) (runs : List ListedRun) (found : Option ℕ) (last : Option ListedRun) (x : ListedRun) (xs : List ListedRun) → Contains runs x → x.count ≢ 0 → x.bytes ≢ 0 → IsBelow x.number found → LiesIn p x → Each (Follows x) xs → IsLast runs last (x ∷ xs)
    → NextIs p runs xs → Passed p runs found last (x ∷ xs) (fold place_step (bytes_step (at_state p found last) last x) xs).offender
kept_step p runs found None x xs c nx yx b lies next l ih =
    let f = ih found (Some x) (c, nx, yx, next) in
    after_kept p runs found found None x xs (found_from p found (Some x) xs) lies f f.upto (tt, each_always (ClearAt (found_from p found (Some x) xs) None) (λ y. tt) xs) f.is
kept_step p runs found (Some a) x xs c nx yx b lies next l ih =
    sharing_step p runs found a x xs c nx yx b lies next l ih (lt_z x.place (end_of a)) refl (nat_lt a.number x.number) refl

passed_step : (p : Payload) (runs : List ListedRun) (found : Option ℕ) (last : Option ListedRun) (x : ListedRun) (xs : List ListedRun) → Contains runs x → Each (Follows x) xs → IsLast runs last (x ∷ xs) → NextIs p runs xs
    → (t : Bool) → not (may_be_first found x) ≡ t → (u : Bool) → not (lies_in p x) ≡ u → (v : Bool) → (x.bytes == 0) ≡ v
    → Passed p runs found last (x ∷ xs) (fold place_step (if t then at_state p found last else if u then at_state p (Some x.number) last else if v then at_state p found last else bytes_step (at_state p found last) last x) xs).offender
passed_step p runs found last x xs c next l ih true et u eu v ev =
    let f = ih found last (rest_is runs last x xs l) in
    skipped p runs found found last x xs (found_from p found last xs) f f.upto (λ b n. not_judged found x et (f.upto x.number b) n) f.is
passed_step p runs found last x xs c next l ih false et true eu v ev =
    let j = judged_from found x et in
    let r = found_from p (Some x.number) last xs in
    after_found p runs found last x xs r j.1 (ih (Some x.number) last (rest_is runs last x xs l))
    (λ q. blamed_out_of_place p runs r x c q j.0 (λ h. let e = lies_to p x h in let g = not-true (lies_in p x) eu in absurd (cc)))
passed_step p runs found last x xs c next l ih false et false eu true ev =
    let f = ih found last (rest_is runs last x xs l) in
    let r = found_from p found last xs in
    let z = eqb-true x.bytes 0 ev in
    record {
      upto = f.upto;
      at = (clear_at_if r last x (λ b n y. y z), f.at);
      inside = (record { inside = λ b n. lies_from p x (not-false (lies_in p x) eu) }, f.inside);
      pairs = (each_always (Clear r x) (λ y. record { clear = λ bx by nx ny yx yy. absurd (yx z) }) xs, f.pairs);
      is = f.is;
    }
passed_step p runs found last x xs c next l ih false et false eu false ev =
    let j = judged_from found x et in
    kept_step p runs found last x xs c j.0 (eqb-false x.bytes 0 ev) j.1 (lies_from p x (not-false (lies_in p x) eu)) next l ih

passed : (p : Payload) (runs : List ListedRun) (found : Option ℕ) (last : Option ListedRun) (xs : List ListedRun) → Each (Contains runs) xs → Pairs Follows xs → IsLast runs last xs → Passed p runs found last xs (found_from p found last xs)
passed p runs found last [] c n l = record { upto = λ n b. b; at = tt; inside = tt; pairs = tt; is = inl refl }
passed p runs found last (x ∷ xs) c n l =
    passed_step p runs found last x xs c.0 n.0 l (λ f m k. passed p runs f m xs c.1 n.1 k) (not (may_be_first found x)) refl (not (lies_in p x)) refl (x.bytes == 0) refl

-- what is found in runs in taking order
pub by_place : (p : Payload) (runs : List ListedRun) (found : Option ℕ) (xs : List ListedRun) → Each (Contains runs) xs → Pairs Follows xs → Passed p runs found None xs (found_from p found None xs)
by_place p runs found xs c n = passed p runs found None xs c n tt
