-- What a pass over runs by track finds.
use Rattle.std.proofs.Common.{◌==◌, if◌then◌else◌, ◌≡◌, ◌≢◌, ◌<◌, ℕ, Bool, true, false, List, [], ◌∷◌, Option, Some, None, refl, arith}
use Rattle.std.specs.List.{Contains, fold}
use Rattle.std.proofs.lemmas.Int.{ints}
use Rattle.std.proofs.lemmas.Bool.{eqb-true, eqb-false}
use mathlib.Core.Logic.{◌⊎◌, inl, inr}
use Rattle.mp4_run_order.specs.declared.runs.ListedRun.{ListedRun}
use Rattle.mp4_run_order.specs.declared.runs.Payload.{Payload}
use Rattle.mp4_run_order.specs.declared.track_search.TrackSearch.{TrackSearch}
use Rattle.mp4_run_order.specs.Runs.{IsInTurn}
use Rattle.mp4_run_order.specs.Orders.{IsBeforeByTrack}
use Rattle.mp4_run_order.specs.Implementation.Searches.{overtakes_last, lower_of, track_step}
use Rattle.mp4_run_order.proofs.ListLemmas.{Each, Pairs, each_always, each_both, each_weaker}
use Rattle.mp4_run_order.proofs.RunLemmas.{turn_from, overtakes_from, not_in_turn}
use Rattle.mp4_run_order.proofs.BoundLemmas.{IsBelow, below_lower, lower_which}
use Rattle.mp4_run_order.proofs.BlameLemmas.{Blamed, blamed_early}

-- a search that found this, after this run
abbrev at_state : Option ℕ → Option ListedRun → TrackSearch
at_state found last = record { offender = found; last = last }

abbrev found_from : Option ℕ → Option ListedRun → List ListedRun → Option ℕ
found_from found last xs = (fold track_step (at_state found last) xs).offender

-- b is in turn after a, or isn't listed before what was found
pub record Turn (r : Option ℕ) (a b : ListedRun) : Type 0 where
  pub turn : IsBelow b.number r → b.count ≢ 0 → IsInTurn a b

abbrev TurnAt : Option ℕ → Option ListedRun → ListedRun → Type 0
TurnAt r None b = Unit {0}
TurnAt r (Some a) b = Turn r a b

-- the last run that was kept, before these
abbrev IsLast : List ListedRun → Option ListedRun → List ListedRun → Type 0
IsLast runs None xs = Unit {0}
IsLast runs (Some a) xs = Contains runs a × (a.count ≢ 0) × Each (IsBeforeByTrack a) xs

record Passed (p : Payload) (runs : List ListedRun) (found : Option ℕ) (last : Option ListedRun) (xs : List ListedRun) (r : Option ℕ) : Type 0 where
  pub upto : (n : ℕ) → IsBelow n r → IsBelow n found
  pub at : Each (TurnAt r last) xs
  pub pairs : Pairs (Turn r) xs
  pub is : (r ≡ found) ⊎ Blamed p runs r

rest_is : (runs : List ListedRun) (last : Option ListedRun) (x : ListedRun) (xs : List ListedRun) → IsLast runs last (x ∷ xs) → IsLast runs last xs
rest_is runs None x xs h = tt
rest_is runs (Some a) x xs h = (h.0, h.1, h.2.1)

turn_at_if : (r : Option ℕ) (last : Option ListedRun) (x : ListedRun) → (IsBelow x.number r → x.count ≢ 0 → ⊥) → TurnAt r last x
turn_at_if r None x f = tt
turn_at_if r (Some a) x f = record { turn = λ b ne. absurd (f b ne) }

-- a run that is late begins before the end of the last
blame_last : (p : Payload) (runs : List ListedRun) (last : Option ListedRun) (x : ListedRun) (xs : List ListedRun) (r : Option ℕ) → Contains runs x → x.count ≢ 0 → overtakes_last last x ≡ true → IsLast runs last (x ∷ xs) → r ≡ Some x.number → Blamed p runs r
blame_last p runs None x xs r c ne e l q = absurd (cc)
blame_last p runs (Some a) x xs r c ne e l q =
    let o = overtakes_from x a e in
    blamed_early p runs r a x l.0 c (l.2.0.number o.track) q ne (not_in_turn x a o)

turn_at_here : (r : Option ℕ) (last : Option ListedRun) (x : ListedRun) → overtakes_last last x ≡ false → TurnAt r last x
turn_at_here r None x e = tt
turn_at_here r (Some a) x e = record { turn = λ b ne. turn_from x a e }

-- what follows a run that is in turn after the last
turn_at_after : (runs : List ListedRun) (r : Option ℕ) (last : Option ListedRun) (x y : ListedRun) (xs : List ListedRun) → x.count ≢ 0 → overtakes_last last x ≡ false → IsLast runs last (x ∷ xs) → IsBeforeByTrack x y → Turn r x y → TurnAt r last y
turn_at_after runs r None x y xs ne e l b t = tt
turn_at_after runs r (Some a) x y xs ne e l b t = record {
  turn = λ below ney. record {
    in_turn = λ na same.
        let ax = l.2.0.track in
        let xy = b.track in
        let sx : a.track ≡ x.track = omega arith in
        let sy : x.track ≡ y.track = omega arith in
        let h = (turn_from x a e).in_turn na sx in
        let k = (t.turn below ney).in_turn ne sy in
        omega (arith, ints);
  };
}

passed_step : (p : Payload) (runs : List ListedRun) (found : Option ℕ) (last : Option ListedRun) (x : ListedRun) (xs : List ListedRun) → Contains runs x → Each (IsBeforeByTrack x) xs → IsLast runs last (x ∷ xs)
    → ((f : Option ℕ) (l : Option ListedRun) → IsLast runs l xs → Passed p runs f l xs (found_from f l xs))
    → (t : Bool) → (x.count == 0) ≡ t → (u : Bool) → overtakes_last last x ≡ u
    → Passed p runs found last (x ∷ xs) (fold track_step (if t then at_state found last else if u then at_state (Some (lower_of x.number found)) last else at_state found (Some x)) xs).offender
passed_step p runs found last x xs c next l ih true e u ev =
    let f = ih found last (rest_is runs last x xs l) in
    let r = found_from found last xs in
    let z = eqb-true x.count 0 e in
    record {
      upto = f.upto;
      at = (turn_at_if r last x (λ b ne. ne z), f.at);
      pairs = (each_always (Turn r x) (λ y. record { turn = λ b ne. record { in_turn = λ nx same. absurd (nx z) } }) xs, f.pairs);
      is = f.is;
    }
passed_step p runs found last x xs c next l ih false e true ev =
    let f = ih (Some (lower_of x.number found)) last (rest_is runs last x xs l) in
    let r = found_from (Some (lower_of x.number found)) last xs in
    let out : (n : ℕ) → IsBelow n r → (n < x.number) × IsBelow n found = λ n b. below_lower n x.number found (f.upto n b) in
    record {
      upto = λ n b. (out n b).1;
      at = (turn_at_if r last x (λ b ne. let h = (out x.number b).0 in absurd (omega arith)), f.at);
      pairs = (each_weaker (IsBeforeByTrack x) (Turn r x) (λ y k. record { turn = λ b ne. record { in_turn = λ nx same. let h = (out y.number b).0 in let g = k.number same in absurd (omega arith) } }) xs next, f.pairs);
      is = elim f.is [
        | inr h ↦ inr h
        | inl h ↦ elim (lower_which x.number found r h) [ inl q ↦ inr (blame_last p runs last x xs r c (eqb-false x.count 0 e) ev l q) | inr q ↦ inl q ]
      ];
    }
passed_step p runs found last x xs c next l ih false e false ev =
    let ne = eqb-false x.count 0 e in
    let f = ih found (Some x) (c, ne, next) in
    let r = found_from found (Some x) xs in
    record {
      upto = f.upto;
      at = (turn_at_here r last x ev, each_both (IsBeforeByTrack x) (Turn r x) (TurnAt r last) (λ y b t. turn_at_after runs r last x y xs ne ev l b t) xs next f.at);
      pairs = (f.at, f.pairs);
      is = f.is;
    }

passed : (p : Payload) (runs : List ListedRun) (found : Option ℕ) (last : Option ListedRun) (xs : List ListedRun) → Each (Contains runs) xs → Pairs IsBeforeByTrack xs → IsLast runs last xs → Passed p runs found last xs (found_from found last xs)
passed p runs found last [] c n l = record { upto = λ n b. b; at = tt; pairs = tt; is = inl refl }
passed p runs found last (x ∷ xs) c n l = passed_step p runs found last x xs c.0 n.0 l (λ f m k. passed p runs f m xs c.1 n.1 k) (x.count == 0) refl (overtakes_last last x) refl

-- the find by track: no run that is listed earlier is out of turn, and it may not lie where it does
pub record ByTrack (p : Payload) (runs sorted : List ListedRun) (r : Option ℕ) : Type 0 where
  pub turns : Pairs (Turn r) sorted
  pub is : (r ≡ None) ⊎ Blamed p runs r

pub by_track : (p : Payload) (runs sorted : List ListedRun) → Each (Contains runs) sorted → Pairs IsBeforeByTrack sorted → ByTrack p runs sorted (found_from None None sorted)
by_track p runs sorted c n = let f = passed p runs None None sorted c n tt in record { turns = f.pairs; is = f.is }
