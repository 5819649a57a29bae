-- What the tests of one run mean.
use Rattle.std.proofs.Common.{◌==◌, ◌≡◌, ◌≢◌, ◌<◌, ℕ, ℤ, pos, ◌≤ℤ◌, ◌<ℤ◌, Bool, true, false, not, ◌&&◌, ◌||◌, nat_lt, List, [], ◌∷◌, Option, Some, None, refl, arith}
use Rattle.std.specs.List.{list_all}
use Rattle.std.specs.Option.{IfSome}
use Rattle.std.specs.Int.Signed.{le_z, lt_z}
use Rattle.std.proofs.lemmas.Int.{ints}
use Rattle.std.proofs.lemmas.Bool.{eqb-true, eqb-false, ne_eqb, eq-eqb, ltb-true, lt-ltb, and_parts, and_from, or_cases, or_left, or_right, not-true, false_from_ne_true, not_from_false}
use Rattle.std.proofs.lemmas.Bool.Decides.{nat_tests}
use mathlib.Core.Logic.{inl, inr}
use Rattle.mp4_run_order.specs.declared.runs.ListedRun.{ListedRun}
use Rattle.mp4_run_order.specs.declared.runs.Payload.{Payload}
use Rattle.mp4_run_order.specs.Runs.{end_of, HasByte, SharesNoByte, IsInTurn}
use Rattle.mp4_run_order.specs.Places.{LiesIn, MayBePlaced, ends_by, lies_in, shares, overtakes, may_be_placed}
use Rattle.mp4_run_order.proofs.ListLemmas.{Each, each_weaker, each_of_all, all_of_each}

-- ---- places as numbers

pub le_from : (a b : ℤ) → le_z a b ≡ true → a ≤ℤ b
le_from a b h = grind (arith, ints)

pub le_to : (a b : ℤ) → a ≤ℤ b → le_z a b ≡ true
le_to a b h = grind (arith, ints)

pub lt_from : (a b : ℤ) → lt_z a b ≡ true → a <ℤ b
lt_from a b h = grind (arith, ints)

pub lt_to : (a b : ℤ) → a <ℤ b → lt_z a b ≡ true
lt_to a b h = grind (arith, ints)

pub ge_from : (a b : ℤ) → lt_z a b ≡ false → b ≤ℤ a
ge_from a b h = grind (arith, ints)

-- ---- in the payload

ends_from : (end : Option ℕ) (run : ListedRun) → ends_by end run ≡ true → IfSome end (λ e. end_of run ≤ℤ pos e)
ends_from None run h = tt
ends_from (Some e) run h = le_from (end_of run) (pos e) h

ends_to : (end : Option ℕ) (run : ListedRun) → IfSome end (λ e. end_of run ≤ℤ pos e) → ends_by end run ≡ true
ends_to None run h = refl
ends_to (Some e) run h = le_to (end_of run) (pos e) h

pub lies_from : (p : Payload) (run : ListedRun) → lies_in p run ≡ true → LiesIn p run
lies_from p run h = let r = and_parts (le_z (pos p.start) run.place) (ends_by p.end run) h in record { from = le_from (pos p.start) run.place r.0; to = ends_from p.end run r.1 }

pub lies_to : (p : Payload) (run : ListedRun) → LiesIn p run → lies_in p run ≡ true
lies_to p run h = and_from (le_z (pos p.start) run.place) (ends_by p.end run) (le_to (pos p.start) run.place h.from) (ends_to p.end run h.to)

-- ---- in turn

pub some_from : (n : ℕ) → not (n == 0) ≡ true → n ≢ 0
some_from n h z = absurd (grind (arith, nat_tests))

some_to : (n : ℕ) → n ≢ 0 → not (n == 0) ≡ true
some_to n h = not_from_false (n == 0) (ne_eqb n 0 h)

turn_from_step : (run a : ListedRun) → (t : Bool) → lt_z run.place (end_of a) ≡ t → overtakes run a ≡ false → IsInTurn a run
turn_from_step run a true e h = record {
  in_turn = λ ne same.
      let z : overtakes run a ≡ true = and_from (not (a.count == 0)) (a.track == run.track && lt_z run.place (end_of a)) (some_to a.count ne)
      (and_from (a.track == run.track) (lt_z run.place (end_of a)) (eq-eqb a.track run.track same) e) in
      absurd (cc);
}
turn_from_step run a false e h = record { in_turn = λ ne same. ge_from run.place (end_of a) e }

pub turn_from : (run a : ListedRun) → overtakes run a ≡ false → IsInTurn a run
turn_from run a h = turn_from_step run a (lt_z run.place (end_of a)) refl h

-- what a run that comes too early begins before
pub record Overtakes (run a : ListedRun) : Type 0 where
  pub samples : a.count ≢ 0
  pub track : a.track ≡ run.track
  pub early : run.place <ℤ end_of a

pub overtakes_from : (run a : ListedRun) → overtakes run a ≡ true → Overtakes run a
overtakes_from run a h =
    let r = and_parts (not (a.count == 0)) (a.track == run.track && lt_z run.place (end_of a)) h in
    let s = and_parts (a.track == run.track) (lt_z run.place (end_of a)) r.1 in
    record { samples = some_from a.count r.0; track = eqb-true a.track run.track s.0; early = lt_from run.place (end_of a) s.1 }

pub not_in_turn : (run a : ListedRun) → Overtakes run a → IsInTurn a run → ⊥
not_in_turn run a o h = let g = h.in_turn o.samples o.track in let k = o.early in absurd (omega (arith, ints))

turn_to : (run a : ListedRun) → IsInTurn a run → overtakes run a ≡ false
turn_to run a h = false_from_ne_true (overtakes run a) (λ e. not_in_turn run a (overtakes_from run a e) h)

-- ---- bytes

bytes_if_byte : (run : ListedRun) (x : ℤ) → HasByte run x → run.bytes ≢ 0
bytes_if_byte run x h e = let f = h.from in let g = h.to in absurd (omega (arith, ints))

pub apart_if : (a b : ListedRun) → (a.count ≢ 0 → b.count ≢ 0 → a.bytes ≢ 0 → b.bytes ≢ 0 → end_of a ≤ℤ b.place) → SharesNoByte a b
apart_if a b h = record {
  no_byte = λ x i j.
      let e = h i.samples j.samples (bytes_if_byte a x i) (bytes_if_byte b x j) in
      let f = i.to in let g = j.from in
      absurd (omega (arith, ints));
}

pub apart_flip : (a b : ListedRun) → SharesNoByte a b → SharesNoByte b a
apart_flip a b h = record { no_byte = λ x i j. h.no_byte x j i }

apart_from : (a b : ListedRun) → shares a b ≡ false → SharesNoByte a b
apart_from a b h = record {
  no_byte = λ x i j.
      let m = bytes_if_byte a x i in
      let n = bytes_if_byte b x j in
      let i0 = i.from in let i1 = i.to in let j0 = j.from in let j1 = j.to in
      let z : shares a b ≡ true = and_from (not (a.count == 0)) (not (a.bytes == 0) && (not (b.bytes == 0) && (lt_z a.place (end_of b) && lt_z b.place (end_of a)))) (some_to a.count i.samples)
      (and_from (not (a.bytes == 0)) (not (b.bytes == 0) && (lt_z a.place (end_of b) && lt_z b.place (end_of a))) (some_to a.bytes m)
      (and_from (not (b.bytes == 0)) (lt_z a.place (end_of b) && lt_z b.place (end_of a)) (some_to b.bytes n)
      (and_from (lt_z a.place (end_of b)) (lt_z b.place (end_of a)) (lt_to a.place (end_of b) (omega (arith, ints))) (lt_to b.place (end_of a) (omega (arith, ints)))))) in
      absurd (cc);
}

-- of two runs that overlap, the place of the one that begins later is a byte of both
pub both_have : (a b : ListedRun) → a.count ≢ 0 → b.count ≢ 0 → b.bytes ≢ 0 → a.place ≤ℤ b.place → b.place <ℤ end_of a → SharesNoByte a b → ⊥
both_have a b m n o h g s = s.no_byte b.place (record { samples = m; from = h; to = g }) (record { samples = n; from = omega (arith, ints); to = omega (arith, ints) })

apart_to_step : (a b : ListedRun) → SharesNoByte a b → a.count ≢ 0 → b.count ≢ 0 → a.bytes ≢ 0 → b.bytes ≢ 0 → a.place <ℤ end_of b → b.place <ℤ end_of a → (t : Bool) → le_z a.place b.place ≡ t → ⊥
apart_to_step a b s m n x y h k true e = both_have a b m n y (le_from a.place b.place e) k s
apart_to_step a b s m n x y h k false e = both_have b a n m x (let g : b.place <ℤ a.place = grind (arith, ints) in omega (arith, ints)) h (apart_flip a b s)

apart_to : (a b : ListedRun) → b.count ≢ 0 → SharesNoByte a b → shares a b ≡ false
apart_to a b nb s = false_from_ne_true (shares a b) (λ e.
    let r = and_parts (not (a.count == 0)) (not (a.bytes == 0) && (not (b.bytes == 0) && (lt_z a.place (end_of b) && lt_z b.place (end_of a)))) e in
    let q = and_parts (not (a.bytes == 0)) (not (b.bytes == 0) && (lt_z a.place (end_of b) && lt_z b.place (end_of a))) r.1 in
    let w = and_parts (not (b.bytes == 0)) (lt_z a.place (end_of b) && lt_z b.place (end_of a)) q.1 in
    let v = and_parts (lt_z a.place (end_of b)) (lt_z b.place (end_of a)) w.1 in
    apart_to_step a b s (some_from a.count r.0) nb (some_from a.bytes q.0) (some_from b.bytes w.0) (lt_from a.place (end_of b) v.0) (lt_from b.place (end_of a) v.1) (le_z a.place b.place) refl)

-- ---- the test of a run among others

-- a is no reason why the run may not be there
abbrev no_reason : ListedRun → ListedRun → Bool
no_reason run a = not (nat_lt a.number run.number && (shares a run || overtakes run a))

record NoConflict (run a : ListedRun) : Type 0 where
  pub apart : a.number < run.number → SharesNoByte a run
  pub in_turn : a.number < run.number → IsInTurn a run

or_false : (a b : Bool) → (a || b) ≡ false → (a ≡ false) × (b ≡ false)
or_false false b e = (refl, e)
or_false true b e = absurd (cc)

and_false : (a b : Bool) → a ≡ true → (a && b) ≡ false → b ≡ false
and_false true b h e = e
and_false false b h e = absurd (cc)

no_conflict_from : (run a : ListedRun) → no_reason run a ≡ true → NoConflict run a
no_conflict_from run a h =
    let n = not-true (nat_lt a.number run.number && (shares a run || overtakes run a)) h in
    let both : a.number < run.number → (shares a run ≡ false) × (overtakes run a ≡ false) = λ lt. or_false (shares a run) (overtakes run a) (and_false (nat_lt a.number run.number) (shares a run || overtakes run a) (lt-ltb a.number run.number lt) n) in
    record { apart = λ lt. apart_from a run (both lt).0; in_turn = λ lt. turn_from run a (both lt).1 }

no_conflict_to : (run a : ListedRun) → run.count ≢ 0 → NoConflict run a → no_reason run a ≡ true
no_conflict_to run a ne h =
    not_from_false (nat_lt a.number run.number && (shares a run || overtakes run a)) (false_from_ne_true (nat_lt a.number run.number && (shares a run || overtakes run a)) (λ e.
    let r = and_parts (nat_lt a.number run.number) (shares a run || overtakes run a) e in
    let lt = ltb-true a.number run.number r.0 in
    elim (or_cases (shares a run) (overtakes run a) r.1) [
      | inl q ↦ let s = apart_to a run ne (h.apart lt) in absurd (cc)
      | inr q ↦ let s = turn_to run a (h.in_turn lt) in absurd (cc)
    ]))

pub each_from_all : {X : Type 0} (f : X → Bool) (xs : List X) → list_all f xs ≡ true → Each (λ x. f x ≡ true) xs
each_from_all f [] h = tt
each_from_all f (x ∷ xs) h = let r = and_parts (f x) (list_all f xs) h in (r.0, each_from_all f xs r.1)

each_to_all : {X : Type 0} (f : X → Bool) (xs : List X) → Each (λ x. f x ≡ true) xs → list_all f xs ≡ true
each_to_all f [] h = refl
each_to_all f (x ∷ xs) h = and_from (f x) (list_all f xs) h.0 (each_to_all f xs h.1)

placed_to_step : (p : Payload) (runs : List ListedRun) (run : ListedRun) → MayBePlaced p runs run → (t : Bool) → (run.count == 0) ≡ t → may_be_placed p runs run ≡ true
placed_to_step p runs run h true e = or_left (run.count == 0) (lies_in p run && list_all (no_reason run) runs) e
placed_to_step p runs run h false e =
    let ne = eqb-false run.count 0 e in
    let s = h ne in
    let each = each_of_all (NoConflict run) runs (λ k d lt. record { apart = s.apart k d lt; in_turn = s.in_turn k d lt }) in
    or_right (run.count == 0) (lies_in p run && list_all (no_reason run) runs)
    (and_from (lies_in p run) (list_all (no_reason run) runs) (lies_to p run s.lies) (each_to_all (no_reason run) runs (each_weaker (NoConflict run) (λ a. no_reason run a ≡ true) (λ a b. no_conflict_to run a ne b) runs each)))

pub placed_to : (p : Payload) (runs : List ListedRun) (run : ListedRun) → MayBePlaced p runs run → may_be_placed p runs run ≡ true
placed_to p runs run h = placed_to_step p runs run h (run.count == 0) refl

pub placed_from : (p : Payload) (runs : List ListedRun) (run : ListedRun) → may_be_placed p runs run ≡ true → MayBePlaced p runs run
placed_from p runs run h ne = elim (or_cases (run.count == 0) (lies_in p run && list_all (no_reason run) runs) h) [
  | inl e ↦ absurd (ne (eqb-true run.count 0 e))
  | inr e ↦
      let r = and_parts (lies_in p run) (list_all (no_reason run) runs) e in
      let each = each_weaker (λ a. no_reason run a ≡ true) (NoConflict run) (λ a b. no_conflict_from run a b) runs (each_from_all (no_reason run) runs r.1) in
      record {
        lies = lies_from p run r.0;
        apart = all_of_each (λ a. a.number < run.number → SharesNoByte a run) runs (each_weaker (NoConflict run) (λ a. a.number < run.number → SharesNoByte a run) (λ a b. b.apart) runs each);
        in_turn = all_of_each (λ a. a.number < run.number → IsInTurn a run) runs (each_weaker (NoConflict run) (λ a. a.number < run.number → IsInTurn a run) (λ a b. b.in_turn) runs each);
      }
]
