-- The least composition time of samples.
use Rattle.std.proofs.Common.{◌≡◌, ◌∙◌, ◌+◌, ◌<◌, ◌+ℤ◌, ◌≤ℤ◌, ℕ, ℤ, suc, pos, Bool, true, false, cond, List, [], ◌∷◌, ap, arith, inl, inr, length, refl, subst, sym}
use Rattle.std.specs.Prelude.{int_lt}
use Rattle.std.specs.Int.{int_min}
use Rattle.std.specs.List.{fold}
use Rattle.std.proofs.Math.IntN.{+ℤ_idl}
use Rattle.std.proofs.lemmas.Int.{fold-int_min_bounds, fold-int_min_reached, ints}
use Rattle.std.proofs.lemmas.List.Elements.{All-cons}
use Rattle.mp4_traf.specs.CompositionTimes.{IsLeastOf, composition_times, least_of}
use Rattle.mp4_traf.specs.declared.rows.Row.{Row}

pub least_of_all : (zs : List ℤ) → 0 < length zs → IsLeastOf zs (least_of zs)
least_of_all [] h = absurd (omega (arith, h))
least_of_all (z ∷ zs) h =
    let bounds = fold-int_min_bounds z zs (fold int_min z zs) refl in
    record {
      among = elim (fold-int_min_reached z zs (fold int_min z zs) refl) [
        | inl first ↦ (0, omega arith, sym first)
        | inr later ↦ (suc later.0, omega (arith, later.1), later.2)
      ];
      least = All-cons (λ (y : ℤ). fold int_min z zs ≤ℤ y) z zs bounds.0 bounds.1;
    }

pub length_times : (time : ℕ) (rows : List Row) → length (composition_times time rows) ≡ length rows
unfolding composition_times
length_times time [] = refl
length_times time (row ∷ rows) = ap suc (length_times (time + row.duration) rows)

-- ---- samples that are decoded later are presented later

lesser_later : (t : ℕ) (x y : ℤ) → int_min (pos t +ℤ x) (pos t +ℤ y) ≡ pos t +ℤ int_min x y
lesser_later t x y = by (int_lt y x) (int_lt (pos t +ℤ y) (pos t +ℤ x)) refl refl
  where
    by : (first then : Bool) → int_lt y x ≡ first → int_lt (pos t +ℤ y) (pos t +ℤ x) ≡ then → cond then (pos t +ℤ y) (pos t +ℤ x) ≡ pos t +ℤ cond first y x
    by true true e f = refl
    by false false e f = refl
    by true false e f = absurd (omega (arith, ints, e, f))
    by false true e f = absurd (omega (arith, ints, e, f))

fold_later : (t e : ℕ) (z : ℤ) (rows : List Row) → fold int_min (pos t +ℤ z) (composition_times (t + e) rows) ≡ pos t +ℤ fold int_min z (composition_times e rows)
unfolding composition_times
fold_later t e z [] = refl
fold_later t e z (row ∷ rows) =
    let last : t + e + row.duration ≡ t + (e + row.duration) = omega arith in
    let next : pos (t + e) +ℤ row.offset ≡ pos t +ℤ (pos e +ℤ row.offset) = omega (arith, ints) in
    ap (λ y. fold int_min (int_min (pos t +ℤ z) y) (composition_times (t + e + row.duration) rows)) next
    ∙ (ap (λ y. fold int_min y (composition_times (t + e + row.duration) rows)) (lesser_later t z (pos e +ℤ row.offset))
    ∙ (ap (λ n. fold int_min (pos t +ℤ int_min z (pos e +ℤ row.offset)) (composition_times n rows)) last
    ∙ fold_later t (e + row.duration) (int_min z (pos e +ℤ row.offset)) rows))

-- the least is as much later
pub least_later : (t : ℕ) (rows : List Row) → 0 < length rows → least_of (composition_times t rows) ≡ pos t +ℤ least_of (composition_times 0 rows)
unfolding composition_times
least_later t [] h = absurd (omega (arith, h))
least_later t (row ∷ rows) h =
    let last : t + row.duration ≡ t + (0 + row.duration) = omega arith in
    let first : pos t +ℤ row.offset ≡ pos t +ℤ (pos 0 +ℤ row.offset) = ap (λ z. pos t +ℤ z) (sym (+ℤ_idl row.offset)) in
    ap (λ n. fold int_min (pos t +ℤ row.offset) (composition_times n rows)) last
    ∙ (ap (λ z. fold int_min z (composition_times (t + (0 + row.duration)) rows)) first
    ∙ fold_later t (0 + row.duration) (pos 0 +ℤ row.offset) rows)

pub least_from : (t : ℕ) (rows : List Row) → 0 < length rows → IsLeastOf (composition_times t rows) (pos t +ℤ least_of (composition_times 0 rows))
least_from t rows h =
    subst (IsLeastOf (composition_times t rows)) (least_later t rows h) (least_of_all (composition_times t rows) (omega (arith, h, length_times t rows)))
