-- What fits in a piece is a limit: one sample fits, and each beginning of what fits.
use Rattle.std.proofs.Common.{◌≡◌, ℕ, Bool, true, false, List, [], ◌∷◌, ◌++◌, length, refl, sym, ◌∙◌, arith, Option, Some, None}
use Rattle.std.specs.Prelude.{◌&&◌, ◌||◌, not, nat_le}
use Rattle.std.specs.List.{list_all}
use Rattle.std.proofs.lemmas.Bool.{leb-true, le-leb}
use Rattle.std.proofs.lemmas.List.{length-append}
use Rattle.std.proofs.lemmas.List.Folds.{list_all-append}
use Rattle.std.proofs.lemmas.List.Sums.{sum_by-append}
use Rattle.mp4_traf.specs.declared.rows.Row.{Row}
use Rattle.mp4_traf.specs.Rows.{durations, sizes}
use Rattle.mp4_pieces.specs.declared.cut.Cut.{Cut}
use Rattle.mp4_pieces.specs.Cutting.{IsLimit}
use Rattle.mp4_traf.specs.SyncSamples.{is_sync}
use Rattle.mp4_pieces.specs.Fitting.{fits, fits_bytes, fits_keyframes, fits_sync, fits_ticks, no_start}

-- ---- tests

pub and_is : (a b : Bool) → (a && b) ≡ true → (a ≡ true) × (b ≡ true)
and_is true b e = (refl, e)
and_is false b e = absurd cc

pub and_so : (a b : Bool) → a ≡ true → b ≡ true → (a && b) ≡ true
and_so true b p q = q
and_so false b p q = absurd cc

or_left : (a b : Bool) → a ≡ true → (a || b) ≡ true
or_left true b p = refl
or_left false b p = absurd cc

or_right : (a b : Bool) → b ≡ true → (a || b) ≡ true
or_right true b p = refl
or_right false b p = p

by_or : (a b c d : Bool) → (a ≡ true → c ≡ true) → (b ≡ true → d ≡ true) → (a || b) ≡ true → (c || d) ≡ true
by_or true b c d p q e = or_left c d (p refl)
by_or false b c d p q e = or_right c d (q e)

-- ---- the bytes

one_bytes : (most : Option ℕ) (x : Row) → fits_bytes most (x ∷ []) ≡ true
one_bytes None x = refl
one_bytes (Some m) x = refl

front_bytes : (most : Option ℕ) (xs ys : List Row) → fits_bytes most (xs ++ ys) ≡ true → fits_bytes most xs ≡ true
front_bytes None xs ys e = refl
front_bytes (Some m) xs ys e =
    by_or (nat_le (length (xs ++ ys)) 1) (nat_le (sizes (xs ++ ys)) m) (nat_le (length xs) 1) (nat_le (sizes xs) m)
    (λ (one : nat_le (length (xs ++ ys)) 1 ≡ true). le-leb (length xs) 1 (omega (arith, leb-true (length (xs ++ ys)) 1 one, length-append xs ys)))
    (λ (few : nat_le (sizes (xs ++ ys)) m ≡ true). le-leb (sizes xs) m (omega (arith, leb-true (sizes (xs ++ ys)) m few, sum_by-append (λ (r : Row). r.size) xs ys)))
    e

-- ---- the ticks

one_ticks : (most : Option ℕ) (x : Row) → fits_ticks most (x ∷ []) ≡ true
one_ticks None x = refl
one_ticks (Some m) x = refl

front_ticks : (most : Option ℕ) (xs ys : List Row) → fits_ticks most (xs ++ ys) ≡ true → fits_ticks most xs ≡ true
front_ticks None xs ys e = refl
front_ticks (Some m) xs ys e =
    by_or (nat_le (length (xs ++ ys)) 1) (nat_le (durations (xs ++ ys)) m) (nat_le (length xs) 1) (nat_le (durations xs) m)
    (λ (one : nat_le (length (xs ++ ys)) 1 ≡ true). le-leb (length xs) 1 (omega (arith, leb-true (length (xs ++ ys)) 1 one, length-append xs ys)))
    (λ (few : nat_le (durations (xs ++ ys)) m ≡ true). le-leb (durations xs) m (omega (arith, leb-true (durations (xs ++ ys)) m few, sum_by-append (λ (r : Row). r.duration) xs ys)))
    e

-- ---- the sync samples

one_sync : (asked : Bool) (x : Row) → fits_sync asked (x ∷ []) ≡ true
one_sync true x = refl
one_sync false x = refl

front_sync : (asked : Bool) (x : Row) (xs ys : List Row) → fits_sync asked (x ∷ (xs ++ ys)) ≡ true → fits_sync asked (x ∷ xs) ≡ true
front_sync false x xs ys e = refl
front_sync true x xs ys e =
    (and_is (list_all (λ (row : Row). not (is_sync row.flags)) xs) (list_all (λ (row : Row). not (is_sync row.flags)) ys) (sym (list_all-append (λ (row : Row). not (is_sync row.flags)) xs ys) ∙ e)).0

one_keyframes : (asked : Bool) (x : Row) → fits_keyframes asked (x ∷ []) ≡ true
one_keyframes true x = refl
one_keyframes false x = refl

front_start : (last : Bool) (xs ys : List Row) → no_start last (xs ++ ys) ≡ true → no_start last xs ≡ true
front_start last [] ys e = refl
front_start last (x ∷ xs) ys e =
    let both = and_is (last || not (is_sync x.flags)) (no_start (is_sync x.flags) (xs ++ ys)) e in
    and_so (last || not (is_sync x.flags)) (no_start (is_sync x.flags) xs) both.0 (front_start (is_sync x.flags) xs ys both.1)

front_keyframes : (asked : Bool) (xs ys : List Row) → fits_keyframes asked (xs ++ ys) ≡ true → fits_keyframes asked xs ≡ true
front_keyframes false xs ys e = refl
front_keyframes true xs ys e = front_start true xs ys e

-- ---- all

pub is_limit : (cut : Cut) → IsLimit (fits cut)
is_limit cut = record {
  one = λ x. and_so (nat_le 1 cut.samples) _ (le-leb 1 cut.samples (omega (arith, cut.some))) (and_so _ _ (one_bytes cut.bytes x) (and_so _ _ (one_ticks cut.ticks x) (and_so _ _ (one_sync cut.sync x) (one_keyframes cut.keyframes x))));
  front = λ x xs ys e.
      let count = and_is (nat_le (length (x ∷ (xs ++ ys))) cut.samples) _ e in
      let rest = and_is (fits_bytes cut.bytes (x ∷ (xs ++ ys))) _ count.1 in
      let time = and_is (fits_ticks cut.ticks (x ∷ (xs ++ ys))) _ rest.1 in
      let starts = and_is (fits_sync cut.sync (x ∷ (xs ++ ys))) _ time.1 in
      let few : nat_le (length (x ∷ xs)) cut.samples ≡ true = le-leb (length (x ∷ xs)) cut.samples (omega (arith, leb-true (length (x ∷ (xs ++ ys))) cut.samples count.0, length-append xs ys)) in
      and_so (nat_le (length (x ∷ xs)) cut.samples) _ few (and_so _ _ (front_bytes cut.bytes (x ∷ xs) ys rest.0) (and_so _ _ (front_ticks cut.ticks (x ∷ xs) ys time.0) (and_so _ _ (front_sync cut.sync x xs ys starts.0) (front_keyframes cut.keyframes (x ∷ xs) ys starts.1))));
}
