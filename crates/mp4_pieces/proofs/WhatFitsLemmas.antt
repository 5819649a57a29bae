-- What fits in one piece, in words.
use Rattle.std.proofs.Common.{◌≡◌, ◌≤◌, ◌⊎◌, ℕ, Bool, true, false, List, [], ◌∷◌, length, drop, refl, arith, Option, Some, None, inl, inr}
use Rattle.std.specs.Prelude.{◌||◌, not, nat_le}
use Rattle.std.specs.List.{AllByRecursion, list_all}
use Rattle.std.proofs.lemmas.Bool.{false≢true, leb-true, le-leb}
use Rattle.mp4_traf.specs.declared.rows.Row.{Row}
use Rattle.mp4_traf.specs.Rows.{durations, sizes}
use Rattle.mp4_traf.specs.SyncSamples.{is_sync}
use Rattle.mp4_pieces.specs.declared.cut.Cut.{Cut}
use Rattle.mp4_pieces.specs.Fitting.{fits, fits_bytes, fits_keyframes, fits_sync, fits_ticks, no_start}
use Rattle.mp4_pieces.specs.Laws.{EachFollowsSync, MayBeOnePiece}
use Rattle.mp4_pieces.proofs.FitLemmas.{and_is, and_so}

not_is : (b : Bool) → not b ≡ true → b ≡ false
not_is true e = absurd cc
not_is false e = refl

is_not : (b : Bool) → b ≡ false → not b ≡ true
is_not true e = absurd cc
is_not false e = refl

pub or_either : (a b : Bool) → (a || b) ≡ true → (a ≡ true) ⊎ (b ≡ true)
or_either true b e = inl refl
or_either false b e = inr e

pub or_so : (a b : Bool) → (a ≡ true) ⊎ (b ≡ true) → (a || b) ≡ true
or_so true b e = refl
or_so false b (inl e) = absurd cc
or_so false b (inr e) = e

none_sync : (rows : List Row) → list_all (λ row. not (is_sync row.flags)) rows ≡ true → AllByRecursion (λ row. is_sync row.flags ≡ false) rows
none_sync [] e = tt
none_sync (row ∷ rows) e = let both = and_is (not (is_sync row.flags)) _ e in (not_is (is_sync row.flags) both.0, none_sync rows both.1)

sync_none : (rows : List Row) → AllByRecursion (λ row. is_sync row.flags ≡ false) rows → list_all (λ row. not (is_sync row.flags)) rows ≡ true
sync_none [] h = refl
sync_none (row ∷ rows) h = and_so (not (is_sync row.flags)) _ (is_not (is_sync row.flags) h.0) (sync_none rows h.1)

bytes_mean : (most : Option ℕ) (rows : List Row) → fits_bytes most rows ≡ true → (n : ℕ) → most ≡ Some n → (length rows ≤ 1) ⊎ (sizes rows ≤ n)
bytes_mean None rows e n is = absurd cc
bytes_mean (Some m) rows e n is = elim (or_either (nat_le (length rows) 1) (nat_le (sizes rows) m) e) [
  | inl one ↦ inl (leb-true (length rows) 1 one)
  | inr few ↦ let same : m ≡ n = cc in inr (omega (arith, leb-true (sizes rows) m few, same))
]

bytes_fit : (most : Option ℕ) (rows : List Row) → ((n : ℕ) → most ≡ Some n → (length rows ≤ 1) ⊎ (sizes rows ≤ n)) → fits_bytes most rows ≡ true
bytes_fit None rows h = refl
bytes_fit (Some m) rows h = elim (h m refl) [
  | inl one ↦ or_so (nat_le (length rows) 1) (nat_le (sizes rows) m) (inl (le-leb (length rows) 1 one))
  | inr few ↦ or_so (nat_le (length rows) 1) (nat_le (sizes rows) m) (inr (le-leb (sizes rows) m few))
]

ticks_mean : (most : Option ℕ) (rows : List Row) → fits_ticks most rows ≡ true → (n : ℕ) → most ≡ Some n → (length rows ≤ 1) ⊎ (durations rows ≤ n)
ticks_mean None rows e n is = absurd cc
ticks_mean (Some m) rows e n is = elim (or_either (nat_le (length rows) 1) (nat_le (durations rows) m) e) [
  | inl one ↦ inl (leb-true (length rows) 1 one)
  | inr few ↦ let same : m ≡ n = cc in inr (omega (arith, leb-true (durations rows) m few, same))
]

ticks_fit : (most : Option ℕ) (rows : List Row) → ((n : ℕ) → most ≡ Some n → (length rows ≤ 1) ⊎ (durations rows ≤ n)) → fits_ticks most rows ≡ true
ticks_fit None rows h = refl
ticks_fit (Some m) rows h = elim (h m refl) [
  | inl one ↦ or_so (nat_le (length rows) 1) (nat_le (durations rows) m) (inl (le-leb (length rows) 1 one))
  | inr few ↦ or_so (nat_le (length rows) 1) (nat_le (durations rows) m) (inr (le-leb (durations rows) m few))
]

sync_means : (asked : Bool) (rows : List Row) → fits_sync asked rows ≡ true → asked ≡ true → AllByRecursion (λ row. is_sync row.flags ≡ false) (drop 1 rows)
sync_means true rows e is = none_sync (drop 1 rows) e
sync_means false rows e is = absurd cc

sync_fits : (asked : Bool) (rows : List Row) → (asked ≡ true → AllByRecursion (λ row. is_sync row.flags ≡ false) (drop 1 rows)) → fits_sync asked rows ≡ true
sync_fits true rows h = sync_none (drop 1 rows) (h refl)
sync_fits false rows h = refl

follows : (a b : Bool) → (a || not b) ≡ true → b ≡ true → a ≡ true
follows true b e is = refl
follows false b e is = absurd cc

may_follow : (a b : Bool) → (b ≡ true → a ≡ true) → (a || not b) ≡ true
may_follow true b h = refl
may_follow false true h = absurd (false≢true (h refl))
may_follow false false h = refl

starts_mean : (row : Row) (rows : List Row) → no_start (is_sync row.flags) rows ≡ true → EachFollowsSync (row ∷ rows)
starts_mean a [] e = tt
starts_mean a (b ∷ rows) e =
    let both = and_is (is_sync a.flags || not (is_sync b.flags)) (no_start (is_sync b.flags) rows) e in
    (follows (is_sync a.flags) (is_sync b.flags) both.0, starts_mean b rows both.1)

starts_so : (row : Row) (rows : List Row) → EachFollowsSync (row ∷ rows) → no_start (is_sync row.flags) rows ≡ true
starts_so a [] h = refl
starts_so a (b ∷ rows) h = and_so (is_sync a.flags || not (is_sync b.flags)) (no_start (is_sync b.flags) rows) (may_follow (is_sync a.flags) (is_sync b.flags) h.0) (starts_so b rows h.1)

keyframes_mean : (asked : Bool) (rows : List Row) → fits_keyframes asked rows ≡ true → asked ≡ true → EachFollowsSync rows
keyframes_mean false rows e is = absurd cc
keyframes_mean true [] e is = tt
keyframes_mean true (row ∷ rows) e is = starts_mean row rows e

keyframes_fit : (asked : Bool) (rows : List Row) → (asked ≡ true → EachFollowsSync rows) → fits_keyframes asked rows ≡ true
keyframes_fit false rows h = refl
keyframes_fit true [] h = refl
keyframes_fit true (row ∷ rows) h = starts_so row rows (h refl)

pub fits_means : (cut : Cut) (rows : List Row) → fits cut rows ≡ true → MayBeOnePiece cut rows
fits_means cut rows e =
    let count = and_is (nat_le (length rows) cut.samples) _ e in
    let rest = and_is (fits_bytes cut.bytes rows) _ count.1 in
    let time = and_is (fits_ticks cut.ticks rows) _ rest.1 in
    let starts = and_is (fits_sync cut.sync rows) _ time.1 in
    record {
      samples = leb-true (length rows) cut.samples count.0;
      bytes = bytes_mean cut.bytes rows rest.0;
      ticks = ticks_mean cut.ticks rows time.0;
      sync = sync_means cut.sync rows starts.0;
      keyframes = keyframes_mean cut.keyframes rows starts.1;
    }

pub means_fits : (cut : Cut) (rows : List Row) → MayBeOnePiece cut rows → fits cut rows ≡ true
means_fits cut rows h = and_so (nat_le (length rows) cut.samples) _ (le-leb (length rows) cut.samples h.samples) (and_so (fits_bytes cut.bytes rows) _ (bytes_fit cut.bytes rows h.bytes) (and_so (fits_ticks cut.ticks rows) _ (ticks_fit cut.ticks rows h.ticks) (and_so (fits_sync cut.sync rows) _ (sync_fits cut.sync rows h.sync) (keyframes_fit cut.keyframes rows h.keyframes))))
