-- What is found in rows, run after run.
use Rattle.std.proofs.Common.{◌≡◌, ◌∙◌, ◌+◌, ◌-◌, ◌*◌, ◌<◌, ◌^◌, ◌+ℤ◌, ◌≤ℤ◌, ℕ, zero, suc, ℤ, pos, Bool, true, false, cond, List, [], ◌∷◌, ◌++◌, map, Option, Some, None, refl, ap, arith, length, sym}
use Rattle.std.specs.Prelude.{◌==◌, int_lt, is_some}
use Rattle.std.specs.Int.{int_min}
use Rattle.std.specs.List.{AllByRecursion, fold, range_with_len, sum_by}
use Rattle.std.specs.Option.{unwrap_or}
use Rattle.std.proofs.Math.IntN.{+ℤ_idl}
use Rattle.std.proofs.lemmas.Bool.Decides.{nat_tests}
use Rattle.std.proofs.lemmas.Int.{ints}
use Rattle.std.proofs.lemmas.List.Sums.{sum_by-cons}
use Rattle.mp4_traf.specs.CompositionTimes.{composition_times}
use Rattle.mp4_traf.specs.Ranges.{IsSound}
use Rattle.mp4_traf.specs.Rows.{durations, group_at, offset_at, row_of, rows_of}
use Rattle.mp4_traf.specs.Runs.{TrackFragment, last_end, runs_of}
use Rattle.mp4_traf.specs.SyncSamples.{is_sync}
use Rattle.mp4_traf.specs.declared.rows.Row.{Row}
use Rattle.mp4_traf.specs.declared.run.Run.{Run}
use Rattle.mp4_traf.proofs.TrafTotalLemmas.{duration_is, few_samples}
use Rattle.mp4_grammar.specs.declared.presented.Presented.{Presented}
use Rattle.mp4_grammar.specs.Implementation.FoundRows.{earliest_from, lesser}
use Rattle.mp4_grammar.specs.Presented.{all_rows, earliest_in, once_if, presented_in, syncs_in}
use Rattle.mp4_grammar.proofs.RowLineLemmas.{count_rows, sum_rows}

pub none_of : {A : Type 0} (o : Option A) → is_some o ≡ false → o ≡ None
none_of None none = refl
none_of (Some x) none = absurd cc

pub earliest-append : (best : Option ℤ) (elapsed : ℕ) (xs ys : List Row) → earliest_from best elapsed (xs ++ ys) ≡ earliest_from (earliest_from best elapsed xs) (elapsed + durations xs) ys
unfolding earliest_from
earliest-append best elapsed [] ys = let same : elapsed ≡ elapsed + 0 = omega arith in ap (λ n. earliest_from best n ys) same
earliest-append best elapsed (x ∷ xs) ys =
    let first = Some (lesser best (pos elapsed +ℤ x.offset)) in
    let same : elapsed + x.duration + durations xs ≡ elapsed + durations (x ∷ xs) = omega (arith, sum_by-cons (λ (row : Row). row.duration) x xs) in
    earliest-append first (elapsed + x.duration) xs ys ∙ ap (λ n. earliest_from (earliest_from first (elapsed + x.duration) xs) n ys) same

earliest_of : (z : ℤ) (elapsed : ℕ) (rows : List Row) → earliest_from (Some z) elapsed rows ≡ Some (fold int_min z (composition_times elapsed rows))
unfolding earliest_from composition_times
earliest_of z elapsed [] = refl
earliest_of z elapsed (row ∷ rows) = earliest_of (int_min z (pos elapsed +ℤ row.offset)) (elapsed + row.duration) rows

-- what is found in all rows is the least composition time
pub earliest_is : (rows : List Row) → unwrap_or (earliest_from None 0 rows) (pos 0) ≡ earliest_in rows
unfolding earliest_from composition_times
earliest_is [] = refl
earliest_is (row ∷ rows) = ap (λ o. unwrap_or o (pos 0)) (earliest_of (pos 0 +ℤ row.offset) (0 + row.duration) rows)

pub found_is : (rows : List Row) (earliest : Option ℤ) (syncs : ℕ) → earliest ≡ earliest_from None 0 rows → syncs ≡ 0 + syncs_in rows → ◌≡◌ {A = Presented} (record { earliest = unwrap_or earliest (pos 0); syncs = syncs }) (presented_in rows)
found_is rows earliest syncs e s =
    let same : 0 + syncs_in rows ≡ syncs_in rows = omega arith in
    ap (λ (o : Option ℤ). record { earliest = unwrap_or o (pos 0); syncs = syncs }) e
    ∙ (ap (λ z. record { earliest = z; syncs = syncs }) (earliest_is rows) ∙ ap (λ n. record { earliest = earliest_in rows; syncs = n }) (s ∙ same))

-- those of a run and of all runs after it
pub all_first : (moof_bytes : List ℕ) (run : Run) (runs all : List Run) (rows : List Row) → all ≡ run ∷ runs → rows ≡ rows_of run moof_bytes → all_rows moof_bytes all ≡ rows ++ all_rows moof_bytes runs
all_first moof_bytes run runs all rows is same = ap (all_rows moof_bytes) is ∙ ap (λ (l : List Row). l ++ all_rows moof_bytes runs) (sym same)

-- ---- how long they last

last_within : (run : Run) (runs : List Run) → run.end < 2 ^ 64 → AllByRecursion (λ (run : Run). run.end < 2 ^ 64) runs → last_end run.end runs < 2 ^ 64
last_within run [] small all = small
last_within run (next ∷ runs) small all = last_within next runs all.0 all.1

lasts : (time : ℕ) (runs : List Run) → AllByRecursion (λ (run : Run). run.end < 2 ^ 64) runs → last_end time runs - time < 2 ^ 64
lasts time [] all = omega arith
lasts time (run ∷ runs) all = omega (arith, last_within run runs all.0 all.1)

-- the rows of a traf of a moof without a fault last less than 2^64 ticks, and are fewer than 2^32
pub rows_last : (t : TrackFragment) → IsSound t → durations (all_rows t.shared.moof.bytes (runs_of t)) < 2 ^ 64
rows_last t sound =
    omega (arith, lasts t.time (runs_of t) sound.ends, duration_is t, sum_rows (λ (row : Row). row.duration) t.shared.moof.bytes (runs_of t))

pub few_rows : (t : TrackFragment) → IsSound t → length (all_rows t.shared.moof.bytes (runs_of t)) < 2 ^ 32
few_rows t sound = omega (arith, few_samples t sound, count_rows t.shared.moof.bytes (runs_of t))

-- ---- a run whose rows have no flags of their own

others_are : (run : Run) (moof_bytes : List ℕ) (a n : ℕ) → run.fields.sample_flags ≡ None → sum_by (λ (row : Row). once_if (is_sync row.flags)) (map (row_of run moof_bytes) (range_with_len (suc a) n)) ≡ once_if (is_sync run.flags) * n
unfolding row_of
others_are run moof_bytes a zero none = omega arith
others_are run moof_bytes a (suc n) none =
    let row = row_of run moof_bytes (suc a) in
    let other : (suc a == 0) ≡ false = grind (arith, nat_tests) in
    let flags : row.flags ≡ run.flags = rw (none, other) refl in
    let next : suc a + 1 ≡ suc (suc a) = omega arith in
    omega (arith, sum_by-cons (λ (row : Row). once_if (is_sync row.flags)) row (map (row_of run moof_bytes) (range_with_len (suc a + 1) n)), ap (λ (f : ℕ). once_if (is_sync f)) flags, ap (λ (k : ℕ). sum_by (λ (row : Row). once_if (is_sync row.flags)) (map (row_of run moof_bytes) (range_with_len k n))) next, others_are run moof_bytes (suc a) n none)

-- they are counted by the first and by the others together
pub plain_syncs : (run : Run) (moof_bytes : List ℕ) (n : ℕ) → run.count ≡ suc n → run.fields.sample_flags ≡ None → syncs_in (rows_of run moof_bytes) ≡ once_if (is_sync (row_of run moof_bytes 0).flags) + once_if (is_sync run.flags) * n
plain_syncs run moof_bytes n count none =
    let all : run.count - 0 ≡ suc n = omega (arith, count) in
    let rest = map (row_of run moof_bytes) (range_with_len 1 n) in
    omega (arith, ap (λ (k : ℕ). syncs_in (map (row_of run moof_bytes) (range_with_len 0 k))) all, sum_by-cons (λ (row : Row). once_if (is_sync row.flags)) (row_of run moof_bytes 0) rest, others_are run moof_bytes 0 n none)

-- ---- a run whose rows have no composition time offsets

zero_least : (z : ℤ) → pos 0 ≤ℤ z → int_min (pos 0) z ≡ pos 0
zero_least z low = by (int_lt z (pos 0)) refl
  where
    by : (t : Bool) → int_lt z (pos 0) ≡ t → cond t z (pos 0) ≡ pos 0
    by true e = absurd (omega (arith, ints, low))
    by false e = refl

no_offset : (run : Run) (moof_bytes : List ℕ) (i : ℕ) → run.fields.sample_composition_time_offset ≡ None → (row_of run moof_bytes i).offset ≡ pos 0
unfolding row_of
no_offset run moof_bytes i none = ap (offset_at moof_bytes run.version (group_at run i)) none

none_sooner : (run : Run) (moof_bytes : List ℕ) (elapsed a n : ℕ) → run.fields.sample_composition_time_offset ≡ None → earliest_from (Some (pos 0)) elapsed (map (row_of run moof_bytes) (range_with_len a n)) ≡ Some (pos 0)
unfolding earliest_from
none_sooner run moof_bytes elapsed a zero none = refl
none_sooner run moof_bytes elapsed a (suc n) none =
    let row = row_of run moof_bytes a in
    let sooner : int_min (pos 0) (pos elapsed +ℤ row.offset) ≡ pos 0 = ap (λ z. int_min (pos 0) (pos elapsed +ℤ z)) (no_offset run moof_bytes a none) ∙ zero_least (pos elapsed +ℤ pos 0) (omega (arith, ints)) in
    ap (λ z. earliest_from (Some z) (elapsed + row.duration) (map (row_of run moof_bytes) (range_with_len (a + 1) n))) sooner ∙ none_sooner run moof_bytes (elapsed + row.duration) (a + 1) n none

-- the first is presented when it is decoded
pub plain_earliest : (run : Run) (moof_bytes : List ℕ) → run.fields.sample_composition_time_offset ≡ None → earliest_in (rows_of run moof_bytes) ≡ pos 0
unfolding earliest_from
plain_earliest run moof_bytes none = sym (earliest_is (map (row_of run moof_bytes) (range_with_len 0 (run.count - 0)))) ∙ by (run.count - 0)
  where
    by : (n : ℕ) → unwrap_or (earliest_from None 0 (map (row_of run moof_bytes) (range_with_len 0 n))) (pos 0) ≡ pos 0
    by zero = refl
    by (suc n) =
        let row = row_of run moof_bytes 0 in
        ap (λ z. unwrap_or (earliest_from (Some (pos 0 +ℤ z)) (0 + row.duration) (map (row_of run moof_bytes) (range_with_len 1 n))) (pos 0)) (no_offset run moof_bytes 0 none)
        ∙ ap (λ o. unwrap_or o (pos 0)) (none_sooner run moof_bytes (0 + row.duration) 1 n none)

-- ---- a run of one sample

pub one_presented : (run : Run) (moof_bytes : List ℕ) → run.count ≡ 1 → presented_in (rows_of run moof_bytes) ≡ record { earliest = (row_of run moof_bytes 0).offset; syncs = once_if (is_sync (row_of run moof_bytes 0).flags) }
unfolding composition_times
one_presented run moof_bytes one =
    let all : run.count - 0 ≡ 1 = omega (arith, one) in
    let same : 0 + once_if (is_sync (row_of run moof_bytes 0).flags) ≡ once_if (is_sync (row_of run moof_bytes 0).flags) = omega arith in
    ap (λ (k : ℕ). presented_in (map (row_of run moof_bytes) (range_with_len 0 k))) all
    ∙ (ap (λ z. record { earliest = z; syncs = 0 + once_if (is_sync (row_of run moof_bytes 0).flags) }) (+ℤ_idl (row_of run moof_bytes 0).offset)
    ∙ ap (λ n. record { earliest = (row_of run moof_bytes 0).offset; syncs = n }) same)
