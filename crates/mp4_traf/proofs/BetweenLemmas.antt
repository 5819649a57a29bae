-- The sizes and the durations of some rows of a run, added up by places.
use Rattle.std.proofs.Common.{◌≡◌, ℕ, zero, suc, ◌+◌, ◌*◌, ◌-◌, ◌<◌, ◌≤◌, List, map, drop, take, refl, ap, sym, ◌∙◌, arith, Option, Some, None}
use Rattle.std.specs.List.{range_with_len, sum_by}
use Rattle.std.proofs.lemmas.List.{take_all}
use Rattle.std.proofs.lemmas.List.FromFn.{take-map-range_with_len}
use Rattle.mp4_box.specs.Fields.{number_in}
use Rattle.mp4_traf.specs.declared.run.Run.{Run}
use Rattle.mp4_traf.specs.declared.rows.Row.{Row}
use Rattle.mp4_traf.specs.Rows.{durations, field_at, group_at, row_of, rows_of, sizes}
use Rattle.mp4_traf.specs.Implementation.Added.{field_numbers, numbers_from}
use Rattle.mp4_traf.proofs.RowLemmas.{by_place, length_rows_of, number_after, rows_dropped, same_sum}

rows_between : (run : Run) (moof_bytes : List ℕ) (first count : ℕ) → first + count ≤ run.count → take count (drop first (rows_of run moof_bytes)) ≡ map (row_of run moof_bytes) (range_with_len first count)
rows_between run moof_bytes first count h =
    ap (take count) (sym (rows_dropped run moof_bytes first (omega (arith, h))))
    ∙ take-map-range_with_len (row_of run moof_bytes) first (run.count - first) count (omega (arith, h))

-- numbers are as far after the bytes before them
numbers_after : (moof_bytes : List ℕ) (step g at n : ℕ) → numbers_from (drop g moof_bytes) step at n ≡ numbers_from moof_bytes step (g + at) n
unfolding numbers_from
numbers_after moof_bytes step g at zero = refl
numbers_after moof_bytes step g at (suc n) =
    ap (λ (k : ℕ). k + numbers_from (drop g moof_bytes) step (at + step) n) (number_after moof_bytes g at)
    ∙ ap (λ (k : ℕ). number_in moof_bytes (g + at) + k) (numbers_after moof_bytes step g (at + step) n ∙ ap (λ (k : ℕ). numbers_from moof_bytes step k n) (on g at step))
  where
    on : (g at step : ℕ) → g + (at + step) ≡ g + at + step
    on g at step = omega arith

at_places : (f : Row → ℕ) (run : Run) (moof_bytes : List ℕ) (at first n : ℕ) → ((j : ℕ) → f (row_of run moof_bytes j) ≡ number_in moof_bytes (group_at run j + at))
    → sum_by f (map (row_of run moof_bytes) (range_with_len first n)) ≡ numbers_from (drop (group_at run first) moof_bytes) run.fields.len at n
unfolding group_at
at_places f run moof_bytes at first n is =
    by_place f run moof_bytes at first n (run.samples_at + run.fields.len * first + at) is refl
    ∙ sym (numbers_after moof_bytes run.fields.len (run.samples_at + run.fields.len * first) at n)

-- a field of the rows between two, which is in their groups or has a default
field_between : (f : Row → ℕ) (run : Run) (moof_bytes groups : List ℕ) (o : Option ℕ) (default_value first n : ℕ) → groups ≡ drop (group_at run first) moof_bytes → first + n ≤ run.count → ((j : ℕ) → f (row_of run moof_bytes j) ≡ field_at moof_bytes (group_at run j) o default_value)
    → field_numbers groups o default_value run.fields.len n ≡ sum_by f (take n (drop first (rows_of run moof_bytes)))
field_between f run moof_bytes groups None default_value first n e h is = sym (same_sum f (row_of run moof_bytes) default_value first n is) ∙ ap (sum_by f) (sym (rows_between run moof_bytes first n h))
field_between f run moof_bytes groups (Some at) default_value first n e h is =
    ap (λ (bytes : List ℕ). numbers_from bytes run.fields.len at n) e
    ∙ sym (at_places f run moof_bytes at first n is)
    ∙ ap (sum_by f) (sym (rows_between run moof_bytes first n h))

pub sizes_between : (run : Run) (moof_bytes groups : List ℕ) (first n : ℕ) → groups ≡ drop (group_at run first) moof_bytes → first + n ≤ run.count → field_numbers groups run.fields.sample_size run.size run.fields.len n ≡ sizes (take n (drop first (rows_of run moof_bytes)))
unfolding row_of
sizes_between run moof_bytes groups first n e h = field_between (λ (r : Row). r.size) run moof_bytes groups run.fields.sample_size run.size first n e h (λ j. refl)

pub durations_between : (run : Run) (moof_bytes groups : List ℕ) (first n : ℕ) → groups ≡ drop (group_at run first) moof_bytes → first + n ≤ run.count → field_numbers groups run.fields.sample_duration run.duration run.fields.len n ≡ durations (take n (drop first (rows_of run moof_bytes)))
unfolding row_of
durations_between run moof_bytes groups first n e h = field_between (λ (r : Row). r.duration) run moof_bytes groups run.fields.sample_duration run.duration first n e h (λ j. refl)

-- the durations of rows that have none of their own, and of those that have
pub default_between : (run : Run) (moof_bytes : List ℕ) (first n : ℕ) → run.fields.sample_duration ≡ None → first + n ≤ run.count → durations (take n (drop first (rows_of run moof_bytes))) ≡ run.duration * n
default_between run moof_bytes first n none h =
    let groups : List ℕ = drop (group_at run first) moof_bytes in
    sym (durations_between run moof_bytes groups first n refl h) ∙ ap (λ (o : Option ℕ). field_numbers groups o run.duration run.fields.len n) none

pub own_between : (run : Run) (moof_bytes groups : List ℕ) (at first n : ℕ) → groups ≡ drop (group_at run first) moof_bytes → run.fields.sample_duration ≡ Some at → first + n ≤ run.count → durations (take n (drop first (rows_of run moof_bytes))) ≡ numbers_from groups run.fields.len at n
own_between run moof_bytes groups at first n e own h =
    sym (durations_between run moof_bytes groups first n e h) ∙ ap (λ (o : Option ℕ). field_numbers groups o run.duration run.fields.len n) own

-- ---- all rows of a run

pub all_rows : (run : Run) (moof_bytes : List ℕ) → take run.count (drop 0 (rows_of run moof_bytes)) ≡ rows_of run moof_bytes
all_rows run moof_bytes = let n = length_rows_of run moof_bytes in take_all run.count (rows_of run moof_bytes) (omega (arith, n))

pub duration : (run : Run) (moof_bytes groups : List ℕ) → groups ≡ drop (group_at run 0) moof_bytes → field_numbers groups run.fields.sample_duration run.duration run.fields.len run.count ≡ durations (rows_of run moof_bytes)
duration run moof_bytes groups e = durations_between run moof_bytes groups 0 run.count e (omega arith) ∙ ap durations (all_rows run moof_bytes)

-- ---- one group less

pub one_more : (a n : ℕ) → a * (n + 1) ≡ a * n + a
one_more a n = omega arith

pub one_less : (a n : ℕ) → 0 < n → a * n ≡ a + a * (n - 1)
one_less a zero some = absurd (omega (arith, some))
one_less a (suc n) some = let e : n ≡ suc n - 1 = omega arith in ap (λ (k : ℕ). a * suc k) e ∙ product a (suc n - 1)
  where
    product : (a n : ℕ) → a * suc n ≡ a + a * n
    product a n = omega arith
