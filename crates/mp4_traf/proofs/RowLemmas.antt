-- What is left of a run's rows.
use Rattle.std.proofs.Common.{◌*◌, take, ◌≡◌, ℕ, zero, suc, ◌+◌, ◌-◌, ◌<◌, ◌≤◌, true, List, ◌∷◌, map, drop, length, refl, ap, sym, ◌∙◌, arith, Option, Some, None, inl, inr}
use Rattle.std.specs.Option.{is_none}
use Rattle.std.specs.List.{range_with_len, sum_by}
use Rattle.std.specs.Prelude.{nat_lt}
use Rattle.std.proofs.lemmas.Bool.{cases_lt, lt-ltb, le-ltb}
use Rattle.std.proofs.lemmas.List.{drop-drop, length-drop}
use Rattle.byteorder.specs.Endian.{big_number}
use Rattle.mp4_box.specs.Fields.{number_in}
use Rattle.std.proofs.lemmas.Int.{ints}
use Rattle.std.proofs.lemmas.List.FromFn.{length-map-range_with_len, get_or-map-range_with_len}
use Rattle.std.proofs.lemmas.List.Sums.{sum_by_more, sum_by-cons}
use Rattle.mp4_traf.specs.declared.run.Run.{Run}
use Rattle.mp4_traf.specs.declared.rows.Row.{Row}
use Rattle.mp4_traf.specs.declared.rows.Cursor.{Cursor}
use Rattle.mp4_traf.specs.Implementation.Added.{numbers_from}
use Rattle.mp4_traf.specs.Rows.{field_at, group_at, offset_at, offset_by, row_from, row_of, default_flags_of, rows_of, rows_after, durations, IsCursor}
use Rattle.mp4_traf.specs.Cursors.{first_cursor, past}

-- the first of the rows that are left
pub rows_next : (run : Run) (moof_bytes : List ℕ) (i : ℕ) → i < run.count → rows_after run moof_bytes i ≡ row_of run moof_bytes i ∷ rows_after run moof_bytes (i + 1)
rows_next run moof_bytes i h =
    let e : run.count - i ≡ suc (run.count - (i + 1)) = omega arith in
    ap (λ n. map (row_of run moof_bytes) (range_with_len i n)) e

-- all but the first k of a list by index
drop_range : {X : Type 0} (f : ℕ → X) (k a n : ℕ) → k ≤ n → drop k (map f (range_with_len a n)) ≡ map f (range_with_len (a + k) (n - k))
drop_range f zero a n h = grind (arith)
drop_range f (suc k) a zero h = absurd (omega arith)
drop_range f (suc k) a (suc n) h =
    let e : a + 1 + k ≡ a + suc k = omega arith in
    let d : n - k ≡ suc n - suc k = omega arith in
    drop_range f k (a + 1) n (omega arith)
    ∙ ap (λ b. map f (range_with_len b (n - k))) e
    ∙ ap (λ m. map f (range_with_len (a + suc k) m)) d

-- the rows from row i on are all but the first i
pub rows_dropped : (run : Run) (moof_bytes : List ℕ) (i : ℕ) → i ≤ run.count → rows_after run moof_bytes i ≡ drop i (rows_of run moof_bytes)
rows_dropped run moof_bytes i h =
    let e : 0 + i ≡ i = omega arith in
    let d : run.count - 0 - i ≡ run.count - i = omega arith in
    sym (drop_range (row_of run moof_bytes) i 0 (run.count - 0) (omega arith)
    ∙ ap (λ b. map (row_of run moof_bytes) (range_with_len b (run.count - 0 - i))) e
    ∙ ap (λ m. map (row_of run moof_bytes) (range_with_len i m)) d)

-- how many there are
pub length_rows_of : (run : Run) (moof_bytes : List ℕ) → length (rows_of run moof_bytes) ≡ run.count
length_rows_of run moof_bytes = length-map-range_with_len (row_of run moof_bytes) 0 (run.count - 0) ∙ omega arith

-- ---- sums without a walk

pub same_sum : {X : Type 0} (f : X → ℕ) (g : ℕ → X) (v a n : ℕ) → ((i : ℕ) → f (g i) ≡ v) → sum_by f (map g (range_with_len a n)) ≡ v * n
same_sum f g v a zero same = omega arith
same_sum f g v a (suc n) same =
    let e = sum_by-cons f (g a) (map g (range_with_len (a + 1) n)) in
    let s = same a in
    let r = same_sum f g v (a + 1) n same in
    e ∙ omega (arith, s, r)

none_there : (o : Option ℕ) → is_none o ≡ true → o ≡ None
none_there None e = refl
none_there (Some at) e = absurd cc

pub durations_by_product : (run : Run) (moof_bytes : List ℕ) → is_none run.fields.sample_duration ≡ true → durations (rows_of run moof_bytes) ≡ run.duration * run.count
unfolding row_of
durations_by_product run moof_bytes e =
    same_sum (λ (r : Row). r.duration) (row_of run moof_bytes) run.duration 0 (run.count - 0) (λ i. rw (none_there run.fields.sample_duration e) refl) ∙ ap (λ (n : ℕ). run.duration * n) (omega (arith))

-- ---- cursors

sum_more : (f : Row → ℕ) (run : Run) (moof_bytes : List ℕ) (i : ℕ) → i < run.count → sum_by f (take (i + 1) (rows_of run moof_bytes)) ≡ sum_by f (take i (rows_of run moof_bytes)) + f (row_of run moof_bytes i)
sum_more f run moof_bytes i h =
    let n : length (rows_of run moof_bytes) ≡ run.count = length_rows_of run moof_bytes in
    sum_by_more f (rows_of run moof_bytes) i (row_of run moof_bytes i) (omega arith)
    ∙ ap (λ r. sum_by f (take i (rows_of run moof_bytes)) + f r) (get_or-map-range_with_len (row_of run moof_bytes) 0 (run.count - 0) i i (row_of run moof_bytes i) (omega arith) (omega arith))

-- a cursor goes on by one row
pub cursor_past : (run : Run) (moof_bytes : List ℕ) (c : Cursor) → IsCursor run moof_bytes c → c.row < run.count → IsCursor run moof_bytes (past c (row_of run moof_bytes c.row))
cursor_past run moof_bytes c is h =
    let d = sum_more (λ r. r.duration) run moof_bytes c.row h in
    let s = sum_more (λ r. r.size) run moof_bytes c.row h in
    record { row = omega arith; time = omega arith; place = omega (arith, ints) }

pub cursor_first : (run : Run) (moof_bytes : List ℕ) → IsCursor run moof_bytes (first_cursor run)
cursor_first run moof_bytes = record { row = omega arith; time = omega arith; place = omega (arith, ints) }

-- ---- the bytes from a group on

same_test : (n g k : ℕ) → 0 < k → nat_lt (n - g) k ≡ nat_lt n (g + k)
same_test n g k some = elim (cases_lt n (g + k)) [
  | inl less ↦ lt-ltb (n - g) k (omega (arith, less, some)) ∙ sym (lt-ltb n (g + k) less)
  | inr more ↦ le-ltb (n - g) k (omega (arith, more)) ∙ sym (le-ltb n (g + k) more)
]

-- a number in them is as far after the group
pub number_after : (moof_bytes : List ℕ) (g at : ℕ) → number_in (drop g moof_bytes) at ≡ number_in moof_bytes (g + at)
number_after moof_bytes g at =
    let short : nat_lt (length (drop g moof_bytes)) (at + 4) ≡ nat_lt (length moof_bytes) (g + at + 4) =
    ap (λ n. nat_lt n (at + 4)) (length-drop g moof_bytes) ∙ same_test (length moof_bytes) g (at + 4) (omega arith) ∙ ap (λ n. nat_lt (length moof_bytes) n) (omega arith) in
    rw (short, drop-drop at g moof_bytes) refl

none_more : (n : ℕ) → 0 + n ≡ n
none_more n = omega arith

field_after : (moof_bytes : List ℕ) (g : ℕ) (at : Option ℕ) (default_value : ℕ) → field_at (drop g moof_bytes) 0 at default_value ≡ field_at moof_bytes g at default_value
field_after moof_bytes g None default_value = refl
field_after moof_bytes g (Some at) default_value = ap (λ n. number_in (drop g moof_bytes) n) (none_more at) ∙ number_after moof_bytes g at

offset_after : (moof_bytes : List ℕ) (version g : ℕ) (at : Option ℕ) → offset_at (drop g moof_bytes) version 0 at ≡ offset_at moof_bytes version g at
offset_after moof_bytes version g None = refl
offset_after moof_bytes version g (Some at) = ap (λ n. offset_by version n) (ap (λ n. number_in (drop g moof_bytes) n) (none_more at) ∙ number_after moof_bytes g at)

-- the row that is read from them
pub row_after : (run : Run) (moof_bytes : List ℕ) (i : ℕ) → row_from run (drop (group_at run i) moof_bytes) i 0 ≡ row_of run moof_bytes i
unfolding row_of
row_after run moof_bytes i =
    let g = group_at run i in
    rw (
      field_after moof_bytes g run.fields.sample_duration run.duration,
      field_after moof_bytes g run.fields.sample_size run.size,
      field_after moof_bytes g run.fields.sample_flags (default_flags_of run i),
      offset_after moof_bytes run.version g run.fields.sample_composition_time_offset,
    )
    refl

-- the next begins after a group
pub groups_next : (run : Run) (moof_bytes : List ℕ) (i : ℕ) → drop run.fields.len (drop (group_at run i) moof_bytes) ≡ drop (group_at run (i + 1)) moof_bytes
unfolding group_at
groups_next run moof_bytes i = drop-drop run.fields.len (group_at run i) moof_bytes ∙ ap (λ n. drop n moof_bytes) (next run.samples_at run.fields.len i)
  where
    next : (a l i : ℕ) → a + l * i + l ≡ a + l * (i + 1)
    next a l i = omega (arith)

-- ---- sums by places

pub number_there : (moof_bytes : List ℕ) (at : ℕ) → at + 4 ≤ length moof_bytes → number_in moof_bytes at ≡ big_number 4 (drop at moof_bytes)
number_there moof_bytes at there = rw (le-ltb (length moof_bytes) (at + 4) there) refl

pub numbers_next : (moof_bytes : List ℕ) (step at n : ℕ) → 0 < n → numbers_from moof_bytes step at n ≡ number_in moof_bytes at + numbers_from moof_bytes step (at + step) (n - 1)
unfolding numbers_from
numbers_next moof_bytes step at zero some = absurd (omega (arith, some))
numbers_next moof_bytes step at (suc n) some = let e : n ≡ suc n - 1 = omega arith in ap (λ k. number_in moof_bytes at + numbers_from moof_bytes step (at + step) k) e

pub numbers_none : (moof_bytes : List ℕ) (step at n : ℕ) → n ≡ 0 → numbers_from moof_bytes step at n ≡ 0
unfolding numbers_from
numbers_none moof_bytes step at zero e = refl
numbers_none moof_bytes step at (suc n) e = absurd (omega (arith, e))

-- one number more at the end
numbers_last : (moof_bytes : List ℕ) (step at n : ℕ) → numbers_from moof_bytes step at (suc n) ≡ numbers_from moof_bytes step at n + number_in moof_bytes (at + step * n)
unfolding numbers_from
numbers_last moof_bytes step at zero = let e : at ≡ at + step * 0 = omega arith in omega (arith, ap (number_in moof_bytes) e)
numbers_last moof_bytes step at (suc n) =
    let e : at + step + step * n ≡ at + step * suc n = omega arith in
    omega (arith, numbers_last moof_bytes step (at + step) n, ap (number_in moof_bytes) e)

pub numbers_more : (moof_bytes : List ℕ) (step at n place : ℕ) → place ≡ at + step * n → numbers_from moof_bytes step at (n + 1) ≡ numbers_from moof_bytes step at n + number_in moof_bytes place
numbers_more moof_bytes step at n place here =
    let e : n + 1 ≡ suc n = omega arith in
    ap (numbers_from moof_bytes step at) e ∙ numbers_last moof_bytes step at n ∙ ap (λ (p : ℕ). numbers_from moof_bytes step at n + number_in moof_bytes p) (sym here)

pub numbers_one : (moof_bytes : List ℕ) (step at : ℕ) → numbers_from moof_bytes step at 1 ≡ number_in moof_bytes at
unfolding numbers_from
numbers_one moof_bytes step at = omega arith

pub by_place : (f : Row → ℕ) (run : Run) (moof_bytes : List ℕ) (at i n place : ℕ) → ((j : ℕ) → f (row_of run moof_bytes j) ≡ number_in moof_bytes (group_at run j + at)) → place ≡ run.samples_at + run.fields.len * i + at
    → sum_by f (map (row_of run moof_bytes) (range_with_len i n)) ≡ numbers_from moof_bytes run.fields.len place n
unfolding group_at numbers_from
by_place f run moof_bytes at i zero place is e = refl
by_place f run moof_bytes at i (suc n) place is e =
    let next : place + run.fields.len ≡ run.samples_at + run.fields.len * (i + 1) + at = omega (arith, e) in
    sum_by-cons f (row_of run moof_bytes i) (map (row_of run moof_bytes) (range_with_len (i + 1) n))
    ∙ ap (λ k. k + sum_by f (map (row_of run moof_bytes) (range_with_len (i + 1) n))) (is i ∙ ap (number_in moof_bytes) (sym e))
    ∙ ap (λ k. number_in moof_bytes place + k) (by_place f run moof_bytes at (i + 1) n (place + run.fields.len) is next)
