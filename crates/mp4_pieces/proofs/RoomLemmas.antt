-- What has no room for its numbers, found piece by piece and run by run.
use Rattle.std.proofs.Common.{◌≡◌, ℕ, zero, suc, ◌<◌, ◌≤◌, ◌+◌, ◌-◌, Bool, true, false, List, [], ◌∷◌, ◌++◌, length, refl, sym, ap, ◌∙◌, arith, inl, inr, ◌⊎◌, Option, None, append-nil}
use Rattle.std.specs.Prelude.{◌||◌, ◌==◌, nat_lt, drop}
use Rattle.std.specs.List.{flat_map, list_any}
use Rattle.std.proofs.lemmas.Bool.{ltb-false, ltb-true}
use Rattle.std.proofs.lemmas.Bool.Decides.{nat_tests}
use Rattle.std.proofs.lemmas.Grind.{flat_map-append}
use Rattle.std.proofs.lemmas.List.{length-append, length-drop}
use Rattle.std.proofs.lemmas.List.Sums.{sum_by-append, sum_by-cons}
use Rattle.mp4_box.specs.declared.rules.Fault.{Fault}
use Rattle.mp4_box.specs.Order.{least_from}
use Rattle.mp4_box.proofs.OrderLemmas.{least_from_append}
use Rattle.mp4_init.specs.declared.table.Track.{Track}
use Rattle.mp4_traf.specs.declared.run.Run.{Run}
use Rattle.mp4_traf.specs.declared.rows.Row.{Row}
use Rattle.mp4_traf.specs.declared.rows.Cursor.{Cursor}
use Rattle.mp4_traf.specs.Cursors.{first_cursor}
use Rattle.mp4_frag.specs.Moofs.{moof_runs, moof_samples}
use Rattle.mp4_traf.specs.Rows.{rows_of}
use Rattle.mp4_traf.specs.Runs.{MoofBytes}
use Rattle.mp4_traf.proofs.RowLemmas.{length_rows_of}
use Rattle.mp4_frag.proofs.SoundLemmas.{rows_are_samples}
use Rattle.mp4_pieces.specs.declared.cut.Cut.{Cut}
use Rattle.mp4_pieces.specs.declared.piece.Piece.{Piece}
use Rattle.mp4_pieces.specs.declared.index.IndexCheck.{IndexCheck}
use Rattle.mp4_pieces.specs.Cutting.{cut_by, cut_from}
use Rattle.mp4_pieces.specs.Fitting.{cut_for, fits}
use Rattle.mp4_pieces.specs.Groups.{groups_from}
use Rattle.mp4_pieces.specs.Pieces.{cut_rows, past_rows, piece_count, pieces_at, pieces_of}
use Rattle.mp4_pieces.specs.Rooms.{index_faults, index_faults_of, numbers, passes_reference, passes_time, room_fault, room_faults, sequence_faults}
use Rattle.mp4_pieces.specs.Implementation.Rooming.{check_past, passes_from}

bool_is : (b : Bool) → (b ≡ true) ⊎ (b ≡ false)
bool_is true = inl refl
bool_is false = inr refl

-- ---- pieces

or_past : (a t r ts rs : Bool) → ((a || (t || r)) || (ts || rs)) ≡ (a || ((t || ts) || (r || rs)))
or_past true t r ts rs = refl
or_past false true r ts rs = refl
or_past false false true true rs = refl
or_past false false true false rs = refl
or_past false false false ts rs = refl

or_on : (a r ts rs : Bool) → ((a || r) || (ts || rs)) ≡ (a || (ts || (r || rs)))
or_on true r ts rs = refl
or_on false true true rs = refl
or_on false true false rs = refl
or_on false false ts rs = refl

pub check_more : (c : IndexCheck) (p : Piece) (ps : List Piece) → passes_from (check_past c p) ps ≡ passes_from c (p ∷ ps)
unfolding check_past groups_from
check_more c p ps = by c.left refl
  where
    by : (k : ℕ) → c.left ≡ k → passes_from (check_past c p) ps ≡ passes_from c (p ∷ ps)
    by zero e = rw e (or_past c.passes (passes_time (p ∷ [])) (passes_reference p) (list_any passes_time (groups_from 65534 ps)) (list_any passes_reference ps))
    by (suc k) e =
        let less : suc k - 1 ≡ k = omega arith in
        let some : (suc k == 0) ≡ false = grind (arith, nat_tests) in
        rw (e, some, less) (or_on c.passes (passes_reference p) (list_any passes_time (groups_from k ps)) (list_any passes_reference ps))

pub check_none : (c : IndexCheck) → passes_from c [] ≡ c.passes
unfolding groups_from
check_none c = by c.passes
  where
    by : (a : Bool) → (a || false) ≡ a
    by true = refl
    by false = refl

-- ---- how many pieces there are

length_pieces : (c : Cursor) (parts : List (List Row)) → length (pieces_at c parts) ≡ length parts
unfolding pieces_at
length_pieces c [] = refl
length_pieces c (p ∷ parts) = ap suc (length_pieces (past_rows c p) parts)

few_from : {A : Type 0} (fits : List A → Bool) (p xs : List A) → length (cut_from fits p xs) ≤ suc (length xs)
unfolding cut_from
few_from fits p [] = omega arith
few_from {A} fits p (x ∷ xs) =
    elim (bool_is (fits (p ++ x ∷ []))) [
      | inl t ↦ rw t (omega (arith, few_from fits (p ++ x ∷ []) xs))
      | inr f ↦ rw f (omega (arith, few_from fits (x ∷ []) xs))
    ]

few_by : {A : Type 0} (fits : List A → Bool) (xs : List A) → length (cut_by fits xs) ≤ length xs
unfolding cut_by
few_by fits [] = omega arith
few_by fits (x ∷ xs) = few_from fits (x ∷ []) xs

pub few_pieces : (cut : Cut) (moof_bytes : List ℕ) (run : Run) → length (pieces_of cut moof_bytes run) ≤ run.count
few_pieces cut moof_bytes run =
    let rows : List Row = drop 0 (rows_of run moof_bytes) in
    let own : Cut = cut_for run.timescale cut in
    omega (arith, length_pieces (first_cursor run) (cut_rows own rows), few_by (fits own) rows, length-drop 0 (rows_of run moof_bytes), length_rows_of run moof_bytes)

count-cons : (cut : Cut) (moof_bytes : List ℕ) (run : Run) (runs : List Run) → piece_count cut moof_bytes (run ∷ runs) ≡ length (pieces_of cut moof_bytes run) + piece_count cut moof_bytes runs
count-cons cut moof_bytes run runs = sum_by-cons (λ (r : Run). length (pieces_of cut moof_bytes r)) run runs

pub count-append : (cut : Cut) (moof_bytes : List ℕ) (xs ys : List Run) → piece_count cut moof_bytes (xs ++ ys) ≡ piece_count cut moof_bytes xs + piece_count cut moof_bytes ys
count-append cut moof_bytes xs ys = sum_by-append (λ (r : Run). length (pieces_of cut moof_bytes r)) xs ys

count_few : (cut : Cut) (moof_bytes : List ℕ) (runs : List Run) → piece_count cut moof_bytes runs ≤ length (flat_map (λ (run : Run). rows_of run moof_bytes) runs)
count_few cut moof_bytes [] = omega arith
count_few cut moof_bytes (run ∷ runs) =
    omega (arith, count-cons cut moof_bytes run runs, few_pieces cut moof_bytes run, length_rows_of run moof_bytes, length-append (rows_of run moof_bytes) (flat_map (λ (run : Run). rows_of run moof_bytes) runs), count_few cut moof_bytes runs)

pub moof_count_few : (cut : Cut) (h : MoofBytes) (tracks : List Track) → piece_count cut h.bytes (moof_runs h tracks) ≤ moof_samples h
moof_count_few cut h tracks = omega (arith, count_few cut h.bytes (moof_runs h tracks), rows_are_samples h tracks)

-- ---- the last number

over : (n m : ℕ) → m < n → nat_lt m n ≡ true
over n m h = grind (arith, nat_tests)

pub past_last : (seq count : ℕ) → seq ≤ 4294967296 → list_any (nat_lt 4294967295) (numbers seq count) ≡ nat_lt 4294967296 (seq + count)
past_last seq zero h = grind (arith, nat_tests)
past_last seq (suc n) h =
    elim (bool_is (nat_lt 4294967295 seq)) [
      | inl t ↦
          let far : 4294967295 < seq = ltb-true 4294967295 seq t in
          rw t (sym (over (seq + suc n) 4294967296 (omega (arith, far))))
      | inr f ↦
          let near : seq ≤ 4294967295 = ltb-false 4294967295 seq f in
          let same : seq + 1 + n ≡ seq + suc n = omega arith in
          rw f (past_last (seq + 1) n (omega (arith, near)) ∙ ap (λ (k : ℕ). nat_lt 4294967296 k) same)
    ]

-- ---- run by run

pub faults-append : (cut : Cut) (moof_bytes : List ℕ) (xs ys : List Run) → index_faults cut moof_bytes (xs ++ ys) ≡ index_faults cut moof_bytes xs ++ index_faults cut moof_bytes ys
faults-append cut moof_bytes xs ys = flat_map-append (index_faults_of cut moof_bytes) xs ys

-- some of the runs that are left were gone over
pub best_past : (cut : Cut) (moof_bytes : List ℕ) (left xs ys : List Run) (best new : Option Fault) → left ≡ xs ++ ys → new ≡ least_from best (index_faults cut moof_bytes xs) → least_from new (index_faults cut moof_bytes ys) ≡ least_from best (index_faults cut moof_bytes left)
best_past cut moof_bytes left xs ys best new e is =
    ap (λ (b : Option Fault). least_from b (index_faults cut moof_bytes ys)) is
    ∙ sym (least_from_append best (index_faults cut moof_bytes xs) (index_faults cut moof_bytes ys))
    ∙ ap (least_from best) (sym (faults-append cut moof_bytes xs ys))
    ∙ ap (λ (zs : List Run). least_from best (index_faults cut moof_bytes zs)) (sym e)

pub count_past : (cut : Cut) (moof_bytes : List ℕ) (left xs ys : List Run) (all sum n : ℕ) → left ≡ xs ++ ys → sum + piece_count cut moof_bytes left ≡ all → n ≡ piece_count cut moof_bytes xs → sum + n + piece_count cut moof_bytes ys ≡ all
count_past cut moof_bytes left xs ys all sum n e so is = omega (arith, so, is, ap (piece_count cut moof_bytes) e, count-append cut moof_bytes xs ys)

pub best_end : (cut : Cut) (moof_bytes : List ℕ) (left : List Run) (best all : Option Fault) → left ≡ [] → least_from best (index_faults cut moof_bytes left) ≡ all → best ≡ all
unfolding least_from
best_end cut moof_bytes left best all e is = sym (ap (λ (zs : List Run). least_from best (index_faults cut moof_bytes zs)) e) ∙ is

-- one run by itself
pub count_one : (cut : Cut) (moof_bytes : List ℕ) (run : Run) → piece_count cut moof_bytes (run ∷ []) ≡ length (pieces_of cut moof_bytes run)
count_one cut moof_bytes run = omega (arith, count-cons cut moof_bytes run [])

pub faults_one : (cut : Cut) (moof_bytes : List ℕ) (run : Run) → index_faults cut moof_bytes (run ∷ []) ≡ index_faults_of cut moof_bytes run
faults_one cut moof_bytes run = append-nil (index_faults_of cut moof_bytes run)

-- ---- all of a moof

pub fault_is : (cut : Cut) (h : MoofBytes) (moof_bytes : List ℕ) (runs : List Run) (seq count offset : ℕ) (first best : Option Fault) → moof_bytes ≡ h.bytes → first ≡ least_from None (index_faults cut moof_bytes runs) → count ≡ piece_count cut moof_bytes runs → offset ≡ h.offset
    → best ≡ least_from first (sequence_faults offset (numbers seq count)) → best ≡ room_fault cut h runs seq
unfolding room_faults
fault_is cut h moof_bytes runs seq count offset first best at is n o given =
    given
    ∙ ap (λ (k : ℕ). least_from first (sequence_faults k (numbers seq count))) o
    ∙ ap (λ (k : ℕ). least_from first (sequence_faults h.offset (numbers seq k))) (n ∙ ap (λ (xs : List ℕ). piece_count cut xs runs) at)
    ∙ ap (λ (b : Option Fault). least_from b (sequence_faults h.offset (numbers seq (piece_count cut h.bytes runs)))) (is ∙ ap (λ (xs : List ℕ). least_from None (index_faults cut xs runs)) at)
    ∙ sym (least_from_append None (index_faults cut h.bytes runs) (sequence_faults h.offset (numbers seq (piece_count cut h.bytes runs))))
