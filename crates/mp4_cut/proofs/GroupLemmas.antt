-- The groups of a run's pieces can be written, where an index has room for them.
use Rattle.std.proofs.Common.{◌≡◌, ℕ, zero, suc, ◌+◌, ◌≤◌, List, [], ◌∷◌, ◌++◌, length, drop, append-nil, append_assoc, length-append, refl, sym, ap, subst, ◌∙◌, arith}
use Rattle.std.specs.Prelude.{take}
use Rattle.std.specs.List.{AllByRecursion}
use Rattle.std.proofs.lemmas.List.{length-take}
use Rattle.mp4_box.specs.Trees.{first_of}
use Rattle.mp4_traf.specs.declared.run.Run.{Run}
use Rattle.mp4_traf.specs.declared.rows.Cursor.{Cursor}
use Rattle.mp4_traf.specs.Cursors.{first_cursor}
use Rattle.mp4_traf.specs.declared.rows.Row.{Row}
use Rattle.mp4_traf.specs.Rows.{IsCursor, rows_of}
use Rattle.mp4_traf.proofs.RowLemmas.{cursor_first}
use Rattle.mp4_pieces.specs.declared.cut.Cut.{Cut}
use Rattle.mp4_pieces.specs.declared.piece.Piece.{Piece}
use Rattle.mp4_pieces.specs.Fits.{BeginsInTime, FitsIndex, FitsReference}
use Rattle.mp4_pieces.specs.Groups.{group_length, groups, groups_from}
use Rattle.mp4_pieces.specs.Fitting.{cut_for}
use Rattle.mp4_pieces.specs.Pieces.{cut_rows, piece_at, pieces_at, pieces_from, pieces_of}
use Rattle.mp4_pieces.specs.PlainPieces.{plain_end, plain_start}
use Rattle.mp4_pieces.proofs.PieceLemmas.{goes_on}
use Rattle.mp4_cut.specs.IndexGroups.{IsGroup, IsGroupOf, group_from}

-- ---- a piece begins at the cursor from which it is found

cons_is : (x y : Piece) (xs ys : List Piece) → x ∷ xs ≡ y ∷ ys → (x ≡ y) × (xs ≡ ys)
cons_is x y xs ys e = (cc, cc)

begins_by : (c : Cursor) (parts : List (List Row)) (p : Piece) (ps : List Piece) → pieces_at c parts ≡ p ∷ ps → plain_start p.plain ≡ c
unfolding pieces_at piece_at
begins_by c [] p ps e = absurd cc
begins_by c (rows ∷ rest) p ps e = sym (ap (λ (q : Piece). plain_start q.plain) (cons_is (piece_at c rows) p _ ps e).0)

begins_at : (cut : Cut) (moof_bytes : List ℕ) (run : Run) (c : Cursor) (p : Piece) (ps : List Piece) → pieces_from cut moof_bytes run c ≡ p ∷ ps → plain_start p.plain ≡ c
begins_at cut moof_bytes run c p ps e = begins_by c (cut_rows (cut_for run.timescale cut) (drop c.row (rows_of run moof_bytes))) p ps e

-- ---- the groups

take_taken : {A : Type 0} (n : ℕ) (xs : List A) → take (length (take n xs)) xs ≡ take n xs
take_taken zero xs = refl
take_taken (suc n) [] = refl
take_taken {A} (suc n) (x ∷ xs) = ap (λ (ys : List A). x ∷ ys) (take_taken n xs)

all_take : (P : Piece → Type 0) (n : ℕ) (xs : List Piece) → AllByRecursion P xs → AllByRecursion P (take n xs)
all_take P zero xs all = tt
all_take P (suc n) [] all = tt
all_take P (suc n) (x ∷ xs) all = (all.0, all_take P n xs all.1)

-- the group of at most n + 1 pieces with which these begin
first_is : (cut : Cut) (moof_bytes : List ℕ) (run : Run) (c : Cursor) (n : ℕ) (p : Piece) (ps : List Piece) → IsCursor run moof_bytes c → pieces_from cut moof_bytes run c ≡ p ∷ ps → BeginsInTime (take (suc n) (p ∷ ps)) → AllByRecursion FitsReference (p ∷ ps)
    → IsGroup cut moof_bytes run p (length (take (suc n) (p ∷ ps))) × (group_from cut moof_bytes run p (length (take (suc n) (p ∷ ps))) ≡ take (suc n) (p ∷ ps))
first_is cut moof_bytes run c n p ps at e time fit =
    let group : List Piece = take (suc n) (p ∷ ps) in
    let start = begins_at cut moof_bytes run c p ps e in
    let here : pieces_from cut moof_bytes run (plain_start p.plain) ≡ p ∷ ps = ap (pieces_from cut moof_bytes run) start ∙ e in
    let same : group_from cut moof_bytes run p (length group) ≡ group = ap (take (length group)) here ∙ take_taken (suc n) (p ∷ ps) in (
      record {
        cursor = subst (IsCursor run moof_bytes) (sym start) at;
        begins = ap first_of same;
        all = ap length same;
        time = time;
        references = subst (AllByRecursion FitsReference) (sym same) (all_take FitsReference (suc n) (p ∷ ps) fit);
      },
      same,
    )

first_group : (cut : Cut) (moof_bytes : List ℕ) (run : Run) (c : Cursor) (n : ℕ) (p : Piece) (ps : List Piece) → IsCursor run moof_bytes c → pieces_from cut moof_bytes run c ≡ p ∷ ps → BeginsInTime (take (suc n) (p ∷ ps)) → AllByRecursion FitsReference (p ∷ ps)
    → IsGroupOf cut moof_bytes run (take (suc n) (p ∷ ps))
first_group cut moof_bytes run c n p ps at e time fit =
    let both = first_is cut moof_bytes run c n p ps at e time fit in
    record { first = p; begins = refl; is = both.0; same = both.1 }

groups_by : (cut : Cut) (moof_bytes : List ℕ) (run : Run) (k : ℕ) (c : Cursor) (ps : List Piece) → IsCursor run moof_bytes c → pieces_from cut moof_bytes run c ≡ ps → AllByRecursion BeginsInTime (groups_from k ps) → AllByRecursion FitsReference ps → AllByRecursion (IsGroupOf cut moof_bytes run) (groups_from k ps)
unfolding groups_from
groups_by cut moof_bytes run zero c [] at e times fit = tt
groups_by cut moof_bytes run (suc k) c [] at e times fit = tt
groups_by cut moof_bytes run zero c (p ∷ ps) at e times fit =
    let next = goes_on cut moof_bytes run c p ps at e in
    (first_group cut moof_bytes run c 65534 p ps at e times.0 fit, groups_by cut moof_bytes run 65534 (plain_end p.plain) ps next.cursor next.rest times.1 fit.1)
groups_by cut moof_bytes run (suc k) c (p ∷ ps) at e times fit =
    let next = goes_on cut moof_bytes run c p ps at e in
    groups_by cut moof_bytes run k (plain_end p.plain) ps next.cursor next.rest times fit.1

pub groups_are : (cut : Cut) (moof_bytes : List ℕ) (run : Run) → FitsIndex (pieces_of cut moof_bytes run) → AllByRecursion (IsGroupOf cut moof_bytes run) (groups (pieces_of cut moof_bytes run))
groups_are cut moof_bytes run fits = groups_by cut moof_bytes run 0 (first_cursor run) (pieces_of cut moof_bytes run) (cursor_first run moof_bytes) refl fits.times fits.references

-- ---- how many pieces a group has

pub record IsCounted (all rest : List Piece) (count : ℕ) : Type 0 where
  pub done : List Piece
  pub split : done ++ rest ≡ all
  pub len : length done ≡ count

pub counted_none : (all : List Piece) → IsCounted all all 0
counted_none all = record { done = []; split = refl; len = refl }

pub counted_more : (all ys rest : List Piece) (p : Piece) (count : ℕ) → IsCounted all ys count → ys ≡ p ∷ rest → IsCounted all rest (count + 1)
counted_more all ys rest p count c e = record {
  done = c.done ++ p ∷ [];
  split = append_assoc c.done (p ∷ []) rest ∙ (ap (λ (zs : List Piece). c.done ++ zs) (sym e) ∙ c.split);
  len = omega (arith, length-append c.done (p ∷ []), c.len);
}

pub counted_all : (all rest : List Piece) (count : ℕ) → IsCounted all rest count → rest ≡ [] → count ≤ 65535 → count ≡ length (take group_length all)
counted_all all rest count c e few =
    let whole : c.done ≡ all = sym (append-nil c.done) ∙ (ap (λ (zs : List Piece). c.done ++ zs) (sym e) ∙ c.split) in
    sym (length-take group_length all ∙ omega (arith, ap length whole, c.len))

pub counted_most : (all rest : List Piece) (count : ℕ) → IsCounted all rest count → count ≡ 65535 → count ≡ length (take group_length all)
counted_most all rest count c e =
    sym (length-take group_length all ∙ omega (arith, ap length c.split, length-append c.done rest, c.len))

-- the first group of the pieces of a run
pub first_is_group : (cut : Cut) (moof_bytes : List ℕ) (run : Run) (p : Piece) (ps : List Piece) (count : ℕ) → FitsIndex (pieces_of cut moof_bytes run) → pieces_of cut moof_bytes run ≡ p ∷ ps → count ≡ length (take group_length (pieces_of cut moof_bytes run)) → IsGroup cut moof_bytes run p count
unfolding groups_from
first_is_group cut moof_bytes run p ps count fits e len =
    let f : FitsIndex (p ∷ ps) = subst FitsIndex e fits in
    let g = first_is cut moof_bytes run (first_cursor run) 65534 p ps (cursor_first run moof_bytes) e f.times.0 f.references in
    subst (IsGroup cut moof_bytes run p) (sym (len ∙ ap (λ (qs : List Piece). length (take group_length qs)) e)) g.0
