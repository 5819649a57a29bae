-- The pieces of a run are pieces of it, and after each the run goes on.
use Rattle.std.proofs.Common.{◌≡◌, ℕ, ℤ, pos, ◌<◌, ◌≤◌, ◌+◌, ◌^◌, List, [], ◌∷◌, ◌++◌, length, take, drop, refl, sym, ap, subst, ◌∙◌, arith}
use Rattle.std.specs.Prelude.{◌+ℤ◌, ◌<ℤ◌}
use Rattle.std.specs.List.{AllByRecursion}
use Rattle.std.proofs.lemmas.Int.{ints}
use Rattle.std.proofs.lemmas.List.{length-append, length-drop, length-take, take-append-drop}
use Rattle.std.proofs.lemmas.List.Sums.{sum_by-append, sum_by-take-drop, sum_by-take-le}
use Rattle.std.proofs.Math.Seq.{drop-append-add, take-append-add, take-append_seam}
use Rattle.mp4_traf.specs.CompositionTimes.{IsLeastOf, composition_times}
use Rattle.mp4_traf.specs.declared.run.Run.{Run}
use Rattle.mp4_traf.specs.declared.rows.Row.{Row}
use Rattle.mp4_traf.specs.declared.rows.Cursor.{Cursor}
use Rattle.mp4_traf.specs.Cursors.{first_cursor}
use Rattle.mp4_traf.specs.Rows.{IsCursor, durations, rows_of, sizes}
use Rattle.mp4_traf.proofs.CompositionTimeLemmas.{least_of_all, length_times}
use Rattle.mp4_traf.proofs.RowLemmas.{cursor_first, length_rows_of}
use Rattle.mp4_pieces.specs.declared.cut.Cut.{Cut}
use Rattle.mp4_pieces.specs.declared.piece.Piece.{Piece}
use Rattle.mp4_pieces.specs.Cutting.{ArePieces, join}
use Rattle.mp4_pieces.specs.Fitting.{cut_for, fits}
use Rattle.mp4_pieces.specs.Pieces.{IsPieceOf, cursor_at, cut_rows, past_rows, piece_at, pieces_at, pieces_from, pieces_of, rows_in}
use Rattle.mp4_pieces.specs.PlainPieces.{EndsInRange, plain_end}
use Rattle.mp4_traf.specs.Ranges.{IsRunOf}
use Rattle.mp4_pieces.specs.Laws.{IsFollowedBy}
use Rattle.mp4_pieces.proofs.CutLemmas.{pieces_are, pieces_only}
use Rattle.mp4_pieces.proofs.FitLemmas.{is_limit}

-- ---- a part of a list

split_at : (xs : List Row) (i : ℕ) (q rest : List Row) → drop i xs ≡ q ++ rest → xs ≡ take i xs ++ (q ++ rest)
split_at xs i q rest e = sym (take-append-drop i xs) ∙ ap (λ (ys : List Row). take i xs ++ ys) e

taken_len : (xs : List Row) (i : ℕ) → i ≤ length xs → length (take i xs) ≡ i
taken_len xs i h = length-take i xs ∙ omega (arith, h)

take_on : (xs : List Row) (i : ℕ) (q rest : List Row) → i ≤ length xs → drop i xs ≡ q ++ rest → take (i + length q) xs ≡ take i xs ++ q
take_on xs i q rest h e =
    ap (λ (ys : List Row). take (i + length q) ys) (split_at xs i q rest e)
    ∙ ap (λ (n : ℕ). take (n + length q) (take i xs ++ (q ++ rest))) (sym (taken_len xs i h))
    ∙ take-append-add (take i xs) (q ++ rest) (length q)
    ∙ ap (λ (ys : List Row). take i xs ++ ys) (take-append_seam q rest)

drop_on : (xs : List Row) (i : ℕ) (q rest : List Row) → i ≤ length xs → drop i xs ≡ q ++ rest → drop (i + length q) xs ≡ rest
drop_on xs i q rest h e =
    ap (λ (ys : List Row). drop (i + length q) ys) (split_at xs i q rest e)
    ∙ ap (λ (n : ℕ). drop (n + length q) (take i xs ++ (q ++ rest))) (sym (taken_len xs i h))
    ∙ drop-append-add (take i xs) (q ++ rest) (length q)
    ∙ drop_seam q rest
  where
    drop_seam : (q rest : List Row) → drop (length q) (q ++ rest) ≡ rest
    drop_seam [] rest = refl
    drop_seam (x ∷ q) rest = drop_seam q rest

-- ---- cursors

cursor_is : (moof_bytes : List ℕ) (run : Run) (c : Cursor) → IsCursor run moof_bytes c → cursor_at moof_bytes run c.row ≡ c
cursor_is moof_bytes run c at =
    let n : length (take c.row (rows_of run moof_bytes)) ≡ c.row = taken_len (rows_of run moof_bytes) c.row (omega (arith, at.row, length_rows_of run moof_bytes)) in
    let row : 0 + length (take c.row (rows_of run moof_bytes)) ≡ c.row = omega (arith, n) in
    rw (row, ← at.time, ← at.place) refl

moved : (x y z : ℤ) (n m : ℕ) → x ≡ y +ℤ pos n → x +ℤ pos m ≡ y +ℤ pos (n + m)
moved x y z n m e = omega (arith, ints, e)

cursor_on : (moof_bytes : List ℕ) (run : Run) (c : Cursor) (q rest : List Row) → IsCursor run moof_bytes c → drop c.row (rows_of run moof_bytes) ≡ q ++ rest → IsCursor run moof_bytes (past_rows c q)
cursor_on moof_bytes run c q rest at e =
    let rows : List Row = rows_of run moof_bytes in
    let n : length rows ≡ run.count = length_rows_of run moof_bytes in
    let low = at.row in
    let time = at.time in
    let taken : take (c.row + length q) rows ≡ take c.row rows ++ q = take_on rows c.row q rest (omega (arith, low, n)) e in
    let ticks : durations (take (c.row + length q) rows) ≡ durations (take c.row rows) + durations q = ap durations taken ∙ sum_by-append (λ (r : Row). r.duration) (take c.row rows) q in
    let bytes : sizes (take (c.row + length q) rows) ≡ sizes (take c.row rows) + sizes q = ap sizes taken ∙ sum_by-append (λ (r : Row). r.size) (take c.row rows) q in
    record {
      row = omega (arith, low, n, length-drop c.row rows, ap length e, length-append q rest);
      time = omega (arith, time, ticks);
      place = moved c.place run.place run.place (sizes (take c.row rows)) (sizes q) at.place ∙ ap (λ (k : ℕ). run.place +ℤ pos k) (sym bytes);
    }

-- ---- one piece, and what follows it

is_piece : (moof_bytes : List ℕ) (run : Run) (c : Cursor) (q rest : List Row) → IsCursor run moof_bytes c → 0 < length q → drop c.row (rows_of run moof_bytes) ≡ q ++ rest → IsPieceOf moof_bytes run (piece_at c q)
unfolding piece_at
is_piece moof_bytes run c q rest at some e =
    let rows : List Row = rows_of run moof_bytes in
    let low = at.row in
    let here : take (length q) (drop c.row rows) ≡ q = ap (take (length q)) e ∙ take-append_seam q rest in
    record {
      some = some;
      within = omega (arith, low, length_rows_of run moof_bytes, length-drop c.row rows, ap length e, length-append q rest);
      is = ap (λ (d : Cursor). piece_at d q) (sym (cursor_is moof_bytes run c at)) ∙ ap (λ (ys : List Row). piece_at (cursor_at moof_bytes run c.row) ys) (sym here);
    }

followed : (cut : Cut) (moof_bytes : List ℕ) (run : Run) (c : Cursor) (q : List Row) (qs : List (List Row)) → IsCursor run moof_bytes c → ArePieces (fits (cut_for run.timescale cut)) (drop c.row (rows_of run moof_bytes)) (q ∷ qs)
    → IsFollowedBy cut moof_bytes run (piece_at c q) (pieces_at (past_rows c q) qs)
unfolding piece_at
followed cut moof_bytes run c q qs at are =
    let rows : List Row = rows_of run moof_bytes in
    let low = at.row in
    let e : drop c.row rows ≡ q ++ join qs = sym are.joined in
    let rest : drop (c.row + length q) rows ≡ join qs = drop_on rows c.row q (join qs) (omega (arith, low, length_rows_of run moof_bytes)) e in
    let own : Cut = cut_for run.timescale cut in
    let same : qs ≡ cut_rows own (join qs) = pieces_only (fits own) (join qs) qs (is_limit own) (record { some = are.some.1; joined = refl; fit = are.fit.1; full = are.full.1 }) in
    record {
      piece = is_piece moof_bytes run c q (join qs) at are.some.0 e;
      cursor = cursor_on moof_bytes run c q (join qs) at e;
      rest = ap (λ (ys : List Row). pieces_at (past_rows c q) (cut_rows own ys)) rest ∙ ap (pieces_at (past_rows c q)) (sym same);
    }

cons_is : {A : Type 0} (x y : A) (xs ys : List A) → x ∷ xs ≡ y ∷ ys → (x ≡ y) × (xs ≡ ys)
cons_is x y xs ys e = (cc, cc)

pub goes_on : (cut : Cut) (moof_bytes : List ℕ) (run : Run) (c : Cursor) (p : Piece) (ps : List Piece) → IsCursor run moof_bytes c → pieces_from cut moof_bytes run c ≡ p ∷ ps → IsFollowedBy cut moof_bytes run p ps
unfolding pieces_at
goes_on cut moof_bytes run c p ps at e =
    let own : Cut = cut_for run.timescale cut in
    by (cut_rows own (drop c.row (rows_of run moof_bytes))) (pieces_are (fits own) (drop c.row (rows_of run moof_bytes)) (is_limit own)) e
  where
    by : (parts : List (List Row)) → ArePieces (fits (cut_for run.timescale cut)) (drop c.row (rows_of run moof_bytes)) parts → pieces_at c parts ≡ p ∷ ps → IsFollowedBy cut moof_bytes run p ps
    by [] are e = absurd cc
    by (q ∷ qs) are e =
        let both = cons_is (piece_at c q) p (pieces_at (past_rows c q) qs) ps e in
        subst (λ (x : Piece). IsFollowedBy cut moof_bytes run x ps) both.0 (subst (λ (xs : List Piece). IsFollowedBy cut moof_bytes run (piece_at c q) xs) both.1 (followed cut moof_bytes run c q qs at are))

-- ---- all pieces

all_pieces : (cut : Cut) (moof_bytes : List ℕ) (run : Run) (ps : List Piece) (c : Cursor) → IsCursor run moof_bytes c → pieces_from cut moof_bytes run c ≡ ps → AllByRecursion (IsPieceOf moof_bytes run) ps
all_pieces cut moof_bytes run [] c at e = tt
all_pieces cut moof_bytes run (p ∷ ps) c at e =
    let next = goes_on cut moof_bytes run c p ps at e in
    (next.piece, all_pieces cut moof_bytes run ps (plain_end p.plain) next.cursor next.rest)

pub pieces_are_of : (cut : Cut) (moof_bytes : List ℕ) (run : Run) → AllByRecursion (IsPieceOf moof_bytes run) (pieces_of cut moof_bytes run)
pieces_are_of cut moof_bytes run = all_pieces cut moof_bytes run (pieces_of cut moof_bytes run) (first_cursor run) (cursor_first run moof_bytes) refl

-- ---- where a piece ends

high_on : (z y : ℤ) (n m all : ℕ) → y ≡ z +ℤ pos n → n + m ≤ all → (z +ℤ pos all) <ℤ pos (2 ^ 63) → (y +ℤ pos m) <ℤ pos (2 ^ 63)
high_on z y n m all e sum h = omega (arith, ints, e, sum, h)

ends_at : (moof_bytes : List ℕ) (run : Run) (i n : ℕ) → IsRunOf moof_bytes run → i + n ≤ run.count → EndsInRange (piece_at (cursor_at moof_bytes run i) (take n (drop i (rows_of run moof_bytes)))).plain
unfolding piece_at
ends_at moof_bytes run i n of within =
    let rows : List Row = rows_of run moof_bytes in
    let few = of.few in
    let end = of.end in
    let bytes = of.bytes in
    let range = of.range.end in
    let ticks = sum_by-take-drop (λ (r : Row). r.duration) rows i in
    let more_ticks = sum_by-take-le (λ (r : Row). r.duration) (drop i rows) n in
    let size = sum_by-take-drop (λ (r : Row). r.size) rows i in
    let more_size = sum_by-take-le (λ (r : Row). r.size) (drop i rows) n in
    let len = length_rows_of run moof_bytes in
    record {
      row = omega (arith, few, within, length-take n (drop i rows), length-drop i rows, length-take i rows, len);
      time = omega (arith, end, range, ticks, more_ticks);
      place = high_on run.place (run.place +ℤ pos (sizes (take i rows))) (sizes (take i rows)) (sizes (take n (drop i rows))) run.bytes refl (omega (arith, bytes, size, more_size)) of.range.high;
    }

pub piece_ends : (moof_bytes : List ℕ) (run : Run) (p : Piece) → IsRunOf moof_bytes run → IsPieceOf moof_bytes run p → EndsInRange p.plain
piece_ends moof_bytes run p of is = subst (λ (q : Piece). EndsInRange q.plain) (sym is.is) (ends_at moof_bytes run p.plain.first p.plain.count of is.within)

-- ---- the least composition time

least_at : (c : Cursor) (rows : List Row) → 0 < length rows → IsLeastOf (composition_times c.time rows) (piece_at c rows).least
unfolding piece_at
least_at c rows h = least_of_all (composition_times c.time rows) (omega (arith, h, length_times c.time rows))

pub least_is : (moof_bytes : List ℕ) (run : Run) (p : Piece) → IsPieceOf moof_bytes run p → IsLeastOf (composition_times p.plain.time (rows_in moof_bytes run p)) p.least
unfolding piece_at
least_is moof_bytes run p is =
    let c : Cursor = cursor_at moof_bytes run p.plain.first in
    let rows : List Row = rows_in moof_bytes run p in
    let some = is.some in
    let within = is.within in
    let time : p.plain.time ≡ c.time = ap (λ (x : Piece). x.plain.time) is.is in
    let least : p.least ≡ (piece_at c rows).least = ap (λ (x : Piece). x.least) is.is in
    let len : 0 < length rows = omega (arith, some, within, length-take p.plain.count (drop p.plain.first (rows_of run moof_bytes)), length-drop p.plain.first (rows_of run moof_bytes), length_rows_of run moof_bytes) in
    subst (λ (t : ℕ). IsLeastOf (composition_times t rows) p.least) (sym time) (subst (IsLeastOf (composition_times c.time rows)) (sym least) (least_at c rows len))
