-- Growing a piece row by row gives the pieces.
use Rattle.std.proofs.Common.{◌≡◌, ℕ, ℤ, pos, suc, ◌<◌, ◌≤◌, ◌+◌, ◌^◌, Bool, true, false, List, [], ◌∷◌, ◌++◌, length, refl, sym, ap, subst, ◌∙◌, arith, inl, inr, ◌⊎◌, Option, Some, None}
use Rattle.std.specs.Prelude.{◌&&◌, ◌||◌, not, nat_le, nat_lt, ◌+ℤ◌, ◌≤ℤ◌, ◌<ℤ◌}
use Rattle.std.specs.Int.{int_min}
use Rattle.std.specs.List.{list_all}
use Rattle.std.proofs.lemmas.Bool.{leb-true}
use Rattle.std.proofs.lemmas.Int.{ints}
use Rattle.std.proofs.lemmas.List.{length-append}
use Rattle.std.proofs.lemmas.List.Folds.{list_all-append}
use Rattle.std.proofs.lemmas.List.Sums.{fold-append, sum_by-append, sum_by-cons}
use Rattle.mp4_traf.specs.CompositionTimes.{composition_times, least_of}
use Rattle.mp4_traf.specs.declared.rows.Row.{Row}
use Rattle.mp4_traf.specs.declared.rows.Cursor.{Cursor}
use Rattle.mp4_traf.specs.Rows.{durations, sizes}
use Rattle.mp4_pieces.specs.declared.cut.Cut.{Cut}
use Rattle.mp4_pieces.specs.declared.piece.Piece.{Piece}
use Rattle.mp4_pieces.specs.Cutting.{cut_by, cut_from}
use Rattle.mp4_traf.specs.SyncSamples.{is_sync}
use Rattle.mp4_pieces.specs.Fitting.{fits, fits_bytes, fits_keyframes, fits_sync, fits_ticks, no_start}
use Rattle.mp4_pieces.specs.Pieces.{cut_rows, past_rows, piece_at, pieces_at}
use Rattle.mp4_pieces.specs.PlainPieces.{plain_end}
use Rattle.mp4_pieces.specs.Implementation.Growing.{Grows, grown, has_bytes, has_ticks, opened, pieces_left, takes, with_row}
use Rattle.mp4_pieces.specs.Implementation.Counting.{IsPlain}
use Rattle.mp4_traf.specs.Cursors.{HasRoom}
use Rattle.mp4_pieces.proofs.FitLemmas.{and_is, is_limit}

pub bool_is : (b : Bool) → (b ≡ true) ⊎ (b ≡ false)
bool_is true = inl refl
bool_is false = inr refl

-- ---- one row more

sizes-cons : (row : Row) (rows : List Row) → sizes (row ∷ rows) ≡ row.size + sizes rows
sizes-cons row rows = sum_by-cons (λ (r : Row). r.size) row rows

durations-cons : (row : Row) (rows : List Row) → durations (row ∷ rows) ≡ row.duration + durations rows
durations-cons row rows = sum_by-cons (λ (r : Row). r.duration) row rows

sizes-more : (rows : List Row) (row : Row) → sizes (rows ++ row ∷ []) ≡ sizes rows + row.size
sizes-more rows row = sum_by-append (λ (r : Row). r.size) rows (row ∷ []) ∙ omega (arith, sizes-cons row [])

durations-more : (rows : List Row) (row : Row) → durations (rows ++ row ∷ []) ≡ durations rows + row.duration
durations-more rows row = sum_by-append (λ (r : Row). r.duration) rows (row ∷ []) ∙ omega (arith, durations-cons row [])

times-more : (time : ℕ) (rows : List Row) (row : Row) → composition_times time (rows ++ row ∷ []) ≡ composition_times time rows ++ (pos (time + durations rows) +ℤ row.offset) ∷ []
unfolding composition_times
times-more time [] row = ap (λ (t : ℕ). (pos t +ℤ row.offset) ∷ []) (omega arith)
times-more time (x ∷ rows) row =
    ap (λ (zs : List ℤ). (pos time +ℤ x.offset) ∷ zs)
    (times-more (time + x.duration) rows row
    ∙ ap (λ (t : ℕ). composition_times (time + x.duration) rows ++ (pos t +ℤ row.offset) ∷ []) (omega (arith, durations-cons x rows)))

least-more : (z : ℤ) (zs : List ℤ) (w : ℤ) → least_of ((z ∷ zs) ++ w ∷ []) ≡ int_min (least_of (z ∷ zs)) w
least-more z zs w = fold-append int_min z zs (w ∷ [])

least_time : (time : ℕ) (x : Row) (rows : List Row) (row : Row)
    → least_of (composition_times time ((x ∷ rows) ++ row ∷ [])) ≡ int_min (least_of (composition_times time (x ∷ rows))) (pos (time + durations (x ∷ rows)) +ℤ row.offset)
unfolding composition_times
least_time time x rows row =
    ap least_of (times-more time (x ∷ rows) row)
    ∙ least-more (pos time +ℤ x.offset) (composition_times (time + x.duration) rows) (pos (time + durations (x ∷ rows)) +ℤ row.offset)

pub opened_is : (c : Cursor) (row : Row) → piece_at c (row ∷ []) ≡ opened c row
unfolding piece_at opened composition_times
opened_is c row =
    let s : sizes (row ∷ []) ≡ row.size = omega (arith, sizes-cons row []) in
    let d : durations (row ∷ []) ≡ row.duration = omega (arith, durations-cons row []) in
    rw (s, d) refl

pub with_row_is : (c : Cursor) (x : Row) (rows : List Row) (row : Row) → piece_at c ((x ∷ rows) ++ row ∷ []) ≡ with_row (piece_at c (x ∷ rows)) row
unfolding piece_at with_row
with_row_is c x rows row =
    rw (length-append (x ∷ rows) (row ∷ []), sizes-more (x ∷ rows) row, durations-more (x ∷ rows) row, least_time c.time x rows row) refl

pub after_is : (c : Cursor) (rows : List Row) → plain_end (piece_at c rows).plain ≡ past_rows c rows
unfolding piece_at
after_is c rows = refl

-- ---- whether it fits

more_sync : (asked l r : Bool) → (not asked || l) ≡ true → (not asked || (l && r)) ≡ (not asked || r)
more_sync false l r e = refl
more_sync true true r e = refl
more_sync true false r e = absurd cc

and_true : (b : Bool) → (b && true) ≡ b
and_true true = refl
and_true false = refl

takes_sync : (asked : Bool) (x : Row) (rows : List Row) (row : Row) → fits_sync asked (x ∷ rows) ≡ true → fits_sync asked ((x ∷ rows) ++ row ∷ []) ≡ (not asked || not (is_sync row.flags))
takes_sync asked x rows row e =
    let f : Row → Bool = λ (r : Row). not (is_sync r.flags) in
    ap (λ (b : Bool). not asked || b) (list_all-append f rows (row ∷ []))
    ∙ more_sync asked (list_all f rows) (not (is_sync row.flags) && true) e
    ∙ ap (λ (b : Bool). not asked || b) (and_true (not (is_sync row.flags)))

-- the last of some samples is a sync sample; without any it is as before
abbrev pub last_sync : Bool → List Row → Bool
last_sync last [] = last
last_sync last (row ∷ rows) = last_sync (is_sync row.flags) rows

last-more : (last : Bool) (rows : List Row) (row : Row) → last_sync last (rows ++ row ∷ []) ≡ is_sync row.flags
last-more last [] row = refl
last-more last (x ∷ rows) row = last-more (is_sync x.flags) rows row

and-assoc : (a b c : Bool) → (a && (b && c)) ≡ ((a && b) && c)
and-assoc true b c = refl
and-assoc false b c = refl

start-more : (last : Bool) (rows : List Row) (row : Row) → no_start last (rows ++ row ∷ []) ≡ (no_start last rows && (last_sync last rows || not (is_sync row.flags)))
start-more last [] row = and_true (last || not (is_sync row.flags))
start-more last (x ∷ rows) row =
    ap (λ (b : Bool). (last || not (is_sync x.flags)) && b) (start-more (is_sync x.flags) rows row)
    ∙ and-assoc (last || not (is_sync x.flags)) (no_start (is_sync x.flags) rows) (last_sync (is_sync x.flags) rows || not (is_sync row.flags))

takes_keyframes : (asked : Bool) (x : Row) (rows : List Row) (row : Row) → fits_keyframes asked (x ∷ rows) ≡ true → fits_keyframes asked ((x ∷ rows) ++ row ∷ []) ≡ (not asked || (last_sync (is_sync x.flags) rows || not (is_sync row.flags)))
takes_keyframes false x rows row e = refl
takes_keyframes true x rows row e =
    start-more (is_sync x.flags) rows row ∙ ap (λ (b : Bool). b && (last_sync (is_sync x.flags) rows || not (is_sync row.flags))) e

two : (n : ℕ) → 1 < n → nat_le n 1 ≡ false
two n h = elim (bool_is (nat_le n 1)) [ inl t ↦ absurd (omega (arith, leb-true n 1 t, h)) | inr f ↦ f ]

takes_bytes : (most : Option ℕ) (c : Cursor) (x : Row) (rows : List Row) (row : Row) → fits_bytes most ((x ∷ rows) ++ row ∷ []) ≡ has_bytes most (piece_at c (x ∷ rows)) row
unfolding piece_at
takes_bytes None c x rows row = refl
takes_bytes (Some m) c x rows row =
    let more : nat_le (length ((x ∷ rows) ++ row ∷ [])) 1 ≡ false = two (length ((x ∷ rows) ++ row ∷ [])) (omega (arith, length-append (x ∷ rows) (row ∷ []))) in
    ap (λ (b : Bool). b || nat_le (sizes ((x ∷ rows) ++ row ∷ [])) m) more ∙ ap (λ (n : ℕ). nat_le n m) (sizes-more (x ∷ rows) row)

takes_ticks : (most : Option ℕ) (c : Cursor) (x : Row) (rows : List Row) (row : Row) → fits_ticks most ((x ∷ rows) ++ row ∷ []) ≡ has_ticks most (piece_at c (x ∷ rows)) row
unfolding piece_at
takes_ticks None c x rows row = refl
takes_ticks (Some m) c x rows row =
    let more : nat_le (length ((x ∷ rows) ++ row ∷ [])) 1 ≡ false = two (length ((x ∷ rows) ++ row ∷ [])) (omega (arith, length-append (x ∷ rows) (row ∷ []))) in
    ap (λ (b : Bool). b || nat_le (durations ((x ∷ rows) ++ row ∷ [])) m) more ∙ ap (λ (n : ℕ). nat_le n m) (durations-more (x ∷ rows) row)

pub takes_is : (cut : Cut) (c : Cursor) (x : Row) (rows : List Row) (row : Row) → fits cut (x ∷ rows) ≡ true → fits cut ((x ∷ rows) ++ row ∷ []) ≡ takes cut (piece_at c (x ∷ rows)) (last_sync (is_sync x.flags) rows) row
unfolding takes piece_at
takes_is cut c x rows row e =
    let count = and_is (nat_le (length (x ∷ rows)) cut.samples) _ e in
    let rest = and_is (fits_bytes cut.bytes (x ∷ rows)) _ count.1 in
    let time = and_is (fits_ticks cut.ticks (x ∷ rows)) _ rest.1 in
    let starts = and_is (fits_sync cut.sync (x ∷ rows)) _ time.1 in
    let more : List Row = (x ∷ rows) ++ row ∷ [] in
    let p : Piece = piece_at c (x ∷ rows) in
    let len : length ((x ∷ rows) ++ row ∷ []) ≡ suc (length (x ∷ rows)) = omega (arith, length-append (x ∷ rows) (row ∷ [])) in
    ap (λ (n : ℕ). nat_le n cut.samples && (fits_bytes cut.bytes more && (fits_ticks cut.ticks more && (fits_sync cut.sync more && fits_keyframes cut.keyframes more)))) len
    ∙ ap (λ (b : Bool). nat_lt (length (x ∷ rows)) cut.samples && (b && (fits_ticks cut.ticks more && (fits_sync cut.sync more && fits_keyframes cut.keyframes more)))) (takes_bytes cut.bytes c x rows row)
    ∙ ap (λ (b : Bool). nat_lt (length (x ∷ rows)) cut.samples && (has_bytes cut.bytes p row && (b && (fits_sync cut.sync more && fits_keyframes cut.keyframes more)))) (takes_ticks cut.ticks c x rows row)
    ∙ ap (λ (b : Bool). nat_lt (length (x ∷ rows)) cut.samples && (has_bytes cut.bytes p row && (has_ticks cut.ticks p row && (b && fits_keyframes cut.keyframes more)))) (takes_sync cut.sync x rows row starts.0)
    ∙ ap (λ (b : Bool). nat_lt (length (x ∷ rows)) cut.samples && (has_bytes cut.bytes p row && (has_ticks cut.ticks p row && ((not cut.sync || not (is_sync row.flags)) && b)))) (takes_keyframes cut.keyframes x rows row starts.1)

-- ---- the pieces

grown_is : (cut : Cut) (c : Cursor) (x : Row) (p rows : List Row) → fits cut (x ∷ p) ≡ true → pieces_at c (cut_from (fits cut) (x ∷ p) rows) ≡ grown cut (piece_at c (x ∷ p)) (last_sync (is_sync x.flags) p) rows
unfolding grown cut_from pieces_at
grown_is cut c x p [] fit = refl
grown_is cut c x p (row ∷ rows) fit =
    let takes_it = takes_is cut c x p row fit in
    elim (bool_is (fits cut (x ∷ (p ++ row ∷ [])))) [
      | inl t ↦
          let yes : takes cut (piece_at c (x ∷ p)) (last_sync (is_sync x.flags) p) row ≡ true = sym takes_it ∙ t in
          rw (t, yes)
          (grown_is cut c x (p ++ row ∷ []) rows t
          ∙ ap (λ (q : Piece). grown cut q (last_sync (is_sync x.flags) (p ++ row ∷ [])) rows) (with_row_is c x p row)
          ∙ ap (λ (b : Bool). grown cut (with_row (piece_at c (x ∷ p)) row) b rows) (last-more (is_sync x.flags) p row))
      | inr f ↦
          let no_more : takes cut (piece_at c (x ∷ p)) (last_sync (is_sync x.flags) p) row ≡ false = sym takes_it ∙ f in
          rw (f, no_more)
          (ap (λ (ps : List Piece). piece_at c (x ∷ p) ∷ ps)
          (grown_is cut (past_rows c (x ∷ p)) row [] rows ((is_limit cut).one row)
          ∙ ap (λ (q : Piece). grown cut q (is_sync row.flags) rows) (opened_is (past_rows c (x ∷ p)) row)
          ∙ ap (λ (d : Cursor). grown cut (opened d row) (is_sync row.flags) rows) (sym (after_is c (x ∷ p)))))
    ]

pub pieces_left_are : (cut : Cut) (c : Cursor) (rows : List Row) → pieces_at c (cut_rows cut rows) ≡ pieces_left cut c rows
unfolding pieces_left cut_by pieces_at
pieces_left_are cut c [] = refl
pieces_left_are cut c (row ∷ rows) = grown_is cut c row [] rows ((is_limit cut).one row) ∙ ap (λ (q : Piece). grown cut q (is_sync row.flags) rows) (opened_is c row)

-- ---- the numbers fit

pub opened_grows : (c : Cursor) (row : Row) (rows : List Row) → HasRoom c (row ∷ rows) → Grows (opened c row) rows
unfolding opened
opened_grows c row rows h =
    let s = sizes-cons row rows in
    let d = durations-cons row rows in
    let r = h.row in
    let t = h.time in
    let z : pos (sizes (row ∷ rows)) ≡ pos (row.size + sizes rows) = ap pos s in
    record { row = omega (arith, r); time = omega (arith, d, t); low = h.low; high = subst (λ (n : ℕ). (c.place +ℤ pos n) <ℤ pos (2 ^ 63)) s h.high }

pub with_row_grows : (p : Piece) (row : Row) (rows : List Row) → Grows p (row ∷ rows) → Grows (with_row p row) rows
unfolding with_row
with_row_grows p row rows h =
    let s = sizes-cons row rows in
    let d = durations-cons row rows in
    let r = h.row in
    let t = h.time in
    let n : p.plain.bytes + sizes (row ∷ rows) ≡ p.plain.bytes + row.size + sizes rows = omega (arith, s) in
    record { row = omega (arith, r); time = omega (arith, d, t); low = h.low; high = subst (λ (n : ℕ). (p.plain.place +ℤ pos n) <ℤ pos (2 ^ 63)) n h.high }

pub after_has_room : (p : Piece) (rows : List Row) → Grows p rows → HasRoom (plain_end p.plain) rows
after_has_room p rows h = record {
  row = h.row;
  time = h.time;
  low = low_on p.plain.place p.plain.bytes h.low;
  high = high_on p.plain.place p.plain.bytes (sizes rows) h.high;
}
  where
    low_on : (z : ℤ) (n : ℕ) → pos 0 ≤ℤ (z +ℤ pos (2 ^ 31)) → pos 0 ≤ℤ ((z +ℤ pos n) +ℤ pos (2 ^ 31))
    low_on z n h = omega (arith, ints, h)

    high_on : (z : ℤ) (n m : ℕ) → (z +ℤ pos (n + m)) <ℤ pos (2 ^ 63) → ((z +ℤ pos n) +ℤ pos m) <ℤ pos (2 ^ 63)
    high_on z n m h = omega (arith, ints, h)

-- ---- the loop's step

pub grown_takes : (cut : Cut) (p : Piece) (last : Bool) (row : Row) (rows : List Row) → takes cut p last row ≡ true → grown cut p last (row ∷ rows) ≡ grown cut (with_row p row) (is_sync row.flags) rows
unfolding grown
grown_takes cut p last row rows e = rw e refl

-- a piece that has as many samples as it may has no more
pub grown_full : (cut : Cut) (p : Piece) (last : Bool) (rows : List Row) → nat_lt p.plain.count cut.samples ≡ false → grown cut p last rows ≡ p ∷ pieces_left cut (plain_end p.plain) rows
unfolding grown pieces_left takes
grown_full cut p last [] e = refl
grown_full cut p last (row ∷ rows) e = rw e refl

pub not_less : (n m : ℕ) → m ≤ n → nat_lt n m ≡ false
not_less n m h = by (nat_lt n m) refl
  where
    by : (t : Bool) → nat_lt n m ≡ t → nat_lt n m ≡ false
    by true e = absurd (omega (arith, leb-true (suc n) m e, h))
    by false e = e

-- where no row is left, the piece is the last
pub grown_none : (cut : Cut) (p : Piece) (last : Bool) (rows rest : List Row) → rows ≡ [] → rest ≡ [] → grown cut p last rows ≡ p ∷ pieces_left cut (plain_end p.plain) rest
unfolding grown pieces_left
grown_none cut p last rows rest none done = rw (none, done) refl

-- ---- where nothing but the number of samples bounds a piece

pub no_limits : (t : Bool) → (t && (true && (true && (true && true)))) ≡ t
no_limits true = refl
no_limits false = refl

takes_plain : (cut : Cut) (p : Piece) (last : Bool) (row : Row) → IsPlain cut → takes cut p last row ≡ nat_lt p.plain.count cut.samples
unfolding takes
takes_plain cut p last row is = rw (is.bytes, is.ticks, is.sync, is.keyframes) (no_limits (nat_lt p.plain.count cut.samples))

-- then it doesn't matter whether the last row is a sync sample
pub grown_any : (cut : Cut) (p : Piece) (last other : Bool) (rows : List Row) → IsPlain cut → grown cut p last rows ≡ grown cut p other rows
unfolding grown
grown_any cut p last other [] is = refl
grown_any cut p last other (row ∷ rows) is = rw (takes_plain cut p last row is, takes_plain cut p other row is) refl

pub grown_more : (cut : Cut) (p : Piece) (last : Bool) (row : Row) (rows : List Row) → IsPlain cut → nat_lt p.plain.count cut.samples ≡ true → grown cut p last (row ∷ rows) ≡ grown cut (with_row p row) last rows
grown_more cut p last row rows is more =
    grown_takes cut p last row rows (takes_plain cut p last row is ∙ more)
    ∙ grown_any cut (with_row p row) (is_sync row.flags) last rows is
