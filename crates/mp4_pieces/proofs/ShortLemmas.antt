-- How long pieces last where there is a limit in milliseconds.
use Rattle.std.proofs.Common.{◌≡◌, ℕ, ◌<◌, ◌≤◌, ◌*◌, ◌/◌, true, List, [], ◌∷◌, drop, Option, Some, None, sym, ap, ◌∙◌, arith, inl, inr}
use Rattle.std.specs.Prelude.{option_map}
use Rattle.std.specs.List.{AllByRecursion}
use Rattle.mp4_traf.specs.declared.run.Run.{Run}
use Rattle.mp4_traf.specs.declared.rows.Row.{Row}
use Rattle.mp4_traf.specs.declared.rows.Cursor.{Cursor}
use Rattle.mp4_traf.specs.Cursors.{first_cursor}
use Rattle.mp4_traf.specs.Rows.{rows_of}
use Rattle.mp4_pieces.specs.declared.cut.Cut.{Cut}
use Rattle.mp4_pieces.specs.declared.piece.Piece.{Piece}
use Rattle.mp4_pieces.specs.Fitting.{cut_for, fits, ticks_in}
use Rattle.mp4_pieces.specs.Pieces.{cut_rows, past_rows, piece_at, pieces_at, pieces_of}
use Rattle.mp4_pieces.proofs.CutLemmas.{pieces_are}
use Rattle.mp4_pieces.proofs.FitLemmas.{is_limit}
use Rattle.mp4_pieces.proofs.WhatFitsLemmas.{fits_means}

-- a piece of more than one sample lasts at most so many ticks
abbrev pub IsShort : ℕ → Piece → Type 0
IsShort most p = 1 < p.plain.count → p.plain.duration ≤ most

short_at : (own : Cut) (most : ℕ) (c : Cursor) (q : List (List Row)) → own.ticks ≡ Some most → AllByRecursion (λ (rows : List Row). fits own rows ≡ true) q → AllByRecursion (IsShort most) (pieces_at c q)
unfolding pieces_at piece_at
short_at own most c [] is fit = tt
short_at own most c (rows ∷ q) is fit = (
  λ more. elim ((fits_means own rows fit.0).ticks most is) [ inl one ↦ absurd (omega (arith, one, more)) | inr few ↦ few ],
  short_at own most (past_rows c rows) q is fit.1,
)

pub all_short : (cut : Cut) (moof_bytes : List ℕ) (run : Run) (millis : ℕ) → cut.duration ≡ Some millis → AllByRecursion (IsShort (ticks_in run.timescale millis)) (pieces_of cut moof_bytes run)
all_short cut moof_bytes run millis is =
    let own : Cut = cut_for run.timescale cut in
    let rows : List Row = drop 0 (rows_of run moof_bytes) in
    short_at own (ticks_in run.timescale millis) (first_cursor run) (cut_rows own rows) (ap (option_map (ticks_in run.timescale)) is) (pieces_are (fits own) rows (is_limit own)).fit

rounded : (d n : ℕ) → d ≤ n / 1000 → 1000 * d ≤ n
rounded d n h = omega (arith, h)

in_time : (n : ℕ) (ps : List Piece) → AllByRecursion (IsShort (n / 1000)) ps → AllByRecursion (λ (p : Piece). 1 < p.plain.count → 1000 * p.plain.duration ≤ n) ps
in_time n [] all = tt
in_time n (p ∷ ps) all = (λ more. rounded p.plain.duration n (all.0 more), in_time n ps all.1)

pub all_in_time : (cut : Cut) (moof_bytes : List ℕ) (run : Run) (millis : ℕ) → cut.duration ≡ Some millis → AllByRecursion (λ (p : Piece). 1 < p.plain.count → 1000 * p.plain.duration ≤ millis * run.timescale) (pieces_of cut moof_bytes run)
all_in_time cut moof_bytes run millis is = in_time (millis * run.timescale) (pieces_of cut moof_bytes run) (all_short cut moof_bytes run millis is)

pub without_time : (cut : Cut) (timescale : ℕ) (rows : List Row) → cut.duration ≡ None → cut.ticks ≡ None → cut_rows (cut_for timescale cut) rows ≡ cut_rows cut rows
without_time cut timescale rows none no_ticks =
    let same : option_map (ticks_in timescale) cut.duration ≡ cut.ticks = ap (option_map (ticks_in timescale)) none ∙ sym no_ticks in
    ap (λ (o : Option ℕ). cut_rows (record cut { ticks = o }) rows) same
