-- Cursors of a run, and what is left from them on.
use Rattle.std.proofs.Common.{◌≡◌, ℕ, ℤ, pos, ◌+◌, ◌<◌, ◌^◌, List, ◌∷◌, length, take, drop, ap, refl, sym, ◌∙◌, arith}
use Rattle.std.specs.Prelude.{◌+ℤ◌, ◌≤ℤ◌, ◌<ℤ◌}
use Rattle.std.proofs.lemmas.Int.{ints}
use Rattle.std.proofs.lemmas.List.{length-drop}
use Rattle.std.proofs.lemmas.List.Sums.{sum_by-cons, sum_by-take-drop}
use Rattle.mp4_traf.specs.declared.run.Run.{Run}
use Rattle.mp4_traf.specs.declared.rows.Row.{Row}
use Rattle.mp4_traf.specs.declared.rows.Cursor.{Cursor}
use Rattle.mp4_traf.specs.Rows.{IsCursor, durations, rows_of, sizes}
use Rattle.mp4_traf.proofs.RowLemmas.{length_rows_of}
use Rattle.mp4_traf.specs.Ranges.{IsRunOf}
use Rattle.mp4_traf.specs.Cursors.{HasRoom, past}

-- a place that is not too low, and one that is not too high
low_on : (z y : ℤ) (n : ℕ) → y ≡ z +ℤ pos n → pos 0 ≤ℤ (z +ℤ pos (2 ^ 31)) → pos 0 ≤ℤ (y +ℤ pos (2 ^ 31))
low_on z y n e h = omega (arith, ints, e, h)

high_on : (z y : ℤ) (n m all : ℕ) → y ≡ z +ℤ pos n → n + m ≡ all → (z +ℤ pos all) <ℤ pos (2 ^ 63) → (y +ℤ pos m) <ℤ pos (2 ^ 63)
high_on z y n m all e sum h = omega (arith, ints, e, sum, h)

-- the numbers of what is left from a cursor on fit their types
pub cursor_has_room : (moof_bytes : List ℕ) (run : Run) (c : Cursor) → IsRunOf moof_bytes run → IsCursor run moof_bytes c → HasRoom c (drop c.row (rows_of run moof_bytes))
cursor_has_room moof_bytes run c of at =
    let rows : List Row = rows_of run moof_bytes in
    let n : length rows ≡ run.count = length_rows_of run moof_bytes in
    let ticks = sum_by-take-drop (λ (r : Row). r.duration) rows c.row in
    let bytes : sizes (take c.row rows) + sizes (drop c.row rows) ≡ run.bytes = sum_by-take-drop (λ (r : Row). r.size) rows c.row ∙ sym of.bytes in
    let few = of.few in
    let end = of.end in
    let in_range = of.range.end in
    let row = at.row in
    let time = at.time in
    record {
      row = omega (arith, length-drop c.row rows, n, few, row);
      time = omega (arith, ticks, end, in_range, time);
      low = low_on run.place c.place (sizes (take c.row rows)) at.place of.range.low;
      high = high_on run.place c.place (sizes (take c.row rows)) (sizes (drop c.row rows)) run.bytes at.place bytes of.range.high;
    }

-- ---- a row has room, and so has what is left after it

next_on : (z : ℤ) (n m all : ℕ) → n + m ≡ all → (z +ℤ pos all) <ℤ pos (2 ^ 63) → (z +ℤ pos n) <ℤ pos (2 ^ 63)
next_on z n m all sum h = omega (arith, ints, sum, h)

module _ (c : Cursor) (row : Row) (rest rows : List Row) (e : rows ≡ row ∷ rest) (h : HasRoom c rows) where
  more_ticks : durations rows ≡ row.duration + durations rest
  more_ticks = ap durations e ∙ sum_by-cons (λ (r : Row). r.duration) row rest

  more_bytes : sizes rows ≡ row.size + sizes rest
  more_bytes = ap sizes e ∙ sum_by-cons (λ (r : Row). r.size) row rest

  pub row_fits : c.row + 1 < 2 ^ 32
  row_fits = omega (arith, h.row, ap length e)

  pub time_fits : c.time + row.duration < 2 ^ 64
  time_fits = omega (arith, h.time, more_ticks)

  pub place_fits : (c.place +ℤ pos row.size) <ℤ pos (2 ^ 63)
  place_fits = next_on c.place row.size (sizes rest) (sizes rows) (sym more_bytes) h.high

  pub room_on : HasRoom (past c row) rest
  room_on = record {
    row = omega (arith, h.row, ap length e);
    time = omega (arith, h.time, more_ticks);
    low = low_on c.place (past c row).place row.size refl h.low;
    high = high_on c.place (past c row).place row.size (sizes rest) (sizes rows) refl (sym more_bytes) h.high;
  }

-- a cursor stays in range from row to row
pub ruleset fits = (row_fits, time_fits, place_fits)
