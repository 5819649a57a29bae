-- Cursors of a run: before a row, or after the last.
use Rattle.std.specs.Prelude.{pos, ◌<◌, ◌+◌, ◌^◌, ◌+ℤ◌, ◌≤ℤ◌, ◌<ℤ◌, List, length}
use Rattle.mp4_traf.specs.declared.run.Run.{Run}
use Rattle.mp4_traf.specs.declared.rows.Row.{Row}
use Rattle.mp4_traf.specs.declared.rows.Cursor.{Cursor}
use Rattle.mp4_traf.specs.Rows.{durations, sizes}

-- the cursor of the first row
abbrev pub first_cursor : Run → Cursor
first_cursor run = record { row = 0; time = run.time; place = run.place }

-- the cursor after a row
abbrev pub past : Cursor → Row → Cursor
past c row = record { row = c.row + 1; time = c.time + row.duration; place = c.place +ℤ pos row.size }

-- the numbers of these rows fit their types, from a cursor on
pub record HasRoom (c : Cursor) (rows : List Row) : Type 0 where
  pub row : c.row + length rows < 2 ^ 32
  pub time : c.time + durations rows < 2 ^ 64
  pub low : pos 0 ≤ℤ (c.place +ℤ pos (2 ^ 31))
  pub high : (c.place +ℤ pos (sizes rows)) <ℤ pos (2 ^ 63)
