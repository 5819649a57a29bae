-- Only the code's own way; no public clause needs this.
-- Pieces of which only the number of their samples need be known.
use Rattle.std.specs.Prelude.{◌≡◌, ◌⊎◌, ◌<◌, ◌≤◌, ◌+◌, ℕ, true, false, List, take, drop, None}
use Rattle.std.specs.List.{AllByRecursion}
use Rattle.mp4_traf.specs.declared.run.Run.{Run}
use Rattle.mp4_traf.specs.declared.rows.Row.{Row}
use Rattle.mp4_traf.specs.declared.rows.Cursor.{Cursor}
use Rattle.mp4_traf.specs.Rows.{durations, rows_of}
use Rattle.mp4_pieces.specs.declared.cut.Cut.{Cut}
use Rattle.mp4_pieces.specs.Bounds.{LastsAs}
use Rattle.mp4_pieces.specs.Fitting.{cut_for, fits}

-- nothing but the number of samples bounds a piece
pub record IsPlain (cut : Cut) : Type 0 where
  pub bytes : cut.bytes ≡ None
  pub ticks : cut.ticks ≡ None
  pub sync : cut.sync ≡ false
  pub keyframes : cut.keyframes ≡ false

-- the samples of the run fit in a piece of the one cut where they fit in one of the other for its timescale
abbrev pub CutsAs : Cut → Run → Cut → Type 0
CutsAs cut run own = (rows : List Row) → AllByRecursion (LastsAs run) rows → fits own rows ≡ fits (cut_for run.timescale cut) rows

-- so many of these rows, at most `most`, last no longer than so many ticks, or are one, and no more do
pub record LastsWithin (ticks most : ℕ) (rows : List Row) (count : ℕ) : Type 0 where
  pub some : 0 < count
  pub few : count ≤ most
  pub within : (count ≤ 1) ⊎ (durations (take count rows) ≤ ticks)
  pub full : count < most → ticks < durations (take (count + 1) rows)

-- the first piece from the cursor on has so many samples: they fit, and with one more they wouldn't
pub record IsFirst (cut : Cut) (moof_bytes : List ℕ) (run : Run) (c : Cursor) (count : ℕ) : Type 0 where
  pub some : 0 < count
  pub within : c.row + count ≤ run.count
  pub fit : fits (cut_for run.timescale cut) (take count (drop c.row (rows_of run moof_bytes))) ≡ true
  pub full : c.row + count < run.count → fits (cut_for run.timescale cut) (take (count + 1) (drop c.row (rows_of run moof_bytes))) ≡ false
