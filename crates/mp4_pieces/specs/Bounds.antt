-- What bounds the pieces of a run.
use Rattle.std.specs.Prelude.{◌≡◌, ◌<◌, ℕ, false, nat_le, List, length, None, Some}
use Rattle.std.specs.List.{AllByRecursion}
use Rattle.mp4_traf.specs.declared.run.Run.{Run}
use Rattle.mp4_traf.specs.declared.rows.Row.{Row}
use Rattle.mp4_pieces.specs.declared.bound.Bound.{Bound}
use Rattle.mp4_pieces.specs.declared.bound.Bound.TheVariants.{Samples, Ticks, Rows}
use Rattle.mp4_pieces.specs.declared.cut.Cut.{Cut}
use Rattle.mp4_pieces.specs.Fitting.{cut_for, fits}

-- neither the bytes of samples bound a piece, nor which of them are sync samples
pub record IsBySums (cut : Cut) : Type 0 where
  pub bytes : cut.bytes ≡ None
  pub sync : cut.sync ≡ false
  pub keyframes : cut.keyframes ≡ false

-- where the samples of the run have no duration of their own, this one lasts as long as each
abbrev pub LastsAs : Run → Row → Type 0
LastsAs run row = run.fields.sample_duration ≡ None → row.duration ≡ run.duration

-- samples of the run fit in a piece exactly where they are at most so many
pub record IsCounted (cut : Cut) (run : Run) (most : ℕ) : Type 0 where
  pub some : 0 < most
  pub counts : (rows : List Row) → AllByRecursion (LastsAs run) rows → fits (cut_for run.timescale cut) rows ≡ nat_le (length rows) most

-- they fit by their number and their ticks
pub record IsTimed (cut : Cut) (run : Run) (most : ℕ) : Type 0 where
  pub sums : IsBySums cut
  pub ticks : (cut_for run.timescale cut).ticks ≡ Some most

-- this is what bounds the pieces of the run
abbrev pub IsBound : Cut → Run → Bound → Type 0
IsBound cut run (Samples most) = IsCounted cut run most
IsBound cut run (Ticks most) = IsTimed cut run most
IsBound cut run Rows = Unit {0}
