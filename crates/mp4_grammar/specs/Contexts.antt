-- The context of a fragmented stream where one of its boxes begins.
use Rattle.std.specs.Prelude.{ℕ, ◌*◌, List, length, Option, Some, None}
use Rattle.mp4_init.specs.declared.table.Track.{Track}

-- the offset of the box; the tracks, each with the time at which the last of its fragments ended; and the number of
-- the next fragment that is written. There are no tracks before the moov
pub record Context : Type 0 where
  pub at : ℕ
  pub tracks : Option (List Track)
  pub number : ℕ

abbrev pub context : ℕ → Option (List Track) → ℕ → Context
context at tracks number = record { at = at; tracks = tracks; number = number }

-- the context at the start of a stream
abbrev pub first_context : Context
first_context = context 0 None 1

-- how many bytes the table of the tracks takes
abbrev pub table_of : Option (List Track) → ℕ
table_of None = 0
table_of (Some tracks) = 64 * length tracks
