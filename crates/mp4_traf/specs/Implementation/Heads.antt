-- Only the code's own way; no public clause needs this.
-- Where the tfhd of a traf is, and its track.
use Rattle.std.specs.Prelude.{◌-◌, ℕ, List, [], ◌∷◌, ◌<◌, ◌^◌, Option, Some, None}
use Rattle.mp4_box.specs.Trees.{Box, first_of}
use Rattle.mp4_init.specs.declared.table.Track.{Track}
use Rattle.mp4_traf.specs.Kinds.{tfhd}
use Rattle.mp4_traf.specs.Runs.{known_track}
use Rattle.mp4_traf.specs.Tfhd.{track_id}
use Rattle.mp4_box.specs.Paths.{at_path}

-- the offset of the tfhd of a traf, past any stream where there is none
abbrev pub offset_or_none : Option Box → ℕ
offset_or_none None = 2 ^ 64 - 1
offset_or_none (Some b) = b.offset

abbrev pub tfhd_at : Box → ℕ
tfhd_at t = offset_or_none (first_of (at_path (tfhd ∷ []) t))

-- a tfhd whose track has a default duration of 32 bits
abbrev pub HasTicks : List Track → Box → Type 0
HasTicks tracks b = (known_track (track_id b.payload) tracks).duration < 2 ^ 32
