-- Which samples fit in a piece.
use Rattle.std.specs.Prelude.{ℕ, ◌*◌, ◌/◌, Bool, true, not, ◌&&◌, ◌||◌, nat_le, List, [], ◌∷◌, length, drop, Option, Some, None, option_map}
use Rattle.std.specs.List.{list_all}
use Rattle.mp4_traf.specs.declared.rows.Row.{Row}
use Rattle.mp4_traf.specs.Rows.{durations, sizes}
use Rattle.mp4_traf.specs.SyncSamples.{is_sync}
use Rattle.mp4_pieces.specs.declared.cut.Cut.{Cut}

-- at most so many bytes, or just one sample
abbrev pub fits_bytes : Option ℕ → List Row → Bool
fits_bytes None rows = true
fits_bytes (Some most) rows = nat_le (length rows) 1 || nat_le (sizes rows) most

-- at most so many ticks, or just one sample
abbrev pub fits_ticks : Option ℕ → List Row → Bool
fits_ticks None rows = true
fits_ticks (Some most) rows = nat_le (length rows) 1 || nat_le (durations rows) most

-- no sync sample but the first, if that is asked for
abbrev pub fits_sync : Bool → List Row → Bool
fits_sync asked rows = not asked || list_all (λ row. not (is_sync row.flags)) (drop 1 rows)

-- no sync sample whose predecessor isn't one; `last` says whether the sample before these is one
abbrev pub no_start : (last : Bool) → List Row → Bool
no_start last [] = true
no_start last (row ∷ rows) = (last || not (is_sync row.flags)) && no_start (is_sync row.flags) rows

-- no sync sample after one that isn't, if that is asked for
abbrev pub fits_keyframes : Bool → List Row → Bool
fits_keyframes asked rows = not asked || no_start true rows

-- these samples fit in one piece
abbrev pub fits : Cut → List Row → Bool
fits cut rows = nat_le (length rows) cut.samples && (fits_bytes cut.bytes rows && (fits_ticks cut.ticks rows && (fits_sync cut.sync rows && fits_keyframes cut.keyframes rows)))

-- ---- the cut of a track

-- so many milliseconds in ticks of a timescale, which a second has so many of; rounded down
abbrev pub ticks_in : (timescale millis : ℕ) → ℕ
ticks_in timescale millis = millis * timescale / 1000

-- the same cut for the runs of a track with this timescale: its limit of milliseconds in ticks
abbrev pub cut_for : (timescale : ℕ) → Cut → Cut
cut_for timescale cut = record cut { ticks = option_map (ticks_in timescale) cut.duration }
