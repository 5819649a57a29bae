-- Where a fragment sets the ends of tracks, their numbers still fit their fields.
use Rattle.std.proofs.Common.{ℕ, zero, suc, List, [], ◌∷◌, Option, None, Some}
use Rattle.std.specs.Prelude.{◌==◌}
use Rattle.std.specs.List.{AllByRecursion, position}
use Rattle.mp4_init.specs.declared.table.Track.{Track}
use Rattle.mp4_init.specs.Tracks.{with_next}
use Rattle.mp4_init.specs.TrackFields.{FitsTrackFields}
use Rattle.mp4_traf.specs.Runs.{TrackFragment, end_of}
use Rattle.mp4_traf.specs.Settling.{ended, ended_at, settled, with_end}

next_fits : (i n : ℕ) (ts : List Track) → AllByRecursion FitsTrackFields ts → AllByRecursion FitsTrackFields (with_next i n ts)
unfolding with_next
next_fits i n [] all = tt
next_fits zero n (t ∷ ts) all = (record { id = all.0.id; timescale = all.0.timescale; handler = all.0.handler; entries = all.0.entries; desc = all.0.desc; duration = all.0.duration; size = all.0.size; flags = all.0.flags }, all.1)
next_fits (suc i) n (t ∷ ts) all = (all.0, next_fits i n ts all.1)

at_fits : (o : Option ℕ) (n : ℕ) (ts : List Track) → AllByRecursion FitsTrackFields ts → AllByRecursion FitsTrackFields (ended_at o n ts)
at_fits None n ts all = all
at_fits (Some i) n ts all = next_fits i n ts all

pub end_fits : (id n : ℕ) (ts : List Track) → AllByRecursion FitsTrackFields ts → AllByRecursion FitsTrackFields (with_end id n ts)
end_fits id n ts all = at_fits (position (λ (t : Track). t.id == id) ts) n ts all

pub settled_fit : (ts : List Track) (fs : List TrackFragment) → AllByRecursion FitsTrackFields ts → AllByRecursion FitsTrackFields (settled ts fs)
settled_fit ts [] all = all
settled_fit ts (f ∷ fs) all = settled_fit (ended ts f) fs (end_fits f.shared.header.track (end_of f) ts all)
