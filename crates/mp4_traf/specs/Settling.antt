-- Where the tracks end after a moof.
use Rattle.std.specs.Prelude.{ℕ, List, Option, Some, None, ◌==◌, if◌then◌else◌}
use Rattle.std.specs.List.{fold, position, sum_by}
use Rattle.mp4_box.specs.Trees.{Box}
use Rattle.mp4_box.specs.Paths.{at_path}
use Rattle.mp4_init.specs.declared.table.Track.{Track}
use Rattle.mp4_init.specs.Tracks.{with_next}
use Rattle.mp4_traf.specs.Kinds.{to_trun}
use Rattle.mp4_traf.specs.Fields.{flags_in}
use Rattle.mp4_traf.specs.Trun.{sample_count, sample_duration_present}
use Rattle.mp4_traf.specs.Runs.{TrackFragment, end_of}

-- the tracks, where the one at this place ended at `next`
abbrev pub ended_at : Option ℕ → ℕ → List Track → List Track
ended_at None next tracks = tracks
ended_at (Some i) next tracks = with_next i next tracks

-- the tracks, where the one with this track_ID ended at `next`
abbrev pub with_end : ℕ → ℕ → List Track → List Track
with_end id next tracks = ended_at (position (λ (t : Track). t.id == id) tracks) next tracks

-- after a traf its track has ended where the traf ends
abbrev pub ended : List Track → TrackFragment → List Track
ended tracks t = with_end t.shared.header.track (end_of t) tracks

-- after all trafs each track has ended where its last traf ends
abbrev pub settled : List Track → List TrackFragment → List Track
settled tracks ts = fold ended tracks ts

-- ---- the samples that have durations of their own

abbrev pub timed : List ℕ → ℕ
timed payload = if sample_duration_present (flags_in payload) then sample_count payload else 0

abbrev pub timed_in : List Box → ℕ
timed_in truns = sum_by (λ (b : Box). timed b.payload) truns

-- those of a moof
abbrev pub timed_of : Box → ℕ
timed_of m = timed_in (at_path to_trun m)
