-- Sums over the samples of a traf, and whether it begins with a sync sample.
use Rattle.std.specs.Prelude.{ℕ, ◌-◌, ◌==◌, Bool, false, if◌then◌else◌, List, [], ◌∷◌, Option, Some, None}
use Rattle.std.specs.List.{sum_by}
use Rattle.std.specs.Option.{option_or}
use Rattle.mp4_traf.specs.declared.run.Run.{Run}
use Rattle.mp4_traf.specs.declared.traf_totals.TrafTotals.{TrafTotals}
use Rattle.mp4_traf.specs.Rows.{row_of}
use Rattle.mp4_traf.specs.Runs.{TrackFragment, end_of, runs_of}
use Rattle.mp4_traf.specs.SyncSamples.{is_sync}

-- how many samples it has
abbrev pub samples_in_traf : TrackFragment → ℕ
samples_in_traf t = sum_by (λ (run : Run). run.count) (runs_of t)

-- their bytes, added up
abbrev pub bytes_in_traf : TrackFragment → ℕ
bytes_in_traf t = sum_by (λ (run : Run). run.bytes) (runs_of t)

-- their durations, added up: it ends so many ticks after its base time
abbrev pub duration_of : TrackFragment → ℕ
duration_of t = end_of t - t.time

-- flags of the first sample of a run, if it has one
abbrev pub flags_of_first : List ℕ → Run → Option ℕ
flags_of_first moof_bytes run = if run.count == 0 then None else Some (row_of run moof_bytes 0).flags

-- flags of the first sample of the first of these runs that has any
unfoldable pub first_flags : List ℕ → List Run → Option ℕ
first_flags moof_bytes [] = None
first_flags moof_bytes (run ∷ runs) = option_or (flags_of_first moof_bytes run) (first_flags moof_bytes runs)

-- whether there is a sample with these flags, and it is a sync sample
abbrev pub are_sync : Option ℕ → Bool
are_sync None = false
are_sync (Some flags) = is_sync flags

-- its first sample is a sync sample
abbrev pub begins_with_sync : TrackFragment → Bool
begins_with_sync t = are_sync (first_flags t.shared.moof.bytes (runs_of t))

-- its track, its base time and its sums
abbrev pub totals_of : TrackFragment → TrafTotals
totals_of t = record {
  track = t.shared.header.track;
  time = t.time;
  duration = duration_of t;
  samples = samples_in_traf t;
  bytes = bytes_in_traf t;
  sync = begins_with_sync t;
}
