-- When the first of some samples is presented, and how many of them are sync samples.
use Rattle.std.specs.Prelude.{ℕ, ℤ, Bool, true, false, List}
use Rattle.std.specs.List.{flat_map, sum_by}
use Rattle.mp4_traf.specs.CompositionTimes.{composition_times, least_of}
use Rattle.mp4_traf.specs.Rows.{rows_of}
use Rattle.mp4_traf.specs.Runs.{TrackFragment, runs_of}
use Rattle.mp4_traf.specs.SyncSamples.{is_sync}
use Rattle.mp4_traf.specs.declared.rows.Row.{Row}
use Rattle.mp4_traf.specs.declared.run.Run.{Run}
use Rattle.mp4_grammar.specs.declared.presented.Presented.{Presented}

-- the least composition time of samples, less the decode time of the first; 0 where there is none
abbrev pub earliest_in : List Row → ℤ
earliest_in rows = least_of (composition_times 0 rows)

-- 1 where something is so, else 0
abbrev pub once_if : Bool → ℕ
once_if true = 1
once_if false = 0

-- how many are sync samples
abbrev pub syncs_in : List Row → ℕ
syncs_in rows = sum_by (λ (row : Row). once_if (is_sync row.flags)) rows

-- the rows of some runs, run after run
abbrev pub all_rows : List ℕ → List Run → List Row
all_rows moof_bytes runs = flat_map (λ (run : Run). rows_of run moof_bytes) runs

abbrev pub presented_in : List Row → Presented
presented_in rows = record { earliest = earliest_in rows; syncs = syncs_in rows }

-- those of the samples of a traf
abbrev pub presented_of : TrackFragment → Presented
presented_of t = presented_in (all_rows t.shared.moof.bytes (runs_of t))
