-- Only the code's own way; no public clause needs this.
-- Computes which runs end past 64 bits, without their places.
use Rattle.std.specs.Prelude.{ℕ, pos, List, [], ◌∷◌, ◌++◌, ◌+◌, ◌^◌, nat_lt, if◌then◌else◌, Some}
use Rattle.mp4_box.specs.declared.rules.Fault.{Fault}
use Rattle.mp4_box.specs.declared.rules.Rule.TheVariants.{TimeRange}
use Rattle.mp4_box.specs.Trees.{Box}
use Rattle.mp4_traf.specs.Kinds.{trun}
use Rattle.mp4_traf.specs.Rows.{rows_of, durations}
use Rattle.mp4_traf.specs.Runs.{Shared, run_at}

-- the durations of a run, which don't depend on its time or its place
unfoldable pub ticks_in : Shared → Box → ℕ
ticks_in s b = durations (rows_of (run_at s 0 (pos 0) b) s.moof.bytes)

abbrev pub late_trun : Box → Fault
late_trun b = record { rule = TimeRange; kind = Some trun; offset = b.offset }

abbrev pub late_at : ℕ → Box → List Fault
late_at end b = if nat_lt end (2 ^ 64) then [] else late_trun b ∷ []

-- which of these truns end past 64 bits, where the first begins at a time
unfoldable pub late_from : Shared → ℕ → List Box → List Fault
late_from s time [] = []
late_from s time (b ∷ bs) = late_at (time + ticks_in s b) b ++ late_from s (time + ticks_in s b) bs
