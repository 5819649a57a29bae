-- Only the code's own way; no public clause needs this.
-- Computes where a traf ends.
use Rattle.std.specs.Prelude.{ℕ, List, [], ◌∷◌, ◌+◌, ◌≡◌}
use Rattle.mp4_box.specs.Trees.{Box}
use Rattle.mp4_traf.specs.Runs.{Shared, TrackFragment}
use Rattle.mp4_traf.specs.Implementation.Times.{ticks_in, late_from}

-- the end of truns
unfoldable pub ticks_from : Shared → ℕ → List Box → ℕ
ticks_from s time [] = time
ticks_from s time (b ∷ bs) = ticks_from s (time + ticks_in s b) bs

-- the runs of a traf end within 64 bits
abbrev pub EndsInTime : TrackFragment → Type 0
EndsInTime t = late_from t.shared t.time t.truns ≡ []
