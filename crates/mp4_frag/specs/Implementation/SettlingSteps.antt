-- Only the code's own way; no public clause needs this.
-- Computes where the tracks end after a moof: traf after traf, with the tracks as they are.
use Rattle.std.specs.Prelude.{List, [], ◌∷◌}
use Rattle.mp4_box.specs.Trees.{Box}
use Rattle.mp4_init.specs.declared.table.Track.{Track}
use Rattle.mp4_traf.specs.Runs.{MoofBytes, traf_of}
use Rattle.mp4_traf.specs.Settling.{ended}
use Rattle.mp4_traf.specs.Implementation.Ends.{EndsInTime}

unfoldable pub settled_on : MoofBytes → List Track → List Box → List Track
settled_on h tracks [] = tracks
settled_on h tracks (b ∷ bs) = settled_on h (ended tracks (traf_of h tracks b)) bs

-- the same for all these trafs, one after the other
unfoldable pub EachInTime : MoofBytes → List Track → List Box → Type 0
EachInTime h tracks [] = Unit {0}
EachInTime h tracks (b ∷ bs) = EndsInTime (traf_of h tracks b) × EachInTime h (ended tracks (traf_of h tracks b)) bs
