-- Only the code's own way; no public clause needs this.
-- How trafs without a tfdt are found that follow others of their track.
-- Some of their track_IDs are kept in order, with which of these were listed.
use Rattle.std.specs.Prelude.{ℕ, Bool, true, false, List, [], ◌∷◌, Option, Some, None, replicate, slice_set}
use Rattle.mp4_box.specs.Trees.{Box}
use Rattle.mp4_init.specs.OrderedIds.{sought}
use Rattle.mp4_frag.specs.Repeats.{traf_id}

abbrev pub marked_at : List Bool → Option ℕ → List Bool
marked_at seen None = seen
marked_at seen (Some k) = slice_set seen k true

-- each of these is marked at the place of its id, where it has one
unfoldable pub all_marked : List ℕ → List Bool → List Box → List Bool
all_marked ids seen [] = seen
all_marked ids seen (t ∷ ts) = all_marked ids (marked_at seen (sought ids (traf_id t))) ts

-- the marks after these
unfoldable pub marks : ℕ → List ℕ → List Box → List Bool
marks n ids ts = all_marked ids (replicate n false) ts
