-- Only the code's own way; no public clause needs this.
-- The summary of one track_ID in a moov, gathered box by box.
use Rattle.std.specs.Prelude.{ℕ, List, [], ◌∷◌, Option, Some, None, length, replicate, slice_set, slice_index_or, ◌==◌, ◌-◌, ◌^◌, nat_lt, if◌then◌else◌}
use Rattle.mp4_box.specs.Trees.{Box}
use Rattle.mp4_box.specs.Paths.{at_path}
use Rattle.mp4_init.specs.OrderedIds.{sought}
use Rattle.mp4_init.specs.declared.summary.Summary.{Summary}
use Rattle.mp4_init.specs.declared.summary.Source.{Source}
use Rattle.mp4_init.specs.declared.summary.Source.TheVariants.{Tkhd, Trex}
use Rattle.mp4_init.specs.Kinds.{to_tkhd, to_trex}
use Rattle.mp4_init.specs.Fields.{tkhd_id, trex_id}
use Rattle.mp4_init.specs.Tracks.{defaults_of}

-- the summary before any box
abbrev pub empty_summary : Summary
empty_summary = record { first = 2 ^ 64 - 1; trexes = 0; defaults = record { desc = 0; duration = 0; size = 0; flags = 0 } }

abbrev pub id_by : Source → Box → ℕ
id_by Tkhd b = tkhd_id b
id_by Trex b = trex_id b

-- with one more box of the track_ID: the least offset of its tkhds; none, one or more of its trexes, and the defaults of the first
abbrev pub added : Source → Summary → Box → Summary
added Tkhd s b = record s { first = if nat_lt b.offset s.first then b.offset else s.first }
added Trex s b = if s.trexes == 0 then record s { trexes = 1; defaults = defaults_of (Some b) } else record s { trexes = 2 }

-- with one more box, whatever track_ID it has
abbrev pub added_if : Source → ℕ → Summary → Box → Summary
added_if source id s b = if id_by source b == id then added source s b else s

-- with all of these boxes that have the track_ID
unfoldable pub gathered : Source → ℕ → Summary → List Box → Summary
gathered source id s [] = s
gathered source id s (b ∷ bs) = gathered source id (added_if source id s b) bs

-- the summary of the track_ID in the moov
unfoldable pub summary_in : Box → ℕ → Summary
summary_in moov id = gathered Trex id (gathered Tkhd id empty_summary (at_path to_tkhd moov)) (at_path to_trex moov)

-- ---- of many track_IDs at once

-- those of the tkhds that begin at an offset or after it
unfoldable pub ids_from : ℕ → List Box → List ℕ
ids_from from [] = []
ids_from from (b ∷ bs) = if nat_lt b.offset from then ids_from from bs else tkhd_id b ∷ ids_from from bs

-- a box is added to the summary of its track_ID, if that has a place
abbrev pub added_at : Source → Box → List Summary → Option ℕ → List Summary
added_at source b xs None = xs
added_at source b xs (Some k) = slice_set xs k (added source (slice_index_or xs k empty_summary) b)

unfoldable pub all_added : Source → List ℕ → List Summary → List Box → List Summary
all_added source ids xs [] = xs
all_added source ids xs (b ∷ bs) = all_added source ids (added_at source b xs (sought ids (id_by source b))) bs

-- the summaries of the ids, with all boxes of the moov added
unfoldable pub summaries_in : Box → List ℕ → List Summary
summaries_in moov ids = all_added Trex ids (all_added Tkhd ids (replicate (length ids) empty_summary) (at_path to_tkhd moov)) (at_path to_trex moov)
