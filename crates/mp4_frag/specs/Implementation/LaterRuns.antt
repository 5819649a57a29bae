-- Only the code's own way; no public clause needs this.
-- How the runs after a run are found, by where its trun and its traf end.
use Rattle.std.specs.Prelude.{ℕ, List, ◌+◌, ◌++◌, length, slice_range}
use Rattle.std.specs.List.{flat_map}
use Rattle.mp4_box.specs.Trees.{Box, boxes}
use Rattle.mp4_box.specs.Paths.{of_kind}
use Rattle.mp4_init.specs.declared.table.Track.{Track}
use Rattle.mp4_traf.specs.declared.run.Run.{Run}
use Rattle.mp4_traf.specs.declared.traf.TrafHeader.{TrafHeader}
use Rattle.mp4_traf.specs.Kinds.{trun}
use Rattle.mp4_traf.specs.Runs.{MoofBytes, Shared, TrackFragment, end_place, runs_from, runs_of, trafs_by}

-- the boxes between two places of a moof
abbrev pub boxes_between : MoofBytes → ℕ → ℕ → List Box
boxes_between h from to = boxes (h.offset + from) (slice_range h.bytes from to)

abbrev pub header_after : Run → TrafHeader
header_after run = record { track = run.track; timescale = run.timescale; entry = run.entry; duration = run.duration; size = run.size; flags = run.flags }

abbrev pub shared_after : MoofBytes → Run → Shared
shared_after h run = record { moof = h; header = header_after run; ends_at = run.traf_ends_at }

-- the runs after it in its traf
unfoldable pub runs_after : MoofBytes → Run → List Run
runs_after h run = runs_from (shared_after h run) run.end (end_place run) (of_kind trun (boxes_between h run.ends_at run.traf_ends_at))

-- the trafs after its traf
unfoldable pub trafs_after : MoofBytes → List Track → Run → List TrackFragment
trafs_after h tracks run = trafs_by h tracks (boxes_between h run.traf_ends_at (length h.bytes))

-- all runs after it
abbrev pub all_after : MoofBytes → List Track → Run → List Run
all_after h tracks run = runs_after h run ++ flat_map runs_of (trafs_after h tracks run)
