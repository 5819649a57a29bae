use Rattle.std.proofs.Common.{◌≡◌, ◌+◌, ◌++◌, length}
use Rattle.std.specs.Prelude.{map}
use Rattle.mp4_box.specs.Trees.{view}
use Rattle.mp4_box.specs.Paths.{of_kind}
use Rattle.mp4_init.specs.Kinds.{trak}
use Rattle.mp4_init.specs.Implementation.Rows.{node_of_row, track_of_row}
use Rattle.mp4_init.specs.Tracks.{track_of, tracks_of}
use Rattle.mp4_init.specs.Implementation.SearchTrees.{IsIndexed}
use Rattle.mp4_init.specs.Implementation.Summaries.{summaries_in}
use Rattle.mp4_init.proofs.build.push_tracks.Given as goal

-- the tracks so far, and those of the traks that are left
abbrev pub invariant-loop-trak : goal.invariant-loop-trak
invariant-loop-trak g l = record {
  tracks : map track_of_row l.rows.rows ++ map (track_of (view l.moov)) (of_kind trak l.trak-iterator) ≡ tracks_of (view l.moov);
  indexed : IsIndexed (map node_of_row l.rows.rows);
  room : length l.rows.rows + length (of_kind trak l.trak-iterator) ≡ l.rows.cap;
  added : l.slots.summaries.items ≡ summaries_in (view l.moov) l.slots.ids.items;
}
