-- What the lines of trafs are by the boxes of their moof and the rows of their samples.
use Rattle.std.specs.Prelude.{Bool, false, List, [], ◌∷◌}
use Rattle.std.specs.List.{flat_map}
use Rattle.mp4_box.specs.Paths.{of_kind}
use Rattle.mp4_box.specs.Trees.{Box, children}
use Rattle.mp4_frag.specs.Moofs.{moof_of}
use Rattle.mp4_traf.specs.Kinds.{traf}
use Rattle.mp4_traf.specs.Rows.{rows_of}
use Rattle.mp4_traf.specs.Runs.{TrackFragment, runs_of, traf_of}
use Rattle.mp4_traf.specs.SyncSamples.{is_sync}
use Rattle.mp4_traf.specs.declared.rows.Row.{Row}
use Rattle.mp4_traf.specs.declared.run.Run.{Run}
use Rattle.mp4_grammar.specs.FragmentLines.{listed_traf}
use Rattle.mp4_grammar.specs.Meanings.{Fragment}
use Rattle.mp4_grammar.specs.declared.listed_traf.ListedTraf.{ListedTraf}

-- the traf boxes of the moof of a fragment, in order
abbrev pub traf_boxes : Fragment → List Box
traf_boxes f = of_kind traf (children (moof_of f.moof))

-- the traf that is this box
abbrev pub traf_in : Fragment → Box → TrackFragment
traf_in f b = traf_of f.moof f.tracks b

-- its line
abbrev pub line_of : Fragment → Box → ListedTraf
line_of f b = listed_traf f (traf_in f b)

-- the rows of its samples, run after run
abbrev pub rows_in : Fragment → Box → List Row
rows_in f b = flat_map (λ (run : Run). rows_of run f.moof.bytes) (runs_of (traf_in f b))

-- there is a first row, and it is that of a sync sample
abbrev pub first_is_sync : List Row → Bool
first_is_sync [] = false
first_is_sync (row ∷ rows) = is_sync row.flags
