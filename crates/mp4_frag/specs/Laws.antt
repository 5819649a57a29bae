-- Definitions that only the laws need.
use Rattle.std.specs.Prelude.{◌≡◌, ℕ, ℤ, List, [], ◌∷◌, ◌+◌, ◌*◌, ◌<◌}
use Rattle.std.specs.List.{AllByRecursion}
use Rattle.mp4_box.specs.Trees.{Box, children}
use Rattle.mp4_box.specs.Paths.{of_kind}
use Rattle.mp4_init.specs.declared.table.Track.{Track}
use Rattle.mp4_traf.specs.declared.run.Run.{Run}
use Rattle.mp4_traf.specs.declared.rows.Row.{Row}
use Rattle.mp4_traf.specs.Kinds.{trun}
use Rattle.mp4_traf.specs.Fields.{flags_in}
use Rattle.mp4_traf.specs.Trun.{sample_count, sample_fields, trun_fields}
use Rattle.mp4_traf.specs.Rows.{row_from, row_of}
use Rattle.mp4_traf.specs.Runs.{MoofBytes, Shared, TrackFragment, run_of, shared_by, track_of, traf_of}
use Rattle.mp4_traf.specs.Settling.{ended}

-- where group i begins in the payload of a trun
abbrev pub group_in : List ℕ → ℕ → ℕ
group_in payload i = (trun_fields (flags_in payload)).samples + (sample_fields (flags_in payload)).len * i

-- row i of the run of a trun, in its payload
abbrev pub group_row : Run → List ℕ → ℕ → Row
group_row run payload i = row_from run payload i (group_in payload i)

-- each row of the run of a trun has the fields of its group
abbrev pub RowsAreGroups : Shared → Box → Type 0
RowsAreGroups s b = (time : ℕ) (last : ℤ) (i : ℕ) → i < sample_count b.payload → row_of (run_of s time last b) s.moof.bytes i ≡ group_row (run_of s time last b) b.payload i

-- the same for the truns of a traf
abbrev pub TrafRowsAreGroups : MoofBytes → List Track → Box → Type 0
TrafRowsAreGroups h tracks t = AllByRecursion (RowsAreGroups (shared_by h (track_of tracks t) t)) (of_kind trun (children t))

-- trafs one after the other: where one has no tfdt, it begins where the last traf of its track ended, in this moof or before it
unfoldable pub in_turn : MoofBytes → List Track → List Box → List TrackFragment
in_turn h tracks [] = []
in_turn h tracks (b ∷ bs) = traf_of h tracks b ∷ in_turn h (ended tracks (traf_of h tracks b)) bs
