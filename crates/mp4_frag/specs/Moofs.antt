-- Result of reading a moof: its trafs, its runs and its samples, or its fault.
use Rattle.std.specs.Prelude.{◌≡◌, ℕ, List, [], ◌∷◌, ◌++◌, Option, None, length}
use Rattle.std.specs.List.{flat_map}
use Rattle.std.specs.Option.{option_or, unwrap_or}
use Rattle.mp4_box.specs.declared.headers.Size.TheVariants.{ToEnd}
use Rattle.mp4_box.specs.declared.rules.Fault.{Fault}
use Rattle.mp4_box.specs.Checks.{along}
use Rattle.mp4_box.specs.Order.{least}
use Rattle.mp4_box.specs.Paths.{at_path}
use Rattle.mp4_box.specs.Trees.{Box, box_at, children, first_of, tree_faults, verdict}
use Rattle.mp4_init.specs.declared.table.Track.{Track}
use Rattle.mp4_init.specs.Moovs.{fault_of, or_else}
use Rattle.mp4_traf.specs.Fields.{payload_of}
use Rattle.mp4_traf.specs.Kinds.{mfhd, to_tfhd, to_trun}
use Rattle.mp4_frag.specs.Mfhd.{sequence_number}
use Rattle.mp4_frag.specs.Rules.{child_faults, count_faults, form_faults, samples_of}
use Rattle.mp4_traf.specs.Rules.{tfhd_faults, trun_faults}
use Rattle.mp4_frag.specs.Repeats.{repeat_faults}
use Rattle.mp4_traf.specs.Runs.{MoofBytes, TrackFragment, runs_of, trafs_by}
use Rattle.mp4_traf.specs.declared.run.Run.{Run}
use Rattle.mp4_traf.specs.TimeFaults.{time_faults_of}

-- an empty box, where the bytes are no box
abbrev pub no_box : Box
no_box = record { header = record { kind = record { 0 = [] }; user = None; size = ToEnd; header_len = 0 }; offset = 0; payload = [] }

-- the moof that the bytes are
abbrev pub moof_of : MoofBytes → Box
moof_of h = unwrap_or (box_at h.offset h.bytes) no_box

-- sequence_number of its mfhd
abbrev pub sequence_of : MoofBytes → ℕ
sequence_of h = sequence_number (payload_of (first_of (at_path (mfhd ∷ []) (moof_of h))))

-- its trafs, in order
abbrev pub moof_trafs : MoofBytes → List Track → List TrackFragment
moof_trafs h tracks = trafs_by h tracks (children (moof_of h))

-- its runs, in listing order
abbrev pub moof_runs : MoofBytes → List Track → List Run
moof_runs h tracks = flat_map runs_of (moof_trafs h tracks)

-- how many samples it has
abbrev pub moof_samples : MoofBytes → ℕ
moof_samples h = samples_of (moof_of h)

-- how many truns it has
abbrev pub moof_truns : MoofBytes → ℕ
moof_truns h = length (at_path to_trun (moof_of h))

-- ---- its fault

-- faults of the values of a moof whose boxes are as they must be, times aside
unfoldable pub value_faults : List Track → Box → List Fault
value_faults tracks m =
    child_faults m
    ++ repeat_faults m
    ++ along (tfhd_faults tracks) to_tfhd m
    ++ along trun_faults to_trun m
    ++ count_faults m

-- those of all trafs
abbrev pub time_faults : List TrackFragment → List Fault
time_faults ts = flat_map time_faults_of ts

-- the fault by all rules but the last, that of times: of its tree; else of its boxes; else of their values
unfoldable pub fault_before_times : MoofBytes → List Track → Option Fault
fault_before_times h tracks =
    option_or (fault_of (verdict (tree_faults h.offset h.bytes)))
    (option_or (least (form_faults (moof_of h))) (least (value_faults tracks (moof_of h))))

-- fault of the moof that the bytes are: times are checked only if all else is sound
abbrev pub moof_fault : MoofBytes → List Track → Option Fault
moof_fault h tracks = option_or (fault_before_times h tracks) (least (time_faults (moof_trafs h tracks)))

-- all its faults, as far as it is checked
abbrev pub moof_faults : MoofBytes → List Track → List Fault
moof_faults h tracks =
    or_else (tree_faults h.offset h.bytes) (or_else (form_faults (moof_of h)) (or_else (value_faults tracks (moof_of h)) (time_faults (moof_trafs h tracks))))

-- the moof was read without a fault, with these tracks
abbrev pub IsRead : MoofBytes → List Track → Type 0
IsRead h tracks = moof_fault h tracks ≡ None
