-- The rules of a traf, each with the box that it speaks of (ISO/IEC 14496-12, 8.8.7, 8.8.8 and 8.8.12).
use Rattle.std.specs.Prelude.{ℕ, Bool, true, false, List, [], ◌∷◌, ◌++◌, Option, Some, None, ◌==◌, ◌&&◌, not, nat_lt, length, slice_get}
use Rattle.std.specs.List.{list_any, flat_map, position, sum_by}
use Rattle.std.specs.Option.{option_and_then}
use Rattle.std.specs.Str.{bytes_eq}
use Rattle.mp4_box.specs.declared.headers.FourCc.{FourCc}
use Rattle.mp4_box.specs.declared.rules.Fault.{Fault}
use Rattle.mp4_box.specs.declared.rules.Rule.{Rule}
use Rattle.mp4_box.specs.declared.rules.Rule.TheVariants.{FieldLength, Unsupported, BaseNotMoof, EmptyDuration, FlagsConflict, UnknownTrack, EntryIndex}
use Rattle.mp4_box.specs.Trees.{Box, children, fault_at}
use Rattle.mp4_box.specs.Checks.{fault_by}
use Rattle.mp4_init.specs.declared.table.Track.{Track}
use Rattle.mp4_traf.specs.Fields.{flags_in, number_or}
use Rattle.mp4_traf.specs.Tfhd.{counts_from_moof, duration_is_empty, fields_of, track_id}
use Rattle.mp4_traf.specs.Trun.{flags_conflict, sample_count, trun_broken}

-- the box is at fault by the rule where this holds
abbrev pub fault_if : Bool → Rule → Box → List Fault
fault_if true rule b = fault_at rule b ∷ []
fault_if false rule b = []

-- ---- lengths, and which children there are

-- the payload is as long as its flags say
abbrev pub tfhd_length : Box → List Fault
tfhd_length b = fault_if (not (length b.payload == (fields_of b.payload).len)) FieldLength b

-- it has a version, and is as long as its flags and its sample_count say
abbrev pub trun_length : Box → List Fault
trun_length b = fault_by (trun_broken b.payload) b

-- it is of one of these types
abbrev pub is_among : List FourCc → Box → Bool
is_among kinds b = list_any (λ (k : FourCc). bytes_eq b.header.kind.0 k.0) kinds

abbrev pub unsupported : List FourCc → Box → List Fault
unsupported kinds b = fault_if (not (is_among kinds b)) Unsupported b

-- the children of a box are of these types
abbrev pub holds_only : List FourCc → Box → List Fault
holds_only kinds b = flat_map (unsupported kinds) (children b)

-- ---- requirements of a tfhd and of a trun

-- the track with this track_ID
abbrev pub track_with : ℕ → List Track → Option Track
track_with id tracks = option_and_then (slice_get tracks) (position (λ (t : Track). t.id == id) tracks)

-- the index is that of a sample entry of the track, from 1 on
abbrev pub has_entry : Track → ℕ → Bool
has_entry t index = nat_lt 0 index && not (nat_lt t.entries index)

-- sample_description_index of a tfhd, else that of its track
abbrev pub entry_of : Track → List ℕ → ℕ
entry_of t payload = number_or payload (fields_of payload).sample_description_index t.desc

abbrev pub track_faults : Option Track → Box → List Fault
track_faults None b = fault_at UnknownTrack b ∷ []
track_faults (Some t) b = fault_if (not (has_entry t (entry_of t b.payload))) EntryIndex b

-- offsets that aren't relative to the moof, a duration without samples, and what is at fault with its track
unfoldable pub tfhd_faults : List Track → Box → List Fault
tfhd_faults tracks b =
    fault_if (not (counts_from_moof (flags_in b.payload))) BaseNotMoof b
    ++ fault_if (duration_is_empty (flags_in b.payload)) EmptyDuration b
    ++ track_faults (track_with (track_id b.payload) tracks) b

-- sample 0 has its flags from one place
abbrev pub trun_faults : Box → List Fault
trun_faults b = fault_if (flags_conflict (flags_in b.payload)) FlagsConflict b

-- ---- how many samples there are

-- the most samples of a moof
abbrev pub most_in_moof : ℕ
most_in_moof = 1000000

-- the samples of truns
abbrev pub samples_in : List Box → ℕ
samples_in truns = sum_by (λ (b : Box). sample_count b.payload) truns
