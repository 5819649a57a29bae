-- The rules of a moov, each with the boxes that it speaks of (ISO/IEC 14496-12, 8.2.1 to 8.8.3).
use Rattle.std.specs.Prelude.{ℕ, Bool, false, List, [], ◌∷◌, ◌++◌, ◌==◌, codes, nat_lt, if◌then◌else◌, length, filter}
use Rattle.mp4_box.specs.declared.headers.FourCc.{FourCc}
use Rattle.mp4_box.specs.declared.rules.Fault.{Fault}
use Rattle.mp4_box.specs.declared.rules.Rule.TheVariants.{FieldLength, SamplesInMoov, UnknownTrack}
use Rattle.mp4_box.specs.Trees.{Box, fault_at}
use Rattle.mp4_box.specs.declared.checks.Layout.TheVariants.{Versioned, Exactly, AtLeast}
use Rattle.mp4_box.specs.Checks.{along, laid_out, one}
use Rattle.mp4_box.specs.Fields.{number_in}
use Rattle.mp4_box.specs.Paths.{at_path}
use Rattle.mp4_init.specs.Kinds.{kind, trak, tkhd, mdia, mdhd, minf, stbl, stsd, mvex, to_stbl, to_tkhd, to_trex}
use Rattle.mp4_init.specs.Fields.{has_entries, tkhd_id, trex_id}

-- ---- requirements of one box

-- an stsd must have its count, and after it so many entries
abbrev pub entries_faults : Box → List Fault
entries_faults b =
    if nat_lt (length b.payload) 8 then fault_at FieldLength b ∷ []
    else if has_entries b then [] else fault_at FieldLength b ∷ []

-- the count at this place must be 0
abbrev pub no_samples : ℕ → Box → List Fault
no_samples at b = if number_in b.payload at == 0 then [] else fault_at SamplesInMoov b ∷ []

-- those with this track_ID
abbrev pub with_id : (Box → ℕ) → ℕ → List Box → List Box
with_id id_of id bs = filter (λ b. id_of b == id) bs

-- the tkhds of a moov with this track_ID
abbrev pub tkhds_of : Box → ℕ → List Box
tkhds_of moov id = with_id tkhd_id id (at_path to_tkhd moov)

-- the trexes of a moov with this track_ID
abbrev pub trexes_of : Box → ℕ → List Box
trexes_of moov id = with_id trex_id id (at_path to_trex moov)

-- those that begin before the offset
abbrev pub before : ℕ → List Box → List Box
before offset bs = filter (λ b. nat_lt b.offset offset) bs

-- no tkhd that begins before this one has its track_ID, and just one trex has it
unfoldable pub is_known : Box → Box → Bool
is_known moov b =
    if length (before b.offset (tkhds_of moov (tkhd_id b))) == 0
    then length (trexes_of moov (tkhd_id b)) == 1
    else false

abbrev pub known : Box → Box → List Fault
known moov b = if is_known moov b then [] else fault_at UnknownTrack b ∷ []

-- ---- requirements of a moov

-- boxes that are missing, or occur a second time
unfoldable pub number_faults : Box → List Fault
number_faults m =
    along (one mvex) [] m
    ++ along (one tkhd) (trak ∷ []) m
    ++ along (one mdia) (trak ∷ []) m
    ++ along (one mdhd) (trak ∷ mdia ∷ []) m
    ++ along (one minf) (trak ∷ mdia ∷ []) m
    ++ along (one stbl) (trak ∷ mdia ∷ minf ∷ []) m
    ++ along (one stsd) to_stbl m

-- the path to a table of samples
abbrev pub below_stbl : List ℕ → List FourCc
below_stbl letters = trak ∷ mdia ∷ minf ∷ stbl ∷ kind letters ∷ []

-- boxes whose version or length is wrong
unfoldable pub field_faults : Box → List Fault
field_faults m =
    along (laid_out (Versioned 84 96)) to_tkhd m
    ++ along (laid_out (Versioned 24 36)) (trak ∷ mdia ∷ mdhd ∷ []) m
    ++ along (entries_faults) (below_stbl (codes "stsd")) m
    ++ along (laid_out (AtLeast 8)) (below_stbl (codes "stts")) m
    ++ along (laid_out (AtLeast 8)) (below_stbl (codes "stsc")) m
    ++ along (laid_out (AtLeast 8)) (below_stbl (codes "stco")) m
    ++ along (laid_out (AtLeast 8)) (below_stbl (codes "co64")) m
    ++ along (laid_out (AtLeast 12)) (below_stbl (codes "stsz")) m
    ++ along (laid_out (AtLeast 12)) (below_stbl (codes "stz2")) m
    ++ along (laid_out (Exactly 24)) to_trex m

-- tables of samples
unfoldable pub sample_faults : Box → List Fault
sample_faults m =
    along (no_samples 4) (below_stbl (codes "stts")) m
    ++ along (no_samples 4) (below_stbl (codes "stsc")) m
    ++ along (no_samples 4) (below_stbl (codes "stco")) m
    ++ along (no_samples 4) (below_stbl (codes "co64")) m
    ++ along (no_samples 8) (below_stbl (codes "stsz")) m
    ++ along (no_samples 8) (below_stbl (codes "stz2")) m

-- tracks whose track_ID an earlier one has, or that haven't just one trex
unfoldable pub track_faults : Box → List Fault
track_faults m = along (known m) to_tkhd m
