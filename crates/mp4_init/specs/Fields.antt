-- The fields of the boxes that are read in a moov, and the sample entries of an stsd (ISO/IEC 14496-12, 8.3.2, 8.4.2, 8.5.2, 8.8.3).
use Rattle.std.specs.Prelude.{ℕ, Bool, true, false, List, [], ◌∷◌, ◌==◌, ◌+◌, ◌-◌, nat_lt, if◌then◌else◌, length, drop}
use Rattle.mp4_box.specs.Fields.{number_in, version_in}
use Rattle.mp4_box.specs.Trees.{Box, boxes, payload_offset}

-- the field after the times of a tkhd or mdhd, which have 32 bits at version 0 and else 64: track_ID, or timescale
abbrev pub after_times : Box → ℕ
after_times b = number_in b.payload (if version_in b.payload == 0 then 12 else 20)

-- track_ID of a tkhd
abbrev pub tkhd_id : Box → ℕ
tkhd_id b = after_times b

-- track_ID of a trex
abbrev pub trex_id : Box → ℕ
trex_id b = number_in b.payload 4

-- there are at least n boxes, and the first n of them have payloads of eight bytes or more, as each sample entry has
unfoldable pub begin_with : ℕ → List Box → Bool
begin_with n [] = n == 0
begin_with n (b ∷ bs) = if n == 0 then true else if nat_lt (length b.payload) 8 then false else begin_with (n - 1) bs

-- after its entry_count an stsd has so many entries
abbrev pub has_entries : Box → Bool
has_entries b = begin_with (number_in b.payload 4) (boxes (payload_offset b + 8) (drop 8 b.payload))
