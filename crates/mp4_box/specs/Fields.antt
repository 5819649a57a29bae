-- Fields of a payload that may be too short for them (ISO/IEC 14496-12, 4.2).
use Rattle.std.specs.Prelude.{ℕ, List, ◌+◌, nat_lt, if◌then◌else◌, length, drop, slice_index}
use Rattle.byteorder.specs.Endian.{big_number}

-- the number in the four bytes at a place of a payload, 0 where they aren't all there
abbrev pub number_in : List ℕ → ℕ → ℕ
number_in payload at = if nat_lt (length payload) (at + 4) then 0 else big_number 4 (drop at payload)

-- the number in eight bytes, likewise
abbrev pub long_number_in : List ℕ → ℕ → ℕ
long_number_in payload at = if nat_lt (length payload) (at + 8) then 0 else big_number 8 (drop at payload)

-- the version that a full box's payload begins with, 0 where it is empty
abbrev pub version_in : List ℕ → ℕ
version_in payload = slice_index payload 0
