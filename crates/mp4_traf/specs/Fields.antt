-- Fields that a flag announces (ISO/IEC 14496-12, 4.2).
use Rattle.std.specs.Prelude.{ℕ, ℤ, Bool, List, [], Option, Some, None, nat_lt, if◌then◌else◌, length, drop}
use Rattle.byteorder.specs.Endian.{big_number, twos_complement}
use Rattle.mp4_box.specs.Fields.{number_in}
use Rattle.mp4_box.specs.Trees.{Box}

-- the flags of a full box, which are the three bytes after its version; 0 if they aren't all there
abbrev pub flags_in : List ℕ → ℕ
flags_in payload = if nat_lt (length payload) 4 then 0 else big_number 3 (drop 1 payload)

-- the bytes of a field of 32 bits
abbrev pub width_if : Bool → ℕ
width_if is_there = if is_there then 4 else 0

-- place of a field that is there
abbrev pub place_if : Bool → ℕ → Option ℕ
place_if is_there at = if is_there then Some at else None

-- the number of the field at a place, or a default if the field isn't there
abbrev pub number_or : List ℕ → Option ℕ → ℕ → ℕ
number_or payload None default_value = default_value
number_or payload (Some at) default_value = number_in payload at

-- the signed number in the four bytes at a place, in two's complement; 0 where they aren't all there
abbrev pub signed_in : List ℕ → ℕ → ℤ
signed_in payload at = twos_complement 4 (number_in payload at)

-- the payload of a box, empty where there is none
abbrev pub payload_of : Option Box → List ℕ
payload_of None = []
payload_of (Some b) = b.payload
