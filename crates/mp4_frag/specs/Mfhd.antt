-- The header of a movie fragment, mfhd (ISO/IEC 14496-12, 8.8.5).
-- Its payload is version and flags, and sequence_number (32 bits) at 4.
use Rattle.std.specs.Prelude.{ℕ, List}
use Rattle.mp4_box.specs.Fields.{number_in}

-- how long the payload is
abbrev pub mfhd_len : ℕ
mfhd_len = 8

-- sequence_number
abbrev pub sequence_number : List ℕ → ℕ
sequence_number payload = number_in payload 4
