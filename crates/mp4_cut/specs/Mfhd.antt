-- The header of a movie fragment, mfhd (ISO/IEC 14496-12, 8.8.5).
use Rattle.std.specs.Prelude.{ℕ, List, ◌++◌}
use Rattle.byteorder.specs.Endian.{big_bytes}
use Rattle.mp4_cut.specs.Boxes.{version_and_flags}

-- sequence_number (32 bits)
abbrev pub mfhd_payload : ℕ → List ℕ
mfhd_payload sequence_number = version_and_flags 0 0 ++ big_bytes 4 sequence_number
