-- The header of a track fragment, tfhd (ISO/IEC 14496-12, 8.8.7).
use Rattle.std.specs.Prelude.{ℕ, List, ◌++◌}
use Rattle.byteorder.specs.Endian.{big_bytes}
use Rattle.mp4_cut.specs.Boxes.{version_and_flags}

-- default-base-is-moof, and sample_description_index is present
abbrev pub tfhd_flags : ℕ
tfhd_flags = 0x020002

-- track_ID and sample_description_index (32 bits each)
abbrev pub tfhd_payload : ℕ → ℕ → List ℕ
tfhd_payload track_id index = version_and_flags 0 tfhd_flags ++ (big_bytes 4 track_id ++ big_bytes 4 index)
