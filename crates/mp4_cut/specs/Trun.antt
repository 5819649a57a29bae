-- A run of samples, trun (ISO/IEC 14496-12, 8.8.8).
use Rattle.std.specs.Prelude.{ℕ, ℤ, List, ◌++◌, length}
use Rattle.std.specs.List.{flat_map}
use Rattle.std.specs.Int.{w64}
use Rattle.byteorder.specs.Endian.{big_bytes, low_bytes}
use Rattle.mp4_traf.specs.declared.rows.Row.{Row}
use Rattle.mp4_cut.specs.Boxes.{version_and_flags}

-- data_offset is present, and duration, size, flags and composition time offset of each sample
abbrev pub trun_flags : ℕ
trun_flags = 0x000f01

-- the 32 bits of a composition time offset
abbrev pub offset_bits : ℤ → ℕ
offset_bits offset = low_bytes w64 4 offset

-- sample_duration, sample_size, sample_flags and sample_composition_time_offset (32 bits each)
abbrev pub sample_bytes : Row → List ℕ
sample_bytes row = big_bytes 4 row.duration ++ (big_bytes 4 row.size ++ (big_bytes 4 row.flags ++ big_bytes 4 (offset_bits row.offset)))

-- sample_count and data_offset (32 bits each), and the fields of each sample
abbrev pub trun_payload : ℕ → ℕ → List Row → List ℕ
trun_payload version data_offset rows =
    version_and_flags version trun_flags ++ (big_bytes 4 (length rows) ++ (big_bytes 4 data_offset ++ flat_map sample_bytes rows))
