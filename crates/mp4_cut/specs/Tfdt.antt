-- The base time of a track fragment, tfdt (ISO/IEC 14496-12, 8.8.12).
use Rattle.std.specs.Prelude.{ℕ, List, ◌++◌}
use Rattle.byteorder.specs.Endian.{big_bytes}
use Rattle.mp4_cut.specs.Boxes.{version_and_flags}

-- base_media_decode_time, which has 64 bits at version 1
abbrev pub tfdt_payload : ℕ → List ℕ
tfdt_payload base_media_decode_time = version_and_flags 1 0 ++ big_bytes 8 base_media_decode_time
