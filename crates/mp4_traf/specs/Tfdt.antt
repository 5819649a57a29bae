-- The base time of a track fragment, tfdt (ISO/IEC 14496-12, 8.8.12). Its payload is version and flags, and base_media_decode_time at 4.
use Rattle.std.specs.Prelude.{ℕ, List, ◌==◌, if◌then◌else◌}
use Rattle.mp4_box.specs.Fields.{number_in, long_number_in, version_in}
use Rattle.mp4_box.specs.declared.checks.Layout.{Layout}
use Rattle.mp4_box.specs.declared.checks.Layout.TheVariants.{Versioned}

-- how long the payload is at version 0, and at version 1
abbrev pub tfdt_layout : Layout
tfdt_layout = Versioned 8 12

-- base_media_decode_time, which has 32 bits at version 0 and else 64
abbrev pub base_media_decode_time : List ℕ → ℕ
base_media_decode_time payload = if version_in payload == 0 then number_in payload 4 else long_number_in payload 4
