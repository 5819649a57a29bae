-- The header of a track fragment, tfhd: its flags, its fields and its length (ISO/IEC 14496-12, 8.8.7).
-- Its payload is version and flags, track_ID (32 bits) at 4, and then each field whose flag is set.
use Rattle.std.specs.Prelude.{ℕ, Bool, List, ◌+◌, not, ◌&&◌, if◌then◌else◌}
use Rattle.mp4_box.specs.Flags.{has_flag}
use Rattle.mp4_box.specs.Fields.{number_in}
use Rattle.mp4_traf.specs.Fields.{flags_in, place_if, width_if}
use Rattle.mp4_traf.specs.declared.tfhd.TfhdFields.{TfhdFields}

-- ---- the flags, by their names in the standard

abbrev pub base_data_offset_present : ℕ → Bool
base_data_offset_present flags = has_flag flags 0x000001

abbrev pub sample_description_index_present : ℕ → Bool
sample_description_index_present flags = has_flag flags 0x000002

abbrev pub default_sample_duration_present : ℕ → Bool
default_sample_duration_present flags = has_flag flags 0x000008

abbrev pub default_sample_size_present : ℕ → Bool
default_sample_size_present flags = has_flag flags 0x000010

abbrev pub default_sample_flags_present : ℕ → Bool
default_sample_flags_present flags = has_flag flags 0x000020

abbrev pub duration_is_empty : ℕ → Bool
duration_is_empty flags = has_flag flags 0x010000

abbrev pub default_base_is_moof : ℕ → Bool
default_base_is_moof flags = has_flag flags 0x020000

-- ---- places of the fields, in this order

-- after version and flags, track_ID, and base_data_offset (64 bits)
abbrev pub sample_description_index_at : ℕ → ℕ
sample_description_index_at flags = if base_data_offset_present flags then 16 else 8

abbrev pub default_sample_duration_at : ℕ → ℕ
default_sample_duration_at flags = sample_description_index_at flags + width_if (sample_description_index_present flags)

abbrev pub default_sample_size_at : ℕ → ℕ
default_sample_size_at flags = default_sample_duration_at flags + width_if (default_sample_duration_present flags)

abbrev pub default_sample_flags_at : ℕ → ℕ
default_sample_flags_at flags = default_sample_size_at flags + width_if (default_sample_size_present flags)

-- how long the payload is
abbrev pub tfhd_len : ℕ → ℕ
tfhd_len flags = default_sample_flags_at flags + width_if (default_sample_flags_present flags)

unfoldable pub tfhd_fields : ℕ → TfhdFields
tfhd_fields flags = record {
  sample_description_index = place_if (sample_description_index_present flags) (sample_description_index_at flags);
  default_sample_duration = place_if (default_sample_duration_present flags) (default_sample_duration_at flags);
  default_sample_size = place_if (default_sample_size_present flags) (default_sample_size_at flags);
  default_sample_flags = place_if (default_sample_flags_present flags) (default_sample_flags_at flags);
  len = tfhd_len flags;
}

abbrev pub fields_of : List ℕ → TfhdFields
fields_of payload = tfhd_fields (flags_in payload)

-- track_ID
abbrev pub track_id : List ℕ → ℕ
track_id payload = number_in payload 4

-- offsets count from the first byte of the moof
abbrev pub counts_from_moof : ℕ → Bool
counts_from_moof flags = not (base_data_offset_present flags) && default_base_is_moof flags
