-- A run of samples, trun: its flags, its fields and its length (ISO/IEC 14496-12, 8.8.8). Its payload is version and
-- flags, sample_count (32 bits) at 4, data_offset and first_sample_flags where their flags are set, and a group of
-- fields for each sample.
use Rattle.std.specs.Prelude.{ℕ, ℤ, Bool, List, Option, Some, ◌==◌, ◌+◌, ◌*◌, ◌&&◌, nat_lt, if◌then◌else◌, length, option_map}
use Rattle.mp4_box.specs.Flags.{has_flag}
use Rattle.mp4_box.specs.declared.rules.Rule.{Rule}
use Rattle.mp4_box.specs.declared.rules.Rule.TheVariants.{Version, FieldLength}
use Rattle.mp4_box.specs.Checks.{unless}
use Rattle.mp4_box.specs.Fields.{number_in, version_in}
use Rattle.mp4_traf.specs.Fields.{flags_in, place_if, signed_in, width_if}
use Rattle.mp4_traf.specs.declared.trun.TrunFields.{TrunFields}
use Rattle.mp4_traf.specs.declared.trun.SampleFields.{SampleFields}

-- ---- the flags, by their names in the standard

abbrev pub data_offset_present : ℕ → Bool
data_offset_present flags = has_flag flags 0x000001

abbrev pub first_sample_flags_present : ℕ → Bool
first_sample_flags_present flags = has_flag flags 0x000004

abbrev pub sample_duration_present : ℕ → Bool
sample_duration_present flags = has_flag flags 0x000100

abbrev pub sample_size_present : ℕ → Bool
sample_size_present flags = has_flag flags 0x000200

abbrev pub sample_flags_present : ℕ → Bool
sample_flags_present flags = has_flag flags 0x000400

abbrev pub sample_composition_time_offset_present : ℕ → Bool
sample_composition_time_offset_present flags = has_flag flags 0x000800

-- ---- places of the fields, in this order

-- after version and flags, sample_count and data_offset
abbrev pub first_sample_flags_at : ℕ → ℕ
first_sample_flags_at flags = 8 + width_if (data_offset_present flags)

-- the fields of the first sample
abbrev pub samples_at : ℕ → ℕ
samples_at flags = first_sample_flags_at flags + width_if (first_sample_flags_present flags)

unfoldable pub trun_fields : ℕ → TrunFields
trun_fields flags = record {
  data_offset = place_if (data_offset_present flags) 8;
  first_sample_flags = place_if (first_sample_flags_present flags) (first_sample_flags_at flags);
  samples = samples_at flags;
}

-- ---- places of the fields of a sample in its group, in this order

abbrev pub sample_size_at : ℕ → ℕ
sample_size_at flags = width_if (sample_duration_present flags)

abbrev pub sample_flags_at : ℕ → ℕ
sample_flags_at flags = sample_size_at flags + width_if (sample_size_present flags)

abbrev pub sample_composition_time_offset_at : ℕ → ℕ
sample_composition_time_offset_at flags = sample_flags_at flags + width_if (sample_flags_present flags)

-- the bytes of a group
abbrev pub group_len : ℕ → ℕ
group_len flags = sample_composition_time_offset_at flags + width_if (sample_composition_time_offset_present flags)

unfoldable pub sample_fields : ℕ → SampleFields
sample_fields flags = record {
  sample_duration = place_if (sample_duration_present flags) 0;
  sample_size = place_if (sample_size_present flags) (sample_size_at flags);
  sample_flags = place_if (sample_flags_present flags) (sample_flags_at flags);
  sample_composition_time_offset = place_if (sample_composition_time_offset_present flags) (sample_composition_time_offset_at flags);
  len = group_len flags;
}

-- how long the payload is
abbrev pub trun_len : ℕ → ℕ → ℕ
trun_len flags count = (trun_fields flags).samples + (sample_fields flags).len * count

-- ---- the fields

abbrev pub sample_count : List ℕ → ℕ
sample_count payload = number_in payload 4

-- data_offset, where there is one
abbrev pub data_offset : List ℕ → Option ℤ
data_offset payload = option_map (signed_in payload) (trun_fields (flags_in payload)).data_offset

-- first_sample_flags, where there are any
abbrev pub first_sample_flags : List ℕ → Option ℕ
first_sample_flags payload = option_map (number_in payload) (trun_fields (flags_in payload)).first_sample_flags

-- sample 0 would have its flags from two places
abbrev pub flags_conflict : ℕ → Bool
flags_conflict flags = first_sample_flags_present flags && sample_flags_present flags

-- the rule that a payload breaks whose version or length isn't as it must be
unfoldable pub trun_broken : List ℕ → Option Rule
trun_broken payload =
    if nat_lt (length payload) 4 then Some FieldLength
    else if nat_lt 1 (version_in payload) then Some Version
    else unless (length payload == trun_len (flags_in payload) (sample_count payload)) FieldLength
