-- The rows of a run: row i is group i of the fields that its flags name, and what isn't there has a default (ISO/IEC 14496-12, 8.8.7 and 8.8.8).
use Rattle.std.specs.Prelude.{ℕ, ℤ, List, Option, Some, None, pos, ◌≡◌, ◌≤◌, ◌==◌, ◌+◌, ◌-◌, ◌*◌, ◌++◌, ◌+ℤ◌, if◌then◌else◌, drop, length, map, take}
use Rattle.std.specs.Int.{w64}
use Rattle.std.specs.List.{range_with_len, sum_by}
use Rattle.byteorder.specs.Endian.{big_bytes, low_bytes, twos_complement}
use Rattle.mp4_box.specs.Fields.{number_in}
use Rattle.mp4_traf.specs.declared.run.Run.{Run}
use Rattle.mp4_traf.specs.declared.trun.SampleFields.{SampleFields}
use Rattle.mp4_traf.specs.declared.rows.Row.{Row}
use Rattle.mp4_traf.specs.declared.rows.Cursor.{Cursor}

-- where group i begins in the bytes of the moof
unfoldable pub group_at : Run → ℕ → ℕ
group_at run i = run.samples_at + run.fields.len * i

-- the field at a place of the group that begins at g, or a default if the field isn't there
abbrev pub field_at : List ℕ → ℕ → Option ℕ → ℕ → ℕ
field_at moof_bytes g None default_value = default_value
field_at moof_bytes g (Some at) default_value = number_in moof_bytes (g + at)

-- the flags of a sample that has none of its own
abbrev pub default_flags_of : Run → ℕ → ℕ
default_flags_of run i = if i == 0 then run.default_first_flags else run.flags

-- the offset of a composition time, which is unsigned at version 0
abbrev pub offset_by : ℕ → ℕ → ℤ
offset_by version n = if version == 0 then pos n else twos_complement 4 n

abbrev pub offset_at : List ℕ → ℕ → ℕ → Option ℕ → ℤ
offset_at moof_bytes version g None = pos 0
offset_at moof_bytes version g (Some at) = offset_by version (number_in moof_bytes (g + at))

-- row i, of which the group begins at g
abbrev pub row_from : Run → List ℕ → ℕ → ℕ → Row
row_from run moof_bytes i g = record {
  duration = field_at moof_bytes g run.fields.sample_duration run.duration;
  size = field_at moof_bytes g run.fields.sample_size run.size;
  flags = field_at moof_bytes g run.fields.sample_flags (default_flags_of run i);
  offset = offset_at moof_bytes run.version g run.fields.sample_composition_time_offset;
}

-- row i: group i of the payload of its trun
unfoldable pub row_of : Run → List ℕ → ℕ → Row
row_of run moof_bytes i = row_from run moof_bytes i (group_at run i)

-- the rows from row i on
abbrev pub rows_after : Run → List ℕ → ℕ → List Row
rows_after run moof_bytes i = map (row_of run moof_bytes) (range_with_len i (run.count - i))

-- all rows
abbrev pub rows_of : Run → List ℕ → List Row
rows_of run moof_bytes = rows_after run moof_bytes 0

-- the durations and the sizes of rows, added up
abbrev pub durations : List Row → ℕ
durations rows = sum_by (λ (row : Row). row.duration) rows

abbrev pub sizes : List Row → ℕ
sizes rows = sum_by (λ (row : Row). row.size) rows

-- c is the cursor before a row of the run, or after the last, with the time and the place of that row
pub record IsCursor (run : Run) (moof_bytes : List ℕ) (c : Cursor) : Type 0 where
  pub row : c.row ≤ run.count
  pub time : c.time ≡ run.time + durations (take c.row (rows_of run moof_bytes))
  pub place : c.place ≡ run.place +ℤ pos (sizes (take c.row (rows_of run moof_bytes)))

-- ---- groups with all fields

-- places of the fields in such a group, which a trun with the flags 0x000f00 has
abbrev pub all_fields : SampleFields
all_fields = record { sample_duration = Some 0; sample_size = Some 4; sample_flags = Some 8; sample_composition_time_offset = Some 12; len = 16 }

-- the groups of `count` rows from row `first` on have all fields, and lie in the bytes
pub record HasWholeGroups (run : Run) (moof_bytes : List ℕ) (first count : ℕ) : Type 0 where
  pub fields : run.fields ≡ all_fields
  pub rows : first + count ≤ run.count
  pub bytes : 16 * count ≤ length (drop (group_at run first) moof_bytes)

-- such a group: sample_duration, sample_size, sample_flags and sample_composition_time_offset (32 bits each)
abbrev pub row_bytes : Row → List ℕ
row_bytes row = big_bytes 4 row.duration ++ (big_bytes 4 row.size ++ (big_bytes 4 row.flags ++ big_bytes 4 (low_bytes w64 4 row.offset)))
