-- The flag words of tfhd and trun (ISO/IEC 14496-12, 8.8.7 and 8.8.8).
use Rattle.std.specs.Prelude.{ℕ, Bool, ◌≡◌, ◌==◌, List, [], ◌∷◌, codes}
use Rattle.std.specs.List.{All}
use Rattle.std.specs.Int.RustNames.{bit_and}
use Rattle.bitflags.specs.Sets.{Row}
use Rattle.mp4_box.specs.declared.flags.TfhdFlags.{TfhdFlags}
use Rattle.mp4_box.specs.declared.flags.TrunFlags.{TrunFlags}

-- whether a word has every bit of a flag
abbrev pub has_flag : ℕ → ℕ → Bool
has_flag word flag = bit_and word flag == flag

-- the flags of a tfhd as a word
abbrev pub tfhd_bits : TfhdFlags → ℕ
tfhd_bits flags = flags.0

-- the flags of a trun as a word
abbrev pub trun_bits : TrunFlags → ℕ
trun_bits flags = flags.0

-- each flag of a tfhd: its name and its bit
abbrev pub tfhd_table : List Row
tfhd_table =
    (codes "BASE_DATA_OFFSET", 0x000001) ∷ (codes "SAMPLE_DESCRIPTION_INDEX", 0x000002)
    ∷ (codes "DEFAULT_SAMPLE_DURATION", 0x000008) ∷ (codes "DEFAULT_SAMPLE_SIZE", 0x000010)
    ∷ (codes "DEFAULT_SAMPLE_FLAGS", 0x000020) ∷ (codes "DURATION_IS_EMPTY", 0x010000)
    ∷ (codes "DEFAULT_BASE_IS_MOOF", 0x020000) ∷ []

-- each flag of a trun: its name and its bit
abbrev pub trun_table : List Row
trun_table =
    (codes "DATA_OFFSET", 0x000001) ∷ (codes "FIRST_SAMPLE_FLAGS", 0x000004)
    ∷ (codes "SAMPLE_DURATION", 0x000100) ∷ (codes "SAMPLE_SIZE", 0x000200)
    ∷ (codes "SAMPLE_FLAGS", 0x000400) ∷ (codes "SAMPLE_COMPOSITION_TIME_OFFSET", 0x000800) ∷ []

-- a mask keeps each flag of a table: the masked word has it exactly where the word does
abbrev pub KeepsFlags : ℕ → List Row → Type 0
KeepsFlags mask table = (word : ℕ) → All (λ row. has_flag (bit_and word mask) row.1 ≡ has_flag word row.1) table
