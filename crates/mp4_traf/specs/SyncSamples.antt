-- Which samples are sync samples (ISO/IEC 14496-12, 8.8.3).
use Rattle.std.specs.Prelude.{ℕ, Bool, ◌==◌, bit_and}

-- the bit sample_is_non_sync_sample of a sample's flags, the lowest above the 16 bits of sample_degradation_priority
abbrev pub non_sync : ℕ
non_sync = 0x0001_0000

-- the flags of a sync sample have it clear
abbrev pub is_sync : ℕ → Bool
is_sync flags = bit_and flags non_sync == 0
