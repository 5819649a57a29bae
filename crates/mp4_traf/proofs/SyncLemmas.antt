-- Which samples are sync samples, by the fields of their flags.
use Rattle.std.proofs.Common.{◌≡◌, ◌∙◌, ℕ, zero, suc, ◌+◌, ◌*◌, ◌<◌, ◌^◌, refl, ap, arith}
use Rattle.std.specs.Prelude.{◌==◌}
use Rattle.std.specs.Int.Bits.{and_self, and_zero_l, and_zero_r, bit_and}
use Rattle.std.proofs.lemmas.Nat.{and_block}
use Rattle.mp4_traf.specs.SyncSamples.{is_sync, non_sync}

lowest : (bit : ℕ) → bit < 2 → bit_and bit 1 ≡ bit
lowest zero h = and_zero_l 1
lowest (suc zero) h = and_self 1
lowest (suc (suc n)) h = absurd (omega (arith, h))

-- the bit is found wherever it is
bit_is : (above bit priority : ℕ) → bit < 2 → priority < 2 ^ 16 → bit_and ((above * 2 + bit) * 65536 + priority) non_sync ≡ bit * 65536
bit_is above bit priority one low =
    let high = and_block 16 (above * 2 + bit) 1 priority 0 low (omega arith) in
    let next = and_block 1 above 0 bit 1 one (omega arith) in
    high ∙ omega (arith, next, and_zero_r above, and_zero_r priority, lowest bit one)

none_or_one : (bit : ℕ) → bit < 2 → (bit * 65536 == 0) ≡ (bit == 0)
none_or_one zero h = refl
none_or_one (suc zero) h = refl
none_or_one (suc (suc n)) h = absurd (omega (arith, h))

pub sync_by_fields : (above bit priority : ℕ) → bit < 2 → priority < 2 ^ 16 → is_sync ((above * 2 + bit) * 2 ^ 16 + priority) ≡ (bit == 0)
sync_by_fields above bit priority one low = ap (λ (n : ℕ). n == 0) (bit_is above bit priority one low) ∙ none_or_one bit one
