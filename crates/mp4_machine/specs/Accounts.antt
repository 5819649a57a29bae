-- What a machine that claims memory changes in the account of a ledger.
use Rattle.std.specs.Prelude.{◌≡◌, ℕ, zero, suc, ◌+◌, ◌-◌, ◌≤◌, max}
use Rattle.mp4_ledger.specs.Memory.{Account}

-- peak of the ledger where `base` bytes are claimed by others, and at most `most` at once by the machine; 0 where the machine claims none
abbrev pub top_of : ℕ → ℕ → ℕ
top_of base zero = 0
top_of base (suc n) = base + suc n

-- of the claimed bytes, `own` were the machine's before and `own'` are now; it claimed at most `most` at once
pub record Counts (a a' : Account) (own own' most : ℕ) : Type 0 where
  pub limit : a'.limit ≡ a.limit
  pub live : a'.live + own ≡ a.live + own'
  pub peak : a'.peak ≡ max a.peak (top_of (a.live - own) most)

-- the same, but it may have claimed less
pub record Spends (a a' : Account) (own own' most : ℕ) : Type 0 where
  pub limit : a'.limit ≡ a.limit
  pub live : a'.live + own ≡ a.live + own'
  pub at_least : a.peak ≤ a'.peak
  pub at_most : a'.peak ≤ max a.peak (top_of (a.live - own) most)
