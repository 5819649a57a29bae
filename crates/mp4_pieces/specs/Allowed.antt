-- Arguments of a cut.
use Rattle.std.specs.Prelude.{◌≤◌, ◌^◌, ℕ, Option, IfSome}

-- the most samples that a piece may be allowed
abbrev pub most_in_piece : ℕ
most_in_piece = 1000000

-- so many bytes are allowed
pub record IsAllowedSize (bytes : ℕ) : Type 0 where
  pub some : 1 ≤ bytes
  pub most : bytes ≤ 2 ^ 62

-- so many samples are allowed, and so many bytes, or any number of them
pub record IsAllowed (samples : ℕ) (bytes : Option ℕ) : Type 0 where
  pub some : 1 ≤ samples
  pub most : samples ≤ most_in_piece
  pub size : IfSome bytes IsAllowedSize
