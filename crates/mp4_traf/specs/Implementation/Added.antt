-- Only the code's own way; no public clause needs this.
-- Numbers in a row in some bytes, added up.
use Rattle.std.specs.Prelude.{ℕ, List, Option, Some, None, zero, suc, ◌+◌, ◌*◌}
use Rattle.mp4_box.specs.Fields.{number_in}

-- so many numbers of four bytes, of which the first is at a place, and each so far after the one before it
unfoldable pub numbers_from : List ℕ → ℕ → ℕ → ℕ → ℕ
numbers_from moof_bytes step at zero = 0
numbers_from moof_bytes step at (suc n) = number_in moof_bytes at + numbers_from moof_bytes step (at + step) n

-- the numbers of a field of so many groups, of which the first begins the bytes: those at a place, or else a number for each
abbrev pub field_numbers : List ℕ → Option ℕ → (default_value step n : ℕ) → ℕ
field_numbers groups None default_value step n = default_value * n
field_numbers groups (Some at) default_value step n = numbers_from groups step at n
