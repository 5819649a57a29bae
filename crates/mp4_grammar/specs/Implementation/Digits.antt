-- Digits in a text.
use Rattle.std.specs.Prelude.{◌≡◌, ◌+◌, ◌≤◌, ℕ, List, drop, length, take}

-- these digits are so many, from this place of the text on
pub record AreAt (text digits : List ℕ) (from count : ℕ) : Type 0 where
  pub there : from + count ≤ length text
  pub few : count ≤ 20
  pub are : take count (drop from text) ≡ digits
