-- When samples are presented (ISO/IEC 14496-12, 8.8.8), and the least of such times.
use Rattle.std.specs.Prelude.{◌+◌, ◌+ℤ◌, ◌≤ℤ◌, ℕ, ℤ, pos, List, [], ◌∷◌}
use Rattle.std.specs.Int.{int_min}
use Rattle.std.specs.List.{All, Contains, fold}
use Rattle.mp4_traf.specs.declared.rows.Row.{Row}

-- composition times of samples, the first of which has this decode time
unfoldable pub composition_times : ℕ → List Row → List ℤ
composition_times time [] = []
composition_times time (row ∷ rows) = (pos time +ℤ row.offset) ∷ composition_times (time + row.duration) rows

-- the least of some numbers, 0 where there is none
abbrev pub least_of : List ℤ → ℤ
least_of [] = pos 0
least_of (z ∷ zs) = fold int_min z zs

-- the number is one of these, and none of these is less
pub record IsLeastOf (zs : List ℤ) (z : ℤ) : Type 0 where
  pub among : Contains zs z
  pub least : All (λ y. z ≤ℤ y) zs
