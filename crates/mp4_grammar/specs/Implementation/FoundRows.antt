-- What was found in the first of some rows.
use Rattle.std.specs.Prelude.{ℕ, ℤ, pos, ◌+◌, ◌+ℤ◌, List, [], ◌∷◌, Option, Some, None}
use Rattle.std.specs.Int.{int_min}
use Rattle.mp4_traf.specs.declared.rows.Row.{Row}

-- the lesser of a number and one that was found before, if there is one
abbrev pub lesser : Option ℤ → ℤ → ℤ
lesser None z = z
lesser (Some best) z = int_min best z

-- after how many ticks the first of these rows is presented, of which the first is decoded after so many; or a lesser one that was found before
unfoldable pub earliest_from : Option ℤ → ℕ → List Row → Option ℤ
earliest_from best elapsed [] = best
earliest_from best elapsed (row ∷ rows) = earliest_from (Some (lesser best (pos elapsed +ℤ row.offset))) (elapsed + row.duration) rows
