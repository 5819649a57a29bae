-- Which of several faults is reported: the one of the lowest rule, and of these the one whose box begins first.
use Rattle.std.specs.Prelude.{◌≡◌, ◌⊎◌, Bool, false, List, [], ◌∷◌, Option, Some, None, ◌==◌, nat_lt, if◌then◌else◌}
use Rattle.std.specs.List.{AllByRecursion}
use Rattle.mp4_box.specs.declared.rules.Fault.{Fault}
use Rattle.mp4_box.specs.Rules.{number_of}

-- the first fault is reported before the second
unfoldable pub comes_first : Fault → Fault → Bool
comes_first f g = if number_of f.rule == number_of g.rule then nat_lt f.offset g.offset else nat_lt (number_of f.rule) (number_of g.rule)

-- the fault is one of these
unfoldable pub IsIn : Fault → List Fault → Type 0
IsIn f [] = ⊥
IsIn f (g ∷ gs) = (f ≡ g) ⊎ IsIn f gs

-- the fault is one of these, and none of these comes before it
pub record IsLeast (f : Fault) (fs : List Fault) : Type 0 where
  pub among : IsIn f fs
  pub before : AllByRecursion (λ g. comes_first g f ≡ false) fs

-- ---- the least of a list, kept while going over it

-- the better of the best so far and one more
abbrev pub noted : Option Fault → Fault → Option Fault
noted None f = Some f
noted (Some g) f = Some (if comes_first f g then f else g)

-- the best after going over these
unfoldable pub least_from : Option Fault → List Fault → Option Fault
least_from best [] = best
least_from best (f ∷ fs) = least_from (noted best f) fs

abbrev pub least : List Fault → Option Fault
least fs = least_from None fs
