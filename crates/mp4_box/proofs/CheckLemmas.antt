-- What is noted of the children of a type.
use Rattle.std.proofs.Common.{◌≡◌, ℕ, zero, suc, false, not, List, [], ◌∷◌, length, Option, refl, arith}
use Rattle.std.specs.Prelude.{◌==◌}
use Rattle.std.proofs.lemmas.Bool.Decides.{nat_tests}
use Rattle.mp4_box.specs.declared.rules.Fault.{Fault}
use Rattle.mp4_box.specs.declared.rules.Rule.TheVariants.{Missing}
use Rattle.mp4_box.specs.Checks.{alone, further}
use Rattle.mp4_box.specs.Order.{least_from, noted}
use Rattle.mp4_box.specs.Trees.{Box, fault_at}

-- where no child was seen the parent is noted
pub missing_noted : (best now : Option Fault) (parent : Box) (bs : List Box) (f : Fault) → length bs ≡ 0 → now ≡ least_from best (further bs) → f ≡ fault_at Missing parent → noted now f ≡ least_from best (alone parent bs)
unfolding least_from
missing_noted best now parent [] f none e is = rw (e, is) refl
missing_noted best now parent (b ∷ bs) f none e is = absurd cc

pub is_none : (n : ℕ) → not (n == 0) ≡ false → n ≡ 0
is_none zero e = refl
is_none (suc n) e = grind (arith, nat_tests)
