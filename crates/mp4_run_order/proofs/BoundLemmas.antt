-- Numbers below another, where there is one.
use Rattle.std.proofs.Common.{if◌then◌else◌, ◌≡◌, ◌<◌, ℕ, Bool, true, false, Option, Some, None, nat_lt, refl, arith}
use Rattle.std.proofs.lemmas.Bool.{ltb-true, ltb-false, lt-ltb}
use mathlib.Core.Logic.{◌⊎◌, inl, inr}
use Rattle.mp4_run_order.specs.Implementation.Searches.{is_below, lower_of}

abbrev pub IsBelow : ℕ → Option ℕ → Type 0
IsBelow n None = Unit {0}
IsBelow n (Some k) = n < k

pub below_from : (n : ℕ) (o : Option ℕ) → is_below n o ≡ true → IsBelow n o
below_from n None h = tt
below_from n (Some k) h = ltb-true n k h

pub below_to : (n : ℕ) (o : Option ℕ) → IsBelow n o → is_below n o ≡ true
below_to n None h = refl
below_to n (Some k) h = lt-ltb n k h

pub below_less : (m n : ℕ) (o : Option ℕ) → m < n → IsBelow n o → IsBelow m o
below_less m n None lt h = tt
below_less m n (Some k) lt h = omega arith

lower_step : (n m k : ℕ) (t : Bool) → nat_lt k m ≡ t → n < (if t then k else m) → (n < m) × (n < k)
lower_step n m k true e h = let g = ltb-true k m e in (omega arith, h)
lower_step n m k false e h = let g = ltb-false k m e in (h, omega arith)

-- what is below the lower of two is below both
pub below_lower : (n m : ℕ) (o : Option ℕ) → IsBelow n (Some (lower_of m o)) → (n < m) × IsBelow n o
below_lower n m None h = (h, tt)
below_lower n m (Some k) h = lower_step n m k (nat_lt k m) refl h

which_step : (m k : ℕ) (r : Option ℕ) (t : Bool) → r ≡ Some (if t then k else m) → (r ≡ Some m) ⊎ (r ≡ Some k)
which_step m k r true e = inr e
which_step m k r false e = inl e

-- the lower of two is one of them
pub lower_which : (m : ℕ) (o r : Option ℕ) → r ≡ Some (lower_of m o) → (r ≡ Some m) ⊎ (r ≡ o)
lower_which m None r e = inl e
lower_which m (Some k) r e = which_step m k r (nat_lt k m) e
