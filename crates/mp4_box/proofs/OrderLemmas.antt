-- The least of several faults.
use Rattle.std.proofs.Common.{◌≡◌, ◌∙◌, ◌⊎◌, Bool, true, false, cond, List, [], ◌∷◌, ◌++◌, Option, Some, None, refl, sym, subst, inl, inr, arith}
use Rattle.std.specs.List.{AllByRecursion}
use Rattle.std.proofs.lemmas.Bool.Decides.{nat_tests}
use Rattle.mp4_box.specs.declared.rules.Fault.{Fault}
use Rattle.mp4_box.specs.Order.{least, least_from, noted, comes_first, IsIn, IsLeast}

itself : (f : Fault) → comes_first f f ≡ false
unfolding comes_first
itself f = grind (arith, nat_tests)

one_way : (f g : Fault) → comes_first f g ≡ true → comes_first g f ≡ false
unfolding comes_first
one_way f g e = grind (arith, nat_tests)

-- what doesn't come before what doesn't come before
no_later : (f g h : Fault) → comes_first f g ≡ false → comes_first g h ≡ false → comes_first f h ≡ false
unfolding comes_first
no_later f g h d e = grind (arith, nat_tests)

-- the best of one and these
record Best (g : Fault) (fs : List Fault) (f : Fault) : Type 0 where
  is : least_from (Some g) fs ≡ Some f
  old : comes_first g f ≡ false
  all : AllByRecursion (λ h. comes_first h f ≡ false) fs
  among : (f ≡ g) ⊎ IsIn f fs

better : (t : Bool) (x g : Fault) → comes_first x g ≡ t → (comes_first g (cond t x g) ≡ false) × (comes_first x (cond t x g) ≡ false) × ((cond t x g ≡ g) ⊎ (cond t x g ≡ x))
better true x g e = (one_way x g e, itself x, inr refl)
better false x g e = (itself g, e, inl refl)

best_of : (g : Fault) (fs : List Fault) → (f : Fault) × Best g fs f
unfolding least_from IsIn
best_of g [] = (g, record { is = refl; old = itself g; all = tt; among = inl refl })
best_of g (x ∷ fs) =
    let h : Fault = cond (comes_first x g) x g in
    let b = better (comes_first x g) x g refl in
    let rest = best_of h fs in
    let f : Fault = rest.0 in (
      f,
      record {
        is = rest.1.is;
        old = no_later g h f b.0 rest.1.old;
        all = (no_later x h f b.1 rest.1.old, rest.1.all);
        among = elim rest.1.among [
          | inl same ↦ elim b.2 [ inl old ↦ inl (same ∙ old) | inr new ↦ inr (inl (same ∙ new)) ]
          | inr later ↦ inr (inr later)
        ];
      },
    )

some_is : (f g : Fault) → Some f ≡ Some g → f ≡ g
some_is f g e = cc

pub least-is : (fs : List Fault) (f : Fault) → least fs ≡ Some f → IsLeast f fs
unfolding least_from IsIn
least-is [] f e = absurd cc
least-is (x ∷ fs) f e =
    let b = best_of x fs in
    let same : b.0 ≡ f = some_is b.0 f (sym b.1.is ∙ e) in
    subst (λ (z : Fault). IsLeast z (x ∷ fs)) same (record { among = b.1.among; before = (b.1.old, b.1.all) })

pub least-none : (fs : List Fault) → least fs ≡ None → fs ≡ []
unfolding least_from
least-none [] e = refl
least-none (x ∷ fs) e = let b = best_of x fs in let z : Some b.0 ≡ None = sym b.1.is ∙ e in absurd cc

-- keeping the best continues after a part of the list
pub least_from_append : (best : Option Fault) (fs gs : List Fault) → least_from best (fs ++ gs) ≡ least_from (least_from best fs) gs
unfolding least_from
least_from_append best [] gs = refl
least_from_append best (f ∷ fs) gs = least_from_append (noted best f) fs gs
