-- What is put in a block for each element of a list.
use Rattle.std.proofs.Common.{◌≡◌, ℕ, zero, suc, ◌-◌, ◌<◌, List, ◌∷◌, ◌++◌, sym, ap, ◌∙◌, arith, append_assoc}
use Rattle.std.specs.Prelude.{take}
use Rattle.std.specs.List.{flat_map}

-- the text of the first of those that are left, and that of the others
pub next_put : {A : Type 0} (f : A → List ℕ) (left : ℕ) (x : A) (xs ys : List A) (text first whole : List ℕ) → 0 < left → ys ≡ x ∷ xs → first ≡ f x → text ++ flat_map f (take left ys) ≡ whole → (text ++ first) ++ flat_map f (take (left - 1) xs) ≡ whole
next_put f zero x xs ys text first whole h e is all = absurd (omega arith)
next_put {A} f (suc n) x xs ys text first whole h e is all =
    ap (λ (m : ℕ). (text ++ first) ++ flat_map f (take m xs)) (omega arith)
    ∙ (append_assoc text first (flat_map f (take n xs))
    ∙ (ap (λ (z : List ℕ). text ++ (z ++ flat_map f (take n xs))) is
    ∙ (ap (λ (zs : List A). text ++ flat_map f (take (suc n) zs)) (sym e) ∙ all)))
