-- A vector while its elements are borrowed.
use Rattle.std.proofs.Common.{◌≡◌, ◌∙◌, ℕ, List, ◌++◌, length, take, drop, ap, sym}
use Rattle.mp4_ledger.specs.Memory.{overwritten}

-- std's account of the vector is what replaces the borrowed part
pub lent_is : {X : Type 0} (n : ℕ) (now items w : List X) → length now ≡ n → now ≡ items → take n (w ++ drop (length w) items) ≡ overwritten now w
lent_is n now items w e h =
    ap (λ m. take m (w ++ drop (length w) items)) (sym e)
    ∙ ap (λ xs. take (length now) (w ++ drop (length w) xs)) (sym h)
