use Rattle.std.proofs.Common.{arith, inr, ◌≡◌, length, refl}
use Rattle.std.proofs.lemmas.List.{nil_from_length}
use Rattle.mp4_ends.proofs.ends.from_slice.FromSliceSource.read.Goals as goal

pub returns-then-self-clause-fails : goal.returns-then-self-clause-fails
returns-then-self-clause-fails c =
    let none : length c.self.inside.left.now ≡ 0 = omega (arith, c.self.invariant, c.requires, c.min-n.ensures, c.min.ensures) in
    rw (← c.self.view_is) (inr (nil_from_length _ none, c.if-self.true))

pub returns-then-n-eq0-2-clause-bytes : goal.returns-then-n-eq0-2-clause-bytes
returns-then-n-eq0-2-clause-bytes c =
    let none : length c.self.inside.left.now ≡ 0 = omega (arith, c.self.invariant, c.requires, c.min-n.ensures, c.min.ensures) in
    rw (← c.self.view_is, c.in-Open.is) (nil_from_length _ none, λ _ _. refl)
