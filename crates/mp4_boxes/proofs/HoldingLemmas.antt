-- What a verdict says of the faults.
use Rattle.std.proofs.Common.{◌≡◌, List, [], ◌∷◌, Result, Ok, Err, refl}
use Rattle.mp4_box.specs.Trees.{verdict}
use Rattle.mp4_box.specs.declared.rules.Fault.{Fault}

pub verdict_good : {l : List Fault} {r : Result (Unit {0}) Fault} {u : Unit {0}} → r ≡ verdict l → r ≡ Ok u → l ≡ []
verdict_good {l = []} e f = refl
verdict_good {l = x ∷ l} e f = absurd cc

pub verdict_bad : {l : List Fault} {r : Result (Unit {0}) Fault} {x : Fault} → r ≡ verdict l → r ≡ Err x → (fs : List Fault) × (l ≡ x ∷ fs)
verdict_bad {l = []} e f = absurd cc
verdict_bad {l = y ∷ l} e f = (l, cc)
