-- The number of the next fragment that is written.
use Rattle.std.proofs.Common.{◌≡◌, ◌+◌, ap, refl}
use Rattle.mp4_machine.specs.declared.tally.Tally.{Tally}
use Rattle.mp4_recut.specs.declared.operation.Operation.{Operation}
use Rattle.mp4_recut.specs.declared.operation.Operation.TheVariants as operations
use Rattle.mp4_recut.specs.Operations.{number_in}

-- it is counted by the fragments alone
pub number_same : (operation : Operation) (t t' : Tally) → t'.fragments ≡ t.fragments → number_in operation t' ≡ number_in operation t
number_same (operations.List command) t t' e = refl
number_same (operations.Split cut) t t' e = ap (λ n. n + 1) e
