use Rattle.std.proofs.Common.{◌≡◌, Result, Err, ap, refl}
use Rattle.test_libraries.proofs.callers.has_track.Goals as goal

same_stop : {T E : Type 0} {e f : E} {r : Result T E} → r ≡ Err e → r ≡ Err f → e ≡ f
same_stop g h = cc

pub returns-in-Err-clause-fault : goal.returns-in-Err-clause-fault
returns-in-Err-clause-fault c f = let fault = c.in-Err.ensures.fault f in (λ e. fault.0 (ap Err (same_stop refl e)), λ e. ap Err (same_stop refl (fault.1 e)))
