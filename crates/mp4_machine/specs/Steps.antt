-- A step of a machine, by its result.
use Rattle.std.specs.Prelude.{◌≡◌, ◌≤◌, List, ℕ, [], ◌++◌, Bool, true, Result, Ok, Err}
use Rattle.mp4_machine.specs.Inputs.{Change, Continuation, Environment, GoesOn, StopsAt}
use Rattle.mp4_machine.specs.declared.stop.Stop.{Stop}
use Rattle.mp4_machine.specs.declared.stop.Stop.TheVariants.{Write}

-- the change by a step that borrows nothing
abbrev pub unmoved : Environment → Bool → Change
unmoved o failed = record { before = o; after = o; failed = failed; failed' = failed }

-- the machine took bytes and moved on
pub record GoesTo (a : Change) (from : Continuation) (bytes : List ℕ) (to : Continuation) : Type 0 where
  pub goes : GoesOn a.before a.after from bytes to
  pub unfailed : a.failed' ≡ a.failed
  pub claim : to.claim ≤ a.after.account.live

-- it stops at the input
pub record StopsIn (a : Change) (from : Continuation) (input : List ℕ) (e : Stop) : Type 0 where
  pub stops : (more : List ℕ) → StopsAt a.before a.after from (input ++ more) e
  pub failed : e ≡ Write → a.failed' ≡ true
  pub unfailed : (e ≡ Write → ⊥) → a.failed' ≡ a.failed

-- a step that takes no bytes and leads to one continuation, by its result
abbrev pub Leads : Change → (from to : Continuation) → Result (Unit {0}) Stop → Type 0
Leads a from to (Ok u) = GoesTo a from [] to
Leads a from to (Err e) = StopsIn a from [] e
