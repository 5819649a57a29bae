-- Only the code's own way; no public clause needs this.
-- A machine that takes bytes from the front of the input, by the result.
use Rattle.std.specs.Prelude.{◌≡◌, ℕ, ◌<◌, ◌≤◌, List, length, take, Result, Ok, Err}
use Rattle.mp4_machine.specs.Inputs.{Change, HasNoEffects, farthest}
use Rattle.mp4_machine.specs.Steps as reading
use Rattle.mp4_machine.specs.declared.stop.Stop.{Stop}
use Rattle.mp4_fragment_machine.specs.Places.{claim_of}
use Rattle.mp4_fragment_machine.specs.States.{Progress, continuation_in, place_in}
use Rattle.mp4_fragment_machine.specs.declared.state.Carried.{Carried}
use Rattle.mp4_fragment_machine.specs.declared.state.State.{State}

-- what is seen of a machine in a state
abbrev pub seen : Carried → State → Progress
seen k s = record { operation = k.operation; tracks = k.tracks; header_bytes = k.header_bytes; state = s; counter = k.counter }

-- it took so many, and may be fed more
pub record HasFed (a : Change) (old new : Progress) (input : List ℕ) (n : ℕ) : Type 0 where
  pub some : 0 < n
  pub most : n ≤ length input
  pub step : reading.GoesTo a (continuation_in old) (take n input) (continuation_in new)
  pub quiet : HasNoEffects (continuation_in new)
  pub near : (continuation_in new).reached ≤ farthest
  pub operation : new.operation ≡ old.operation

-- it stopped, and everything that it had claimed was given back
pub record HasEnded (a : Change) (old new : Progress) (input : List ℕ) (e : Stop) : Type 0 where
  pub step : reading.StopsIn a (continuation_in old) input e
  pub spent : claim_of (place_in new) ≡ 0
  pub operation : new.operation ≡ old.operation

-- one or the other, by the result
abbrev pub Feeds : Change → (old new : Progress) → List ℕ → Result ℕ Stop → Type 0
Feeds a old new input (Ok n) = HasFed a old new input n
Feeds a old new input (Err e) = HasEnded a old new input e
