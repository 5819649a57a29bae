-- A step of a machine that lists boxes, by its result.
use Rattle.std.specs.Prelude.{◌≡◌, ℕ, ◌<◌, ◌≤◌, List, [], length, take, Result, Ok, Err}
use Rattle.mp4_machine.specs.Inputs.{Change}
use Rattle.mp4_machine.specs.Steps.{GoesTo, StopsIn}
use Rattle.mp4_machine.specs.declared.stop.Stop.{Stop}
use Rattle.mp4_boxes.specs.States.{IsState, continuation_at}
use Rattle.mp4_boxes.specs.declared.state.State.{State}
use Rattle.mp4_boxes.specs.declared.state.Taken.{Taken}

-- a step from a state that takes no bytes
abbrev pub Advances : Change → (header_bytes header_bytes' : List ℕ) → State → Result State Stop → Type 0
Advances a header_bytes header_bytes' from (Ok s) = GoesTo a (continuation_at header_bytes from) [] (continuation_at header_bytes' s) × IsState header_bytes' s
Advances a header_bytes header_bytes' from (Err e) = StopsIn a (continuation_at header_bytes from) [] e × (header_bytes' ≡ [])

-- a step that takes some bytes from the front of the input
abbrev pub Consumes : Change → (header_bytes header_bytes' : List ℕ) → State → List ℕ → Result Taken Stop → Type 0
Consumes a header_bytes header_bytes' from input (Ok t) = (0 < t.count) × (t.count ≤ length input) × GoesTo a (continuation_at header_bytes from) (take t.count input) (continuation_at header_bytes' t.state) × IsState header_bytes' t.state
Consumes a header_bytes header_bytes' from input (Err e) = StopsIn a (continuation_at header_bytes from) input e × (header_bytes' ≡ [])
