-- State of the sources and sinks of this crate.
use Rattle.std.specs.Prelude.{ℕ, List, [], Bool, true, false, Option, Some}
use Rattle.mp4_ends.specs.declared.adapters.State.{State}
use Rattle.mp4_ends.specs.declared.adapters.State.TheVariants.{Open, Ended, Broken}

abbrev pub state_failed : State → Bool
state_failed Open = false
state_failed Ended = false
state_failed Broken = true

abbrev pub state_ended : State → Bool
state_ended Open = false
state_ended Ended = true
state_ended Broken = false

-- the bytes that reads will still give: none after the end, else those of the reader within
abbrev pub left_in : State → Option (List ℕ) → Option (List ℕ)
left_in Open known = known
left_in Ended known = Some []
left_in Broken known = known

-- how many bytes the last read gave, where it gave any: none after the end or a failure
abbrev pub last_in : State → ℕ → ℕ
last_in Open n = n
last_in Ended n = 0
last_in Broken n = 0

-- a reader of std's, its state, and how many bytes the last read gave that gave any
pub record AdaptedReader (A : Type 0) : Type 0 where
  pub inner : A
  pub state : State
  pub last : ℕ

-- a writer of std's, and its state
pub record AdaptedWriter (A : Type 0) : Type 0 where
  pub inner : A
  pub state : State

-- bytes in memory that are still to be given, at most `step` a read, and how many the last read gave that gave any
pub record SliceEnd : Type 0 where
  pub left : List ℕ
  pub step : ℕ
  pub fails : Bool
  pub state : State
  pub last : ℕ

-- memory that takes at most `step` bytes a write and `room` in all
pub record VecEnd : Type 0 where
  pub taken : List ℕ
  pub room : ℕ
  pub step : ℕ
  pub flushes : Bool
  pub broken : Bool
