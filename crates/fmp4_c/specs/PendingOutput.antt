-- Output that waits to be taken.
use Rattle.std.specs.Prelude.{ℕ, List, [], ◌∷◌, ◌++◌, take, nat_lt, if◌then◌else◌, Bool, false, Some}
use Rattle.mp4_machine.specs.Ends.{Sent}

-- the bytes that were written and not yet taken, how many may wait, and whether a write found no room
pub record PendingOutput : Type 0 where
  pub bytes : List ℕ
  pub room : ℕ
  pub failed : Bool

-- none yet
abbrev pub empty : ℕ → PendingOutput
empty room = record { bytes = []; room = room; failed = false }

-- whether a buffer that is filled up to a place, and the room that comes after it, have no place for a byte: a write to the room found none
abbrev pub is_full : (at len : ℕ) → (failed : Bool) → Bool
is_full at len failed = if nat_lt at len then false else failed

-- what a buffer that is filled up to a place and the room that comes after it hold: which buffer and which room these are, how much the
-- room can hold, and the bytes
abbrev pub ahead : (buffer rest room at : ℕ) → (filled waiting : List ℕ) → List ℕ
ahead buffer rest room at filled waiting = buffer ∷ rest ∷ room ∷ (take at filled ++ waiting)

-- the same before and after a call
abbrev pub ahead_sent : (buffer rest at at' : ℕ) → (filled filled' : List ℕ) → (waiting waiting' : PendingOutput) → Sent
ahead_sent buffer rest at at' filled filled' waiting waiting' = record {
  written = Some (ahead buffer rest waiting.room at filled waiting.bytes);
  written' = Some (ahead buffer rest waiting'.room at' filled' waiting'.bytes);
  failed = waiting.failed;
  failed' = waiting'.failed;
}
