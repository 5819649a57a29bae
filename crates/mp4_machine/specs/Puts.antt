-- Calls that append text to a block, which buffers it for a sink, or write it.
use Rattle.std.specs.Prelude.{◌≡◌, ℕ, List, [], true, Result, Ok, Err}
use Rattle.std.specs.Io.KnownBytes.{Appends}
use Rattle.mp4_ends.specs.Streams.{AppendsPrefix}
use Rattle.mp4_machine.specs.Blocks.{BreaksMarked, PassesMarked, Pending}
use Rattle.mp4_machine.specs.Ends.{Sent}
use Rattle.mp4_machine.specs.declared.fragment_end.FragmentEnd.{FragmentEnd}

-- text with these marks was appended to the buffered bytes
pub record HasPut (s : Sent) (v w : Pending) (text : List ℕ) (fragment_ends : List FragmentEnd) : Type 0 where
  pub passes : PassesMarked s.written s.written' v w text fragment_ends
  pub unfailed : s.failed' ≡ s.failed

-- the sink failed, and took a prefix of the buffered bytes and the text
pub record HasFailed (s : Sent) (v w : Pending) (text : List ℕ) (fragment_ends : List FragmentEnd) : Type 0 where
  pub breaks : BreaksMarked s.written s.written' v w text fragment_ends
  pub failed : s.failed' ≡ true

-- one or the other, by the result
abbrev pub PutsMarked : {T E : Type 0} → Sent → (v w : Pending) → (text : List ℕ) → (fragment_ends : List FragmentEnd) → Result T E → Type 0
PutsMarked s v w text fragment_ends (Ok x) = HasPut s v w text fragment_ends
PutsMarked s v w text fragment_ends (Err e) = HasFailed s v w text fragment_ends

-- the same for text without a mark
abbrev pub Puts : {T E : Type 0} → Sent → (v w : Pending) → (text : List ℕ) → Result T E → Type 0
Puts s v w text r = PutsMarked s v w text [] r

-- the sink took the text
pub record HasWritten (s : Sent) (text : List ℕ) : Type 0 where
  pub appends : Appends s.written s.written' text
  pub unfailed : s.failed' ≡ s.failed

-- it failed, and took a prefix
pub record HasFailedIn (s : Sent) (text : List ℕ) : Type 0 where
  pub prefix : AppendsPrefix s.written s.written' text
  pub failed : s.failed' ≡ true

-- one or the other, by the result
abbrev pub Writes : {T E : Type 0} → Sent → (text : List ℕ) → Result T E → Type 0
Writes s text (Ok x) = HasWritten s text
Writes s text (Err e) = HasFailedIn s text
