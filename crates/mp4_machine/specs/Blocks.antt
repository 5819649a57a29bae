-- Text that is written to a sink through a block, which buffers it.
use Rattle.std.specs.Prelude.{◌≡◌, ℕ, ◌+◌, ◌<◌, List, [], ◌++◌, length, Option}
use Rattle.std.specs.Io.KnownBytes.{Appends}
use Rattle.mp4_machine.specs.Readings.{moved, whole_in}
use Rattle.mp4_machine.specs.declared.fragment_end.FragmentEnd.{FragmentEnd}

-- bytes that are buffered, where fragments end in them, and how many fragments are whole in what was sent
pub record Pending : Type 0 where
  pub bytes : List ℕ
  pub ends : List FragmentEnd
  pub whole : ℕ

-- nothing is buffered, and nothing was sent
abbrev pub unused : Pending
unused = record { bytes = []; ends = []; whole = 0 }

-- everything was sent
pub record IsSent (v : Pending) : Type 0 where
  pub bytes : v.bytes ≡ []
  pub ends : v.ends ≡ []

-- how many fragments are whole once n bytes are sent of the buffered bytes and a text with these marks
abbrev pub whole_by : ℕ → Pending → List FragmentEnd → ℕ
whole_by n v fragment_ends = whole_in n v.whole (v.ends ++ moved (length v.bytes) fragment_ends)

-- text with these marks was appended to the buffered bytes. A prefix of all this was sent, the rest is buffered.
-- However many more bytes are sent, as many fragments are whole as before
pub record PassesMarked (output output' : Option (List ℕ)) (v w : Pending) (text : List ℕ) (fragment_ends : List FragmentEnd) : Type 0 where
  pub sent : List ℕ
  pub written : Appends output output' sent
  pub all : v.bytes ++ text ≡ sent ++ w.bytes
  pub alike : (n : ℕ) → whole_by (length sent + n) v fragment_ends ≡ whole_in n w.whole w.ends

-- text without marks
abbrev pub Passes : (output output' : Option (List ℕ)) (v w : Pending) (text : List ℕ) → Type 0
Passes output output' v w text = PassesMarked output output' v w text []

-- a write failed: the sink took a proper prefix of the buffered bytes and a text with these marks, and the number of whole fragments in it is known
pub record BreaksMarked (output output' : Option (List ℕ)) (v w : Pending) (text : List ℕ) (fragment_ends : List FragmentEnd) : Type 0 where
  pub front : List ℕ
  pub rest : List ℕ
  pub written : Appends output output' front
  pub all : v.bytes ++ text ≡ front ++ rest
  pub short : 0 < length rest
  pub whole : w.whole ≡ whole_by (length front) v fragment_ends

abbrev pub Breaks : (output output' : Option (List ℕ)) (v w : Pending) (text : List ℕ) → Type 0
Breaks output output' v w text = BreaksMarked output output' v w text []
