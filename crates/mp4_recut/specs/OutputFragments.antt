-- The output of a fragment: for each piece bytes that are made, and then a span of the stream that is copied.
use Rattle.std.specs.Prelude.{◌≡◌, ℕ, zero, suc, ◌+◌, ◌-◌, ◌<◌, ◌≤◌, List, [], ◌∷◌, ◌++◌, length, take, drop, if◌then◌else◌, nat_lt}
use Rattle.std.specs.List.{AllByRecursion}
use Rattle.mp4_machine.specs.Readings.{Effects, no_effects, says, both, moved, writes_fragments}
use Rattle.mp4_machine.specs.declared.fragment_end.FragmentEnd.{FragmentEnd}

-- an output fragment: the bytes that are made (an index where a group begins, the moof of the piece and the header of its mdat), where the
-- moof ends in them, with its number, and the span of the stream that is copied after them: the media of the piece
pub record OutputFragment : Type 0 where
  pub head : List ℕ
  pub mark : FragmentEnd
  pub place : ℕ
  pub len : ℕ

-- its head is written, and one fragment of the output is counted
abbrev pub opens : OutputFragment → Effects
opens p = record { text = p.head; requests = []; fragment_ends = p.mark ∷ []; tally = writes_fragments 1 }

-- ---- as bytes come

-- the first n bytes are written, then the rest has the effects `more`; where fewer came, all of them are written
abbrev pub span_of : ℕ → List ℕ → (List ℕ → Effects) → Effects
span_of n bytes more = if nat_lt (length bytes) n then says bytes else both (says (take n bytes)) (more (drop n bytes))

-- of bytes that begin at the stream offset `at`, those before the span are passed over, the span is written,
-- and the bytes after it have the effects `more`. A span without bytes is nowhere
abbrev pub span_from : (at place len : ℕ) → (ℕ → List ℕ → Effects) → List ℕ → Effects
span_from at place zero more bytes = more at bytes
span_from at place (suc n) more bytes = span_of (suc n) (drop (place - at) bytes) (more (at + (place - at) + suc n))

-- the effects of bytes that begin at the stream offset `at`, fragment after fragment.
-- Each head is written as soon as the span before it has been, and each span as far as its bytes came
abbrev pub output_of : ℕ → List OutputFragment → List ℕ → Effects
output_of at [] bytes = no_effects
output_of at (p ∷ ps) bytes = both (opens p) (span_from at p.place p.len (λ next rest. output_of next ps rest) bytes)

-- ---- of a whole payload

-- the heads and spans of all output fragments, one after the other, in a payload that begins at the stream offset `start`
abbrev pub slices : ℕ → List ℕ → List OutputFragment → List ℕ
slices start payload [] = []
slices start payload (p ∷ ps) = p.head ++ (take p.len (drop (p.place - start) payload) ++ slices start payload ps)

-- where the moofs of all output fragments end in that text
abbrev pub fragment_ends_in : ℕ → List ℕ → List OutputFragment → List FragmentEnd
fragment_ends_in start payload [] = []
fragment_ends_in start payload (p ∷ ps) = p.mark ∷ moved (length p.head) (moved (length (take p.len (drop (p.place - start) payload))) (fragment_ends_in start payload ps))

-- the span begins no earlier than `at` and ends by `end`, and `more` holds at its end. A span without bytes is nowhere
abbrev pub ascends_from : (at end place len : ℕ) → (ℕ → Type 0) → Type 0
ascends_from at end place zero more = more at
ascends_from at end place (suc n) more = (at ≤ place) × (place + suc n ≤ end) × more (place + suc n)

-- each span begins no earlier than the one before it ends, and all end by `end`
abbrev pub Ascends : ℕ → ℕ → List OutputFragment → Type 0
Ascends at end [] = at ≤ end
Ascends at end (p ∷ ps) = ascends_from at end p.place p.len (λ next. Ascends next end ps)

-- ---- of a prefix of a payload

-- all bytes of the span of this output fragment lie before the stream offset `at`. A span without bytes is nowhere
abbrev pub CameWhole : ℕ → OutputFragment → Type 0
CameWhole at p = 0 < p.len → p.place + p.len ≤ at

-- there is no next output fragment, or its span has bytes at or after the stream offset `at`
abbrev pub IsMissing : ℕ → List OutputFragment → Type 0
IsMissing at [] = Unit {0}
IsMissing at (p ∷ ps) = (0 < p.len) × (at < p.place + p.len)

-- the head of the next output fragment, if there is one, and the bytes of its span that came: these begin at the stream offset `start`
abbrev pub open_fragment : ℕ → List ℕ → List OutputFragment → List ℕ
open_fragment start came [] = []
open_fragment start came (p ∷ ps) = p.head ++ drop (p.place - start) came

-- the first n bytes came of a payload that begins at the stream offset `start`: some output fragments that are whole, and
-- those after them, the first of which waits for bytes
pub record CameOf (start n : ℕ) (ps : List OutputFragment) : Type 0 where
  pub whole : List OutputFragment
  pub later : List OutputFragment
  pub all : ps ≡ whole ++ later
  pub came : AllByRecursion (CameWhole (start + n)) whole
  pub missing : IsMissing (start + n) later

-- effects that write this text, in which moofs end so, and count so many fragments of the output
abbrev pub fragments_effects : List ℕ → List FragmentEnd → ℕ → Effects
fragments_effects text fragment_ends n = record { text = text; requests = []; fragment_ends = fragment_ends; tally = writes_fragments n }
