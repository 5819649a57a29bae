-- A stream that is read item by item, whatever its items are.
use Rattle.std.specs.Prelude.{◌≡◌, ℕ, zero, suc, ◌+◌, ◌<◌, ◌≤◌, List, [], ◌∷◌, ◌++◌, length, max, nat_lt, if◌then◌else◌, Option, None, Some}
use Rattle.std.specs.List.{AllByRecursion}
use Rattle.mp4_box.specs.declared.rules.Fault.{Fault}
use Rattle.mp4_machine.specs.declared.fragment_end.FragmentEnd.{FragmentEnd}
use Rattle.mp4_machine.specs.declared.tally.Tally.{Tally}

-- ---- how reading some bytes ends

pub data Outcome : Type 0 where
  -- without a fault
  Sound : Outcome
  -- with a fault that the bytes decide
  Faulty : Fault → Outcome
  -- with a fault if no byte follows
  CutOff : Fault → Outcome

-- fault of a stream that is exactly these bytes
abbrev pub fault_in : Outcome → Option Fault
fault_in Sound = None
fault_in (Faulty f) = Some f
fault_in (CutOff f) = Some f

-- fault of every stream that begins with these bytes
abbrev pub decided_in : Outcome → Option Fault
decided_in Sound = None
decided_in (Faulty f) = Some f
decided_in (CutOff f) = None

-- ---- counts of some bytes

abbrev pub uncounted : Tally
uncounted = record { fragments = 0; samples = 0; media_bytes = 0; inspected = 0 }

-- the samples of a moof are read, to know whether its rules hold
abbrev pub inspects : ℕ → Tally
inspects n = record { fragments = 0; samples = 0; media_bytes = 0; inspected = n }

-- a fragment is accepted, with so many samples and bytes of media
abbrev pub accepts : (samples bytes : ℕ) → Tally
accepts n bytes = record { fragments = 1; samples = n; media_bytes = bytes; inspected = 0 }

-- the same where fragments are counted as they are written
abbrev pub accepts_samples : (samples bytes : ℕ) → Tally
accepts_samples n bytes = record { fragments = 0; samples = n; media_bytes = bytes; inspected = 0 }

-- so many fragments are written
abbrev pub writes_fragments : ℕ → Tally
writes_fragments n = record { fragments = n; samples = 0; media_bytes = 0; inspected = 0 }

abbrev pub plus : Tally → Tally → Tally
plus s t = record { fragments = s.fragments + t.fragments; samples = s.samples + t.samples; media_bytes = s.media_bytes + t.media_bytes; inspected = s.inspected + t.inspected }

-- t counts at least what s counts
pub record AtMost (s t : Tally) : Type 0 where
  pub fragments : s.fragments ≤ t.fragments
  pub samples : s.samples ≤ t.samples
  pub media_bytes : s.media_bytes ≤ t.media_bytes
  pub inspected : s.inspected ≤ t.inspected

-- ---- where fragments end in a text

-- the same mark in a text with n bytes before it
abbrev pub moved_by : ℕ → FragmentEnd → FragmentEnd
moved_by n m = record { end = n + m.end; count = m.count }

abbrev pub moved : ℕ → List FragmentEnd → List FragmentEnd
moved n [] = []
moved n (m ∷ fragment_ends) = moved_by n m ∷ moved n fragment_ends

-- how many fragments are whole in the first n bytes of a text: the count of the last mark within them, else `before`
abbrev pub whole_in : (n before : ℕ) → List FragmentEnd → ℕ
whole_in n before [] = before
whole_in n before (m ∷ fragment_ends) = whole_in n (if nat_lt n m.end then before else m.count) fragment_ends

-- ---- the effects of some bytes

-- a box requests memory: the offset where it begins, how many bytes are claimed by the machine with this request,
-- the length of the text before it, and what is counted before it
pub record Request : Type 0 where
  pub at : ℕ
  pub sum : ℕ
  pub text_before : ℕ
  pub counted : Tally

-- the most that is claimed at once: 0 where nothing is requested
abbrev pub greatest : List Request → ℕ
greatest [] = 0
greatest (a ∷ requests) = max a.sum (greatest requests)

-- their text, the memory that their boxes request in order, where fragments end in the text, and
-- the counts
pub record Effects : Type 0 where
  pub text : List ℕ
  pub requests : List Request
  pub fragment_ends : List FragmentEnd
  pub tally : Tally

abbrev pub no_effects : Effects
no_effects = record { text = []; requests = []; fragment_ends = []; tally = uncounted }

-- a text
abbrev pub says : List ℕ → Effects
says text = record { text = text; requests = []; fragment_ends = []; tally = uncounted }

-- only these counts
abbrev pub counts : Tally → Effects
counts tally = record { text = []; requests = []; fragment_ends = []; tally = tally }

-- a box at an offset requests memory, with which so much is claimed
abbrev pub requests_memory : (at sum : ℕ) → Effects
requests_memory at sum = record { text = []; requests = record { at = at; sum = sum; text_before = 0; counted = uncounted } ∷ []; fragment_ends = []; tally = uncounted }

-- a request that comes after these effects
abbrev pub shifted_by : Effects → Request → Request
shifted_by s a = record { at = a.at; sum = a.sum; text_before = length s.text + a.text_before; counted = plus s.tally a.counted }

abbrev pub shifted : Effects → List Request → List Request
shifted s [] = []
shifted s (a ∷ requests) = shifted_by s a ∷ shifted s requests

-- one after the other
abbrev pub both : Effects → Effects → Effects
both s t = record { text = s.text ++ t.text; requests = s.requests ++ shifted s t.requests; fragment_ends = s.fragment_ends ++ moved (length s.text) t.fragment_ends; tally = plus s.tally t.tally }

-- the most that is claimed at once
abbrev pub most_of : Effects → ℕ
most_of t = greatest t.requests

-- ---- how some bytes are read

-- their effects, and how their reading ends
pub record Reading : Type 0 where
  pub effects : Effects
  pub outcome : Outcome

abbrev pub empty_reading : Reading
empty_reading = record { effects = no_effects; outcome = Sound }

-- the same after these effects
abbrev pub after : Effects → Reading → Reading
after effects r = record { effects = both effects r.effects; outcome = r.outcome }

-- what is at the front of some bytes: the last thing that is read of them, or a whole item.
-- An item has its effects, the context of what follows, and the bytes that follow
pub data FirstItem (C : Type 0) : Type 0 where
  Last : Reading → FirstItem C
  Whole : Effects → C → List ℕ → FirstItem C

abbrev pub after_effects : {C : Type 0} → Effects → FirstItem C → FirstItem C
after_effects effects (Last r) = Last (after effects r)
after_effects effects (Whole more next rest) = Whole (both effects more) next rest

-- how some bytes are read by their first item, given how the bytes after it are read
abbrev pub then_read : {C : Type 0} → (C → List ℕ → Reading) → FirstItem C → Reading
then_read rest_of (Last r) = r
then_read rest_of (Whole effects next rest) = after effects (rest_of next rest)

-- item after item, at most so many
abbrev pub read_at_most : {C : Type 0} → (C → List ℕ → FirstItem C) → ℕ → C → List ℕ → Reading
read_at_most first_item zero c bytes = empty_reading
read_at_most first_item (suc n) c bytes = then_read (λ next rest. read_at_most first_item n next rest) (first_item c bytes)

-- item after item: each whole item has at least one byte
unfoldable pub read_all : {C : Type 0} → (C → List ℕ → FirstItem C) → C → List ℕ → Reading
read_all first_item c bytes = read_at_most first_item (length bytes) c bytes

-- ---- what more bytes change

abbrev pub IsPrefix : {X : Type 0} → List X → List X → Type 0
IsPrefix {X = X} xs ys = (rest : List X) × (xs ++ rest ≡ ys)

-- each of these fragments ends past the first n bytes of a text
abbrev pub ArePast : ℕ → List FragmentEnd → Type 0
ArePast n fragment_ends = AllByRecursion (λ m. n < m.end) fragment_ends

-- t extends s: fragments that are whole in the text of s stay so, and no others become whole in it
pub record Extends (s t : Effects) : Type 0 where
  pub text : IsPrefix s.text t.text
  pub requests : IsPrefix s.requests t.requests
  pub fragment_ends : (later : List FragmentEnd) × (s.fragment_ends ++ later ≡ t.fragment_ends) × ArePast (length s.text) later
  pub tally : AtMost s.tally t.tally

-- more bytes may add effects, and nothing once a fault is decided
pub record GrowsTo (r s : Reading) : Type 0 where
  pub effects : Extends r.effects s.effects
  pub early : (f : Fault) → decided_in r.outcome ≡ Some f → s ≡ r
