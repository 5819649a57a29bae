-- What a machine does after some bytes of a stream when it is fed the next input, whatever it reads.
use Rattle.std.specs.Prelude.{◌≡◌, ℕ, ◌+◌, ◌<◌, ◌≤◌, List, ◌∷◌, ◌++◌, length, take, Option, Some}
use Rattle.std.specs.Io.KnownBytes.{Appends}
use Rattle.mp4_ends.specs.Streams.{AppendsPrefix}
use Rattle.mp4_ledger.specs.Memory.{Account}
use Rattle.mp4_machine.specs.Accounts.{Counts, Spends}
use Rattle.mp4_machine.specs.Ends.{Sent}
use Rattle.mp4_machine.specs.Readings.{ArePast, Request, AtMost, Reading, Effects, both, decided_in, most_of, whole_in}
use Rattle.mp4_machine.specs.declared.fragment_end.FragmentEnd.{FragmentEnd}
use Rattle.mp4_machine.specs.declared.stop.Stop.{Stop}
use Rattle.mp4_machine.specs.declared.stop.Stop.TheVariants.{Stream, Read, Write, OverLimit, Memory}
use Rattle.mp4_machine.specs.declared.tally.Tally.{Tally}

-- what a call borrows, before and after it: the bytes its writer took, how many fragments are whole in them, and the account of its ledger
pub record Borrowed : Type 0 where
  pub written : Option (List ℕ)
  pub written' : Option (List ℕ)
  pub whole : ℕ
  pub whole' : ℕ
  pub account : Account
  pub account' : Account

abbrev pub borrowed : Sent → (whole whole' : ℕ) → (account account' : Account) → Borrowed
borrowed s whole whole' account account' = record { written = s.written; written' = s.written'; whole = whole; whole' = whole'; account = account; account' = account' }

-- what was counted of the bytes so far, and the most that was claimed for them at once
pub record Sums : Type 0 where
  pub tally : Tally
  pub peak : ℕ

-- the same, from the effects of these bytes
abbrev pub sums_in : Effects → Sums
sums_in t = record { tally = t.tally; peak = most_of t }

-- so many fragments are whole in the text of these effects, and in any longer text that begins with it
abbrev pub AllWhole : Effects → ℕ → Type 0
AllWhole t fragments = (n : ℕ) → whole_in (length t.text + n) 0 t.fragment_ends ≡ fragments

-- ---- the bytes b had been fed in inputs, then b' with `own` bytes claimed before, and `own'` now

-- the effects that b' adds to b were written and claimed, and so many fragments are whole
pub record WritesRest (reads : List ℕ → Reading) (b b' : List ℕ) (l : Borrowed) (own own' : ℕ) : Type 0 where
  pub effects : Effects
  pub all : (reads b').effects ≡ both (reads b).effects effects
  pub text : Appends l.written l.written' effects.text
  pub fragments : (n : ℕ) → whole_in (length effects.text + n) l.whole effects.fragment_ends ≡ l.whole'
  pub counts : Counts l.account l.account' own own' (most_of effects)

-- a write failed: a prefix of the text was written, and the number of whole fragments in it is known.
-- No more was claimed than the bytes request, and no more counted
pub record WritesPrefixOfRest (reads : List ℕ → Reading) (b b' : List ℕ) (l : Borrowed) (own : ℕ) (s : Sums) : Type 0 where
  pub effects : Effects
  pub all : (reads b').effects ≡ both (reads b).effects effects
  pub text : AppendsPrefix l.written l.written' effects.text
  pub fragments : l.whole' ≡ whole_in (length text.0) l.whole effects.fragment_ends
  pub spends : Spends l.account l.account' own 0 (most_of effects)
  pub least : AtMost (reads b).effects.tally s.tally
  pub most : AtMost s.tally (reads b').effects.tally
  pub peak_least : most_of (reads b).effects ≤ s.peak
  pub peak_most : s.peak ≤ most_of (reads b').effects

-- a box requested memory that was refused: the effects before the request were written, claimed and counted.
-- All other fragments end after the text before it
pub record ClaimRefusedAfter (reads : List ℕ → Reading) (b b' : List ℕ) (l : Borrowed) (own : ℕ) (s : Sums) : Type 0 where
  pub request : Request
  pub effects : Effects
  pub requested : (later : List Request) × ((reads b').effects.requests ≡ (both (reads b).effects effects).requests ++ request ∷ later)
  pub placed : request.text_before ≡ length (reads b).effects.text + length effects.text
  pub front : take request.text_before (reads b').effects.text ≡ (reads b).effects.text ++ effects.text
  pub marked : (later : List FragmentEnd) × ((reads b').effects.fragment_ends ≡ (both (reads b).effects effects).fragment_ends ++ later) × ArePast request.text_before later
  pub text : Appends l.written l.written' effects.text
  pub fragments : (n : ℕ) → whole_in (length effects.text + n) l.whole effects.fragment_ends ≡ l.whole'
  pub counts : Counts l.account l.account' own 0 (most_of effects)
  pub sums : s ≡ record { tally = request.counted; peak = most_of (both (reads b).effects effects) }
  pub most : AtMost s.tally (reads b').effects.tally

-- how a call stops that is fed the input after the bytes b: at a fault that these bytes decide, at a failed write, or at a refused claim
abbrev pub FedUntil : (reads : List ℕ → Reading) → (b input : List ℕ) → Borrowed → (own : ℕ) → Sums → Stop → Type 0
FedUntil reads b input l own s (Stream f) = WritesRest reads b (b ++ input) l own 0 × (decided_in (reads (b ++ input)).outcome ≡ Some f) × (s ≡ sums_in (reads (b ++ input)).effects)
FedUntil reads b input l own s (Read at) = ⊥
FedUntil reads b input l own s Write = WritesPrefixOfRest reads b (b ++ input) l own s
FedUntil reads b input l own s OverLimit = (r : ClaimRefusedAfter reads b (b ++ input) l own s) × (l.account'.limit < l.account'.live + r.request.sum)
FedUntil reads b input l own s Memory = (r : ClaimRefusedAfter reads b (b ++ input) l own s) × (l.account'.live + r.request.sum ≤ l.account'.limit)
