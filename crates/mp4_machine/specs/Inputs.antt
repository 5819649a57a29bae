-- A machine that is fed a stream in inputs, whatever it reads.
use Rattle.std.specs.Prelude.{◌≡◌, ℕ, ◌+◌, ◌<◌, ◌≤◌, List, [], ◌++◌, length, Bool, true, Option, None, Result, IfOk, IfErr, OnOk, OnErr, IsErrOf}
use Rattle.mp4_box.specs.Headers.{IsBytes}
use Rattle.mp4_box.specs.declared.rules.Fault.{Fault}
use Rattle.mp4_ledger.specs.Memory.{Account}
use Rattle.mp4_ledger.specs.declared.ledger.Refused.{Refused}
use Rattle.mp4_ledger.specs.declared.ledger.Refused.TheVariants as refusals
use Rattle.mp4_machine.specs.Accounts.{Counts, Spends}
use Rattle.mp4_machine.specs.Blocks.{BreaksMarked, IsSent, PassesMarked, Pending}
use Rattle.mp4_machine.specs.Bodies.{longest}
use Rattle.mp4_machine.specs.Ends.{Sent}
use Rattle.mp4_machine.specs.Readings.{ArePast, AtMost, plus, uncounted, empty_reading, Effects, no_effects, requests_memory, most_of, Reading, Faulty, decided_in, after}
use Rattle.mp4_machine.specs.declared.stop.Stop.{Stop}
use Rattle.mp4_machine.specs.declared.stop.Stop.TheVariants.{Stream, Read, Write, OverLimit, Memory}
use Rattle.mp4_machine.specs.declared.tally.Tally.{Tally}

-- environment of a machine: what its writer took, the buffered bytes, the account of its ledger, and what it has counted
pub record Environment : Type 0 where
  pub written : Option (List ℕ)
  pub waiting : Pending
  pub account : Account
  pub tally : Tally

-- where a machine is and how the rest is read: the offset of the next byte, the reading of the remaining bytes, and how many bytes are claimed
pub record Continuation : Type 0 where
  pub reached : ℕ
  pub reads : List ℕ → Reading
  pub claim : ℕ

-- nothing is pending: the end of the stream has no effects, and no fault is decided
pub record HasNoEffects (p : Continuation) : Type 0 where
  pub effects : (p.reads []).effects ≡ no_effects
  pub early : decided_in (p.reads []).outcome ≡ None

-- the greatest offset of a machine: within a header that crosses the longest stream
abbrev pub farthest : ℕ
farthest = longest + 31

-- no byte has come: nothing is claimed or counted, and no bytes have no effects
pub record IsBegun (p : Continuation) (tally : Tally) : Type 0 where
  pub reached : p.reached ≡ 0
  pub claim : p.claim ≡ 0
  pub none : p.reads [] ≡ empty_reading
  pub counted : tally ≡ uncounted

-- ---- one input

-- how these effects change the environment: of the claimed bytes, `own` were the machine's before and `own'` are now
pub record Moves (o o' : Environment) (own own' : ℕ) (effects : Effects) : Type 0 where
  pub passes : PassesMarked o.written o'.written o.waiting o'.waiting effects.text effects.fragment_ends
  pub counts : Counts o.account o'.account own own' (most_of effects)
  pub tallied : o'.tally ≡ plus o.tally effects.tally

-- the input was accepted: for any later bytes, the old continuation reads these effects and then what the new one reads
pub record GoesOn (o o' : Environment) (old : Continuation) (input : List ℕ) (new : Continuation) : Type 0 where
  pub produced : Effects
  pub moves : Moves o o' old.claim new.claim produced
  pub reached : new.reached ≡ old.reached + length input
  pub rest : (later : List ℕ) → old.reads (input ++ later) ≡ after produced (new.reads later)

-- the input has effects and then a fault, whatever follows; everything claimed is given back
pub record Refuses (o o' : Environment) (old : Continuation) (input : List ℕ) (f : Fault) : Type 0 where
  pub produced : Effects
  pub moves : Moves o o' old.claim 0 produced
  pub rest : (later : List ℕ) → old.reads (input ++ later) ≡ record { effects = produced; outcome = Faulty f }

-- the input has effects, and then a box requested memory that was refused, whatever follows. Fragments of what follows end after more text
pub record ClaimRefused (o o' : Environment) (old : Continuation) (input : List ℕ) : Type 0 where
  pub produced : Effects
  pub moves : Moves o o' old.claim 0 produced
  pub at : ℕ
  pub sum : ℕ
  pub continues : List ℕ → Reading
  pub past : (later : List ℕ) → ArePast 0 (continues later).effects.fragment_ends
  pub rest : (later : List ℕ) → old.reads (input ++ later) ≡ after produced (after (requests_memory at sum) (continues later))

-- a write failed before all effects of a reading were written
pub record WriteFailed (o o' : Environment) (own : ℕ) (r : Reading) : Type 0 where
  pub text : BreaksMarked o.written o'.written o.waiting o'.waiting r.effects.text r.effects.fragment_ends
  pub spends : Spends o.account o'.account own 0 (most_of r.effects)
  pub least : AtMost o.tally o'.tally
  pub most : AtMost o'.tally (plus o.tally r.effects.tally)

-- a machine stops at the input because of a fault, a failed write, or a refused claim: nothing is claimed after that
abbrev pub StopsAt : Environment → Environment → Continuation → List ℕ → Stop → Type 0
StopsAt o o' old input (Stream f) = Refuses o o' old input f
StopsAt o o' old input (Read at) = ⊥
StopsAt o o' old input Write = (later : List ℕ) → WriteFailed o o' old.claim (old.reads (input ++ later))
StopsAt o o' old input OverLimit = (s : ClaimRefused o o' old input) × (o'.account.limit < o'.account.live + s.sum)
StopsAt o o' old input Memory = (s : ClaimRefused o o' old input) × (o'.account.live + s.sum ≤ o'.account.limit)

-- the stop for a claim that was refused so
abbrev pub refusal_of : Refused → Stop
refusal_of refusals.OverLimit = OverLimit
refusal_of refusals.Memory = Memory

-- ---- a call

abbrev pub environment : Option (List ℕ) → Pending → Account → Tally → Environment
environment written waiting account tally = record { written = written; waiting = waiting; account = account; tally = tally }

-- environment before and after a call, and whether the writer had failed and has
pub record Change : Type 0 where
  pub before : Environment
  pub after : Environment
  pub failed : Bool
  pub failed' : Bool

-- the change by a call that borrows a writer, a block, a ledger and a tally, from their old and new values
abbrev pub change : Sent → (waiting waiting' : Pending) → (account account' : Account) → (tally tally' : Tally) → Change
change s waiting waiting' account account' tally tally' = record {
  before = environment s.written waiting account tally;
  after = environment s.written' waiting' account' tally';
  failed = s.failed;
  failed' = s.failed';
}

-- a call takes bytes from the front of the input, by its result; where it stops, so does a machine that is fed the input followed by any bytes
pub record Takes {T : Type 0} (change : Change) (old : Continuation) (input : List ℕ) (taken : T → List ℕ) (new : T → Continuation) (result : Result T Stop) : Type 0 where
  pub ok : IfOk result (λ t. GoesOn change.before change.after old (taken t) (new t))
  pub err : IfErr result (λ e. (more : List ℕ) → StopsAt change.before change.after old (input ++ more) e)
  pub failed : IsErrOf result Write → change.failed' ≡ true
  pub kept : (IsErrOf result Write → ⊥) → change.failed' ≡ change.failed

-- a machine that was made for `made` takes all of the input, and what it has put is sent
pub record TakesAll {X : Type 0} (change : Change) (old : Continuation) (input : List ℕ) (new : Continuation) (made made' : X) (result : Result (Unit {0}) Stop) : Type 0 where
  pub takes : Takes change old input (λ _. input) (λ _. new) result
  pub claim : new.claim ≤ change.after.account.live
  pub quiet : OnOk result (HasNoEffects new)
  pub near : OnOk result (new.reached ≤ farthest)
  pub sent : (IsErrOf result Write → ⊥) → IsSent change.after.waiting
  pub bytes : IsBytes input
  pub spent : OnErr result (new.claim ≡ 0)
  pub task : made' ≡ made

-- ---- every list of inputs

-- a machine after the bytes b of a stream: its output so far is that of b, and the remaining bytes are read from its continuation
pub record IsAfter (reads : List ℕ → Reading) (b : List ℕ) (p : Continuation) (counted : Tally) : Type 0 where
  pub reached : p.reached ≡ length b
  pub rest : (later : List ℕ) → reads (b ++ later) ≡ after (reads b).effects (p.reads later)
  pub tally : counted ≡ (reads b).effects.tally

-- a machine was fed inputs whose join is b: it is after them, their whole text was written, and the memory that they request was claimed
pub record IsFed (reads : List ℕ → Reading) (b : List ℕ) (start now : Environment) (p : Continuation) : Type 0 where
  pub is_after : IsAfter reads b p now.tally
  pub quiet : HasNoEffects p
  pub text : PassesMarked start.written now.written start.waiting now.waiting (reads b).effects.text (reads b).effects.fragment_ends
  pub sent : IsSent now.waiting
  pub counts : Counts start.account now.account 0 p.claim (most_of (reads b).effects)
