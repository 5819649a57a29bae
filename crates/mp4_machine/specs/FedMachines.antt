-- What a machine is after the bytes of a stream that it was fed, and what a call does that feeds it the next input.
use Rattle.std.specs.Prelude.{◌≡◌, ℕ, ◌+◌, ◌-◌, ◌≤◌, List, ◌∷◌, ◌++◌, length, take, Option, None, Some, Result, Ok, Err, IfErr, OnOk, OnErr, IsErrOf, true}
use Rattle.mp4_box.specs.Headers.{IsBytes}
use Rattle.mp4_ledger.specs.Memory.{Account}
use Rattle.mp4_machine.specs.Blocks.{IsSent, Pending}
use Rattle.mp4_machine.specs.Ends.{Sent}
use Rattle.mp4_machine.specs.Fed.{AllWhole, Borrowed, FedUntil, Sums, WritesRest, borrowed, sums_in}
use Rattle.mp4_machine.specs.Inputs.{Continuation, HasNoEffects, farthest}
use Rattle.mp4_machine.specs.Inputs as inputs
use Rattle.mp4_machine.specs.Readings.{Reading, Request, decided_in, fault_in, most_of}
use Rattle.mp4_machine.specs.declared.stop.Stop.{Stop}
use Rattle.mp4_machine.specs.declared.stop.Stop.TheVariants.{Stream, Read, Write, OverLimit, Memory}
use Rattle.mp4_machine.specs.declared.tally.Tally.{Tally}

-- ---- what it is

-- the visible part of a machine that is fed: the machine, why it stopped, the most that it had claimed at once, and how
-- many fragments are whole in its output
pub record Fed (M : Type 0) : Type 0 where
  pub machine : M
  pub stop : Option Stop
  pub peak : ℕ
  pub fragments : ℕ

-- one to which no byte has come
abbrev pub unfed : {M : Type 0} → M → Fed M
unfed machine = record { machine = machine; stop = None; peak = 0; fragments = 0 }

-- the same for any machine: where it is in the stream, and what it has counted
pub record Shown : Type 0 where
  pub continuation : Continuation
  pub counted : Tally
  pub stop : Option Stop
  pub peak : ℕ
  pub fragments : ℕ

abbrev pub shown : {M : Type 0} → (continuation : M → Continuation) → (counted : M → Tally) → Fed M → Shown
shown continuation counted f = record { continuation = continuation f.machine; counted = counted f.machine; stop = f.stop; peak = f.peak; fragments = f.fragments }

-- its counts of the bytes so far, and the most that it had claimed at once
abbrev pub sums_of : Shown → Sums
sums_of p = record { tally = p.counted; peak = p.peak }

-- after the bytes b of a stream, in whatever inputs they came. It hasn't stopped, since they decide no fault and don't
-- go past the longest stream. The output of the remaining bytes follows from where it is, it has counted and claimed
-- what b does, and so many fragments are whole in the output of b as it says
pub record IsAfter (reads : List ℕ → Reading) (p : Shown) (b : List ℕ) : Type 0 where
  pub running : p.stop ≡ None
  pub bytes : IsBytes b
  pub undecided : decided_in (reads b).outcome ≡ None
  pub near : length b ≤ farthest
  pub machine : inputs.IsAfter reads b p.continuation p.counted
  pub sums : sums_of p ≡ sums_in (reads b).effects
  pub fragments : AllWhole (reads b).effects p.fragments

-- its invariant: so many bytes are claimed, nothing is buffered between two calls, and nothing is claimed after a stop
pub record IsFed (p : Shown) (claimed : ℕ) (waiting : Pending) : Type 0 where
  pub held : claimed ≡ p.continuation.claim
  pub within : p.continuation.claim ≤ p.peak
  pub quiet : p.stop ≡ None → HasNoEffects p.continuation
  pub near : p.stop ≡ None → p.continuation.reached ≤ farthest
  pub sent : p.stop ≡ None → IsSent waiting
  pub spent : (e : Stop) → p.stop ≡ Some e → p.continuation.claim ≡ 0

-- ---- what a call does

-- what the bytes b of a stream are read as has its text in order: before a request for memory is exactly the output of
-- the bytes before the box that requests it
pub record IsOrdered (reads : List ℕ → Reading) : Type 0 where
  pub before : (b : List ℕ) (earlier : List Request) (a : Request) (later : List Request) → (reads b).effects.requests ≡ earlier ++ a ∷ later → take a.text_before (reads b).effects.text ≡ (reads (take a.at b)).effects.text

-- where a claim was refused, what was written of the stream is the output of the bytes before the box
abbrev pub WritesBefore : (reads : List ℕ → Reading) → (b input : List ℕ) → (l : Borrowed) → (own : ℕ) → (s : Sums) → (e : Stop) → FedUntil reads b input l own s e → Type 0
WritesBefore reads b input l own s OverLimit until = (reads (take until.0.request.at (b ++ input))).effects.text ≡ (reads b).effects.text ++ until.0.effects.text
WritesBefore reads b input l own s Memory until = (reads (take until.0.request.at (b ++ input))).effects.text ≡ (reads b).effects.text ++ until.0.effects.text
WritesBefore reads b input l own s (Stream f) until = Unit {0}
WritesBefore reads b input l own s (Read at) until = Unit {0}
WritesBefore reads b input l own s Write until = Unit {0}

-- it never has more claimed than the bytes request, and is never over a limit that allows so much in addition to what
-- others have
pub record ClaimsByRequests {T : Type 0} (reads : List ℕ → Reading) (b : List ℕ) (peak others limit : ℕ) (result : Result T Stop) : Type 0 where
  pub most : peak ≤ most_of (reads b).effects
  pub enough : others + most_of (reads b).effects ≤ limit → IsErrOf result OverLimit → ⊥

-- after the bytes b it is fed the input. It is Ok where no fault is decided, and then all output that these bytes add was
-- written; else it stops
pub record Feeds {T : Type 0} (reads : List ℕ → Reading) (b input : List ℕ) (p p' : Shown) (l : Borrowed) (result : Result T Stop) : Type 0 where
  pub bytes : IsBytes (b ++ input)
  pub ok : OnOk result (IsAfter reads p' (b ++ input) × WritesRest reads b (b ++ input) l p.continuation.claim p'.continuation.claim)
  pub err : IfErr result (λ e. (until : FedUntil reads b input l p.continuation.claim (sums_of p') e) × WritesBefore reads b input l p.continuation.claim (sums_of p') e until)
  pub claims : ClaimsByRequests reads (b ++ input) p'.peak (l.account.live - p.continuation.claim) l.account.limit result

-- a call feeds it the input, whatever bytes it is after, and borrows a writer and the ledger with these accounts: what it
-- claims is claimed there, and nothing of it after a stop
pub record FeedsInput {X T : Type 0} (p p' : Shown) (made made' : X) (s : Sent) (account account' : Account) (input : List ℕ) (result : Result T Stop) : Type 0 where
  pub feeds : (reads : List ℕ → Reading) (b : List ℕ) → IsOrdered reads → IsAfter reads p b → Feeds reads b input p p' (borrowed s p.fragments p'.fragments account account') result
  pub task : made' ≡ made
  pub runs : OnOk result (p'.stop ≡ None)
  pub stops : IfErr result (λ e. p'.stop ≡ Some e)
  pub spent : OnErr result (p'.continuation.claim ≡ 0)
  pub failed : p.stop ≡ None → IsErrOf result Write → s.failed' ≡ true
  pub kept : (IsErrOf result Write → ⊥) → s.failed' ≡ s.failed
  pub live : account'.live + p.continuation.claim ≡ account.live + p'.continuation.claim
  pub limit : account'.limit ≡ account.limit
  pub claim : p'.continuation.claim ≤ account'.live

-- the end of a stream of the bytes b
abbrev pub Finishes : {T : Type 0} → (reads : List ℕ → Reading) → (b : List ℕ) → Result T Stop → Type 0
Finishes reads b (Ok _) = fault_in (reads b).outcome ≡ None
Finishes reads b (Err (Stream fault)) = fault_in (reads b).outcome ≡ Some fault
Finishes reads b (Err (Read at)) = ⊥
Finishes reads b (Err Write) = ⊥
Finishes reads b (Err OverLimit) = ⊥
Finishes reads b (Err Memory) = ⊥
