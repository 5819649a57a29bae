-- Only the code's own way; no public clause needs this.
-- A step of a machine, by the result.
use Rattle.std.specs.Prelude.{◌≡◌, ℕ, ◌+◌, ◌<◌, ◌≤◌, List, [], length, take, Bool, Option, Result, Ok, Err}
use Rattle.mp4_box.specs.Headers.{HasRoom, header_at, need}
use Rattle.mp4_box.specs.declared.headers.Header.{Header}
use Rattle.mp4_box.specs.declared.headers.Step.TheVariants as steps
use Rattle.mp4_ledger.specs.Memory.{Account, given_back}
use Rattle.mp4_machine.specs.Blocks.{Pending}
use Rattle.mp4_machine.specs.Inputs.{Change, Environment, environment}
use Rattle.mp4_machine.specs.Steps as reading
use Rattle.mp4_machine.specs.declared.stop.Stop.{Stop}
use Rattle.mp4_grammar.specs.Contexts.{table_of}
use Rattle.mp4_recut.specs.Operations.{operation_meaning, number_in}
use Rattle.mp4_recut.specs.declared.operation.Operation.{Operation}
use Rattle.mp4_fragment_machine.specs.Places.{Place, Untouched, claim_of, continuation_at}
use Rattle.mp4_fragment_machine.specs.States.{HasCounted, HasStopped, IsPendingMoof, IsState, place_of, stopped}
use Rattle.mp4_fragment_machine.specs.declared.state.Carried.{Carried}
use Rattle.mp4_fragment_machine.specs.declared.state.State.{State}
use Rattle.mp4_fragment_machine.specs.declared.state.State.TheVariants as states
use Rattle.mp4_fragment_machine.specs.declared.state.Taken.{Taken}
use Rattle.mp4_fragment_machine.specs.declared.pending_moof.PendingMoof.{PendingMoof}

-- ---- what a step borrows, apart from the machine

-- a writer, a block and a ledger, with their old and new values
pub record Borrowed : Type 0 where
  pub written : Option (List ℕ)
  pub written' : Option (List ℕ)
  pub failed : Bool
  pub failed' : Bool
  pub waiting : Pending
  pub waiting' : Pending
  pub account : Account
  pub account' : Account

abbrev pub borrowed : {W : Type 0} → (contents : W → Option (List ℕ)) → (has_failed : W → Bool) → (w w' : W) → (waiting waiting' : Pending) → (account account' : Account) → Borrowed
borrowed contents has_failed w w' waiting waiting' account account' = record {
  written = contents w;
  written' = contents w';
  failed = has_failed w;
  failed' = has_failed w';
  waiting = waiting;
  waiting' = waiting';
  account = account;
  account' = account';
}

-- only a ledger: the writer and the block are unchanged
abbrev pub ledger_alone : Untouched → (account account' : Account) → Borrowed
ledger_alone u account account' = record {
  written = u.written;
  written' = u.written;
  failed = u.failed;
  failed' = u.failed;
  waiting = u.waiting;
  waiting' = u.waiting;
  account = account;
  account' = account';
}

abbrev pub environment_before : Borrowed → Carried → Environment
environment_before l k = environment l.written l.waiting l.account k.counter.tally

abbrev pub environment_after : Borrowed → Carried → Environment
environment_after l k = environment l.written' l.waiting' l.account' k.counter.tally

-- at a stop the track table is still claimed, and must be given back
abbrev pub environment_stopped : Borrowed → Carried → ℕ → Environment
environment_stopped l k table = environment l.written' l.waiting' (given_back l.account' table) k.counter.tally

-- the change by a step that goes on
abbrev pub change_of : Borrowed → (old new : Carried) → Change
change_of l old new = record { before = environment_before l old; after = environment_after l new; failed = l.failed; failed' = l.failed' }

-- and by one that stops
abbrev pub change_stopped : Borrowed → (old new : Carried) → Change
change_stopped l old new = record { before = environment_before l old; after = environment_stopped l new (table_of old.tracks); failed = l.failed; failed' = l.failed' }

-- ---- where a machine is

-- in this state
abbrev pub at_state : Carried → State → Place
at_state k s = place_of k.operation (number_in k.operation k.counter.tally) k.tracks k.header_bytes s

-- and what holds of it there
abbrev pub IsIn : Carried → State → Type 0
IsIn k s = IsState k.operation (number_in k.operation k.counter.tally) k.tracks k.header_bytes s

-- the same with these bytes of a header
abbrev pub with_head : List ℕ → Carried → Carried
with_head header_bytes k = record { operation = k.operation; tracks = k.tracks; header_bytes = header_bytes; counter = k.counter }

-- a step may begin in this state
pub record CanStep (k : Carried) (account : Account) (s : State) : Type 0 where
  pub claim : claim_of (at_state k s) ≤ account.live
  pub counted : HasCounted k.operation s k.counter

-- bytes of an input may be taken in this state
pub record MayTake (input : List ℕ) (k : Carried) (account : Account) (s : State) : Type 0 where
  pub some : 0 < length input
  pub state : IsIn k s
  pub can : CanStep k account s

-- a box at an offset may be passed over, with this header in these bytes
pub record CanPass (k : Carried) (account : Account) (at : ℕ) (h : Header) (x : List ℕ) : Type 0 where
  pub len : length x ≡ need x
  pub is : header_at x ≡ steps.Whole h
  pub empty : k.header_bytes ≡ []
  pub can : CanStep k account (states.Header at)

-- the box with this header comes after the pending moof p, and this operation is to begin its fragment
pub record MayBeginFragment (o : Operation) (k : Carried) (account : Account) (p : PendingMoof) (h : Header) (x : List ℕ) : Type 0 where
  pub room : HasRoom h.size h.header_len
  pub len : length x ≡ need x
  pub is : header_at x ≡ steps.Whole h
  pub pending_moof : IsPendingMoof k.tracks p
  pub empty : k.header_bytes ≡ []
  pub operation : k.operation ≡ o
  pub can : CanStep k account (states.MdatHeader p)

-- ---- what it does

-- from a place it took bytes, and goes on in this state
pub record GoesTo (l : Borrowed) (old new : Carried) (from : Place) (bytes : List ℕ) (s : State) : Type 0 where
  pub step : reading.GoesTo (change_of l old new) (continuation_at (operation_meaning old.operation) from) bytes (continuation_at (operation_meaning new.operation) (at_state new s))
  pub operation : new.operation ≡ old.operation
  pub state : IsIn new s
  pub counted : HasCounted new.operation s new.counter

-- it stops at the input: everything but the track table has been given back
pub record StopsIn (l : Borrowed) (old new : Carried) (from : Place) (input : List ℕ) (e : Stop) : Type 0 where
  pub step : reading.StopsIn (change_stopped l old new) (continuation_at (operation_meaning old.operation) from) input e
  pub operation : new.operation ≡ old.operation
  pub tracks : new.tracks ≡ old.tracks
  pub empty : new.header_bytes ≡ []
  pub left : table_of old.tracks ≤ l.account'.live
  pub counted : HasStopped new.operation new.counter

-- a step from a state that takes no bytes, by its result
abbrev pub Advances : Borrowed → (old new : Carried) → State → Result State Stop → Type 0
Advances l old new from (Ok s) = GoesTo l old new (at_state old from) [] s
Advances l old new from (Err e) = StopsIn l old new (at_state old from) [] e

-- a step that leaves a moof pending
abbrev pub AcceptsMoof : Borrowed → (old new : Carried) → State → Result PendingMoof Stop → Type 0
AcceptsMoof l old new from (Ok w) = GoesTo l old new (at_state old from) [] (states.MdatHeader w)
AcceptsMoof l old new from (Err e) = StopsIn l old new (at_state old from) [] e

-- the same, after so many bytes of the input
abbrev pub AcceptsMoofPast : Borrowed → (old new : Carried) → State → List ℕ → ℕ → Result PendingMoof Stop → Type 0
AcceptsMoofPast l old new from input n (Ok w) = GoesTo l old new (at_state old from) (take n input) (states.MdatHeader w)
AcceptsMoofPast l old new from input n (Err e) = StopsIn l old new (at_state old from) input e

-- a step that takes some bytes from the front of the input
abbrev pub Consumes : Borrowed → (old new : Carried) → State → List ℕ → Result Taken Stop → Type 0
Consumes l old new from input (Ok t) = (0 < t.count) × (t.count ≤ length input) × GoesTo l old new (at_state old from) (take t.count input) t.state
Consumes l old new from input (Err e) = StopsIn l old new (at_state old from) input e

-- a step that changes the state in place: how many bytes it takes. After a stop nothing is held
abbrev pub ConsumesInPlace : Borrowed → (old new : Carried) → (from to : State) → List ℕ → Result ℕ Stop → Type 0
ConsumesInPlace l old new from to input (Ok n) = (0 < n) × (n ≤ length input) × GoesTo l old new (at_state old from) (take n input) to
ConsumesInPlace l old new from to input (Err e) = (to ≡ stopped) × StopsIn l old new (at_state old from) input e

-- a step that takes a whole fragment from the front of the input, before any byte of the header of its moof: how many bytes it has
abbrev pub TakesInPlace : Borrowed → (old new : Carried) → ℕ → List ℕ → Result ℕ Stop → Type 0
TakesInPlace l old new at input (Ok n) = (0 < n) × (n ≤ length input) × GoesTo l old new (at_state old (states.Header at)) (take n input) (states.Header (at + n))
TakesInPlace l old new at input (Err e) = StopsIn l old new (at_state old (states.Header at)) input e
