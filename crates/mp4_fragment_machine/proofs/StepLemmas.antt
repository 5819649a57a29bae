-- How steps compose, and what bytes that came before change of a step.
use Rattle.std.proofs.Common.{◌≡◌, ℕ, ◌+◌, ◌-◌, ◌<◌, ◌≤◌, Bool, List, [], ◌++◌, length, min, take, Option, Some, Result, Ok, Err, ap, refl, ◌∙◌, arith}
use Rattle.mp4_box.specs.Headers.{header_at, need}
use Rattle.mp4_box.specs.declared.headers.Header.{Header}
use Rattle.mp4_box.specs.declared.headers.Step.TheVariants as steps
use Rattle.mp4_box.specs.declared.rules.Rule.{Rule}
use Rattle.mp4_machine.specs.Bodies.{at_fault, fault, least_end, longest}
use Rattle.mp4_machine.specs.Readings.{Last}
use Rattle.mp4_grammar.specs.Items.{box_in}
use Rattle.mp4_grammar.specs.Kinds.{kind_in}
use Rattle.mp4_grammar.specs.declared.kinds.Kind.{Kind}
use Rattle.mp4_box.specs.declared.rules.Fault.{Fault}
use Rattle.mp4_box.proofs.HeaderLemmas.{need-least}
use Rattle.mp4_ledger.specs.Memory.{Account, given_back}
use Rattle.mp4_machine.specs.Blocks.{Pending}
use Rattle.mp4_machine.specs.Inputs.{GoesOn, Refuses, environment}
use Rattle.mp4_machine.specs.declared.buffered_box.BufferedBox.{BufferedBox}
use Rattle.mp4_machine.specs.declared.stop.Stop.{Stop}
use Rattle.mp4_machine.specs.declared.stop.Stop.TheVariants.{Stream}
use Rattle.mp4_grammar.specs.Contexts.{context, table_of}
use Rattle.mp4_recut.specs.Operations.{operation_meaning, number_in}
use Rattle.mp4_recut.specs.declared.operation.Operation.{Operation}
use Rattle.mp4_fragment_machine.specs.Places.{Place, claim_of, continuation_at}
use Rattle.mp4_fragment_machine.specs.States.{HasStopped, IsCounted, IsPendingMoof, most_counted}
use Rattle.mp4_fragment_machine.specs.Implementation.Steps.{Advances, Borrowed, CanStep, Consumes, GoesTo, MayTake, StopsIn, at_state, borrowed, environment_before, environment_stopped, with_head}
use Rattle.mp4_fragment_machine.specs.declared.counter.Counter.{Counter}
use Rattle.mp4_fragment_machine.specs.declared.state.Carried.{Carried}
use Rattle.mp4_fragment_machine.specs.declared.state.State.{State}
use Rattle.mp4_fragment_machine.specs.declared.state.State.TheVariants as states
use Rattle.mp4_fragment_machine.specs.declared.pending_moof.PendingMoof.{PendingMoof}
use Rattle.mp4_fragment_machine.specs.declared.state.Taken.{Taken}
use Rattle.mp4_fragment_machine.proofs.MdatHeaderLemmas.{GoesOn-after_head, claimed_after}
use Rattle.mp4_fragment_machine.proofs.CountLemmas.{counted_later}
use Rattle.mp4_fragment_machine.proofs.HeadLemmas.{GoesOn-head, Refuses-box}
use Rattle.mp4_fragment_machine.proofs.TakeLemmas.{GoesOn-held}
use Rattle.mp4_machine.proofs.StepLemmas.{GoesOn-then}
use Rattle.mp4_machine.proofs.StepLemmas as reading

-- ---- bytes come first

-- they move the place, and nothing else but what is claimed
pub record Accepts (l : Borrowed) (account : Account) (old mid : Carried) (from : Place) (bytes : List ℕ) (to : Place) : Type 0 where
  pub claim : claim_of from ≤ l.account.live
  pub operation : mid.operation ≡ old.operation
  pub tracks : mid.tracks ≡ old.tracks
  pub goes : GoesOn (environment_before l old) (environment l.written l.waiting account mid.counter.tally) (continuation_at (operation_meaning old.operation) from) bytes (continuation_at (operation_meaning old.operation) to)

module _ {l : Borrowed} {account : Account} {old mid new : Carried} {from to : Place} where
  -- and then a step that takes none
  pub GoesTo-then : {bytes : List ℕ} {s : State} → Accepts l account old mid from bytes to → GoesTo (record l { account = account }) mid new to [] s → GoesTo l old new from bytes s
  GoesTo-then x g = record { step = reading.GoesTo-then (record { claim = x.claim; goes = x.goes }) (rw x.operation at g.step); operation = rw x.operation at g.operation; state = g.state; counted = g.counted }

  pub StopsIn-then : (n : ℕ) (input : List ℕ) {e : Stop} → Accepts l account old mid from (take n input) to → StopsIn (record l { account = account }) mid new to [] e → StopsIn l old new from input e
  StopsIn-then n input x h = record {
    step = reading.StopsIn-then n input (record { claim = x.claim; goes = x.goes }) (rw (x.operation, x.tracks) at h.step);
    operation = rw x.operation at h.operation;
    tracks = rw x.tracks at h.tracks;
    empty = h.empty;
    left = rw x.tracks at h.left;
    counted = h.counted;
  }

pub Advances-then : (l : Borrowed) (account : Account) (old mid new : Carried) (from to : State) (result : Result State Stop) → Accepts l account old mid (at_state old from) [] (at_state mid to) → Advances (record l { account = account }) mid new to result → Advances l old new from result
Advances-then l account old mid new from to (Ok s) x g = GoesTo-then x g
Advances-then l account old mid new from to (Err e) x h = StopsIn-then 0 [] x h

-- bytes of a header
pub accepts_head : {l : Borrowed} (k : Carried) (at : ℕ) {x header_bytes : List ℕ} → table_of k.tracks ≤ l.account.live → header_bytes ≡ k.header_bytes ++ x → Accepts l l.account k (with_head header_bytes k) (at_state k (states.Header at)) x (at_state (with_head header_bytes k) (states.Header at))
accepts_head {l = l} k at {x = x} {header_bytes = header_bytes} low e = record {
  claim = low;
  operation = refl;
  tracks = refl;
  goes = GoesOn-head (operation_meaning k.operation) (environment_before l k) (context at k.tracks (number_in k.operation k.counter.tally)) k.header_bytes x header_bytes e;
}

-- bytes of a moov or moof
pub accepts_held : {l : Borrowed} (k : Carried) (h : BufferedBox) {x : List ℕ} → table_of k.tracks + h.size ≤ l.account.live → Accepts l l.account k k (at_state k (states.Buffering h)) x (at_state k (states.Buffering (record h { bytes = h.bytes ++ x })))
accepts_held {l = l} k h {x = x} low = record {
  claim = low;
  operation = refl;
  tracks = refl;
  goes = GoesOn-held (operation_meaning k.operation) (environment_before l k) (context h.at k.tracks (number_in k.operation k.counter.tally)) h.kind h.size h.bytes x;
}

module _ {l : Borrowed} {old mid new : Carried} {from to : Place} where
  -- a step that takes no bytes and borrows no writer, after what was written
  pub GoesTo-after : {a : Option (List ℕ)} {v : Pending} {b : Account} {f : Bool} {bytes : List ℕ} {s : State} → GoesTo (record l { written = a; waiting = v; account = b; failed = f }) mid new to [] s → claim_of from ≤ l.account.live → mid.operation ≡ old.operation → f ≡ l.failed
      → GoesOn (environment_before l old) (environment a v b mid.counter.tally) (continuation_at (operation_meaning old.operation) from) bytes (continuation_at (operation_meaning old.operation) to) → GoesTo l old new from bytes s
  GoesTo-after h low operation kept g = record { step = record { goes = GoesOn-then low g _ (rw operation at h.step.goes); unfailed = h.step.unfailed ∙ kept; claim = h.step.claim }; operation = h.operation ∙ operation; state = h.state; counted = h.counted }

-- bytes of the header after the pending moof
pub accepts_mdat_header : {l : Borrowed} (k : Carried) (w : PendingMoof) {x header_bytes : List ℕ} → IsPendingMoof k.tracks w → claim_of (at_state k (states.MdatHeader w)) ≤ l.account.live → header_bytes ≡ k.header_bytes ++ x → Accepts l l.account k (with_head header_bytes k) (at_state k (states.MdatHeader w)) x (at_state (with_head header_bytes k) (states.MdatHeader w))
accepts_mdat_header {l = l} k w {x = x} {header_bytes = header_bytes} i low e =
    let number = number_in k.operation k.counter.tally in
    record {
      claim = low;
      operation = refl;
      tracks = refl;
      goes = GoesOn-after_head (operation_meaning k.operation) number (environment_before l k) w k.tracks i (rw (claimed_after number w k.tracks i k.header_bytes) at low) k.header_bytes x header_bytes e;
    }

-- no byte came of the next header
pub no_head : (header_bytes : List ℕ) → header_bytes ≡ [] → length header_bytes < need header_bytes
no_head header_bytes e = omega (arith, ap length e, need-least header_bytes)

-- ---- it stops

-- all is counted where it stops
pub counted_stop : (operation : Operation) (c : Counter) (b : ℕ) → IsCounted operation c b 0 0 → HasStopped operation c
counted_stop operation c b i = counted_later operation c b most_counted 0 0 i.far (omega arith) (omega arith) i

-- a fault where nothing changed but the bytes of a header that came
pub StopsIn-refused : {l : Borrowed} {old new : Carried} {from : Place} {input : List ℕ} {f : Fault} (b : ℕ) → l.failed' ≡ l.failed → new.operation ≡ old.operation → new.tracks ≡ old.tracks → new.header_bytes ≡ [] → table_of old.tracks ≤ l.account'.live → IsCounted new.operation new.counter b 0 0
    → ((more : List ℕ) → Refuses (environment_before l old) (environment_stopped l new (table_of old.tracks)) (continuation_at (operation_meaning old.operation) from) (input ++ more) f) → StopsIn l old new from input (Stream f)
StopsIn-refused {new = new} b unfailed operation tracks empty left counted refuses = record { step = reading.StopsIn-refused unfailed refuses; operation = operation; tracks = tracks; empty = empty; left = left; counted = counted_stop new.operation new.counter b counted }

-- nothing is given back
pub given_back-none : (a : Account) → given_back a 0 ≡ a
given_back-none a = let none : a.live - 0 ≡ a.live = omega arith in ap (λ n. record { limit = a.limit; live = n; peak = a.peak }) none

-- ---- what was taken, by the result

module _ {l : Borrowed} {old new : Carried} {from state : State} {result : Result Taken Stop} where
  pub Consumes-goes : (input : List ℕ) {t : Taken} → Consumes l old new from input result → state ≡ from → result ≡ Ok t → (0 < t.count) × (t.count ≤ length input) × GoesTo l old new (at_state old state) (take t.count input) t.state
  Consumes-goes input taken e is = rw e (rw is at taken)

  pub Consumes-stops : (input : List ℕ) {e : Stop} → Consumes l old new from input result → state ≡ from → result ≡ Err e → StopsIn l old new (at_state old state) input e
  Consumes-stops input taken e is = rw e (rw is at taken)

-- bytes of a held box were taken, and the box was held on
pub held_goes : {l : Borrowed} {old new : Carried} (b : BufferedBox) (input : List ℕ) (n : ℕ) {to : State} → MayTake input old l.account (states.Buffering b) → n ≡ min (b.size - length b.bytes) (length input)
    → GoesTo l old new (at_state old (states.Buffering (record b { bytes = b.bytes ++ take n input }))) [] to → Consumes l old new (states.Buffering b) input (Ok (record { count = n; state = to }))
held_goes {old = old} b input n may is goes = (omega (arith, may.some, may.state.1, is), omega (arith, is), GoesTo-then (accepts_held old b may.can.claim) goes)

-- or it was refused
pub held_stops : {l : Borrowed} {old new : Carried} (b : BufferedBox) (input : List ℕ) (n : ℕ) {e : Stop} → MayTake input old l.account (states.Buffering b)
    → StopsIn l old new (at_state old (states.Buffering (record b { bytes = b.bytes ++ take n input }))) [] e → Consumes l old new (states.Buffering b) input (Err e)
held_stops {old = old} b input n may stops = StopsIn-then n input (accepts_held old b may.can.claim) stops

-- a box that may not be here
pub Advances-refused : {W : Type 0} (contents : W → Option (List ℕ)) (has_failed : W → Bool) (w : W) (out : Pending) (account : Account) (k : Carried) (at : ℕ) (h : Header) (x part : List ℕ) (kind : Kind) (rule : Rule) → part ≡ []
    → CanStep k account (states.Header at) → length x ≡ need x → header_at x ≡ steps.Whole h → least_end at h h.size ≤ longest → kind_in h.kind.0 ≡ kind
    → ((number : ℕ) (later : List ℕ) → box_in (operation_meaning k.operation) (context at k.tracks number) h x later kind k.tracks ≡ Last (at_fault rule (Some h.kind) at)) → {result : Result State Stop} → result ≡ Err (Stream (fault rule (Some h.kind) at))
    → Advances (borrowed contents has_failed w w out out account account) (with_head x k) (record k { header_bytes = part }) (states.Header at) result
Advances-refused contents has_failed w out account k at h x part kind rule empty can len is near of_kind box e =
    rw e
    (StopsIn-refused at refl refl refl empty can.claim can.counted
    (λ more. Refuses-box (operation_meaning k.operation) (environment (contents w) out account k.counter.tally) at (number_in k.operation k.counter.tally) k.tracks h x len can.claim is more kind rule near of_kind (box (number_in k.operation k.counter.tally))))
