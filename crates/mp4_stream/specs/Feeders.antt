-- What a Feeder is after the bytes of a stream that it was fed, and what a call of it does.
use Rattle.std.specs.Prelude.{ℕ, ◌+◌, ◌-◌, ◌*◌, ◌≤◌, List, ◌++◌, Option, None, Result, IfErr, OnOk, IsErrOf}
use Rattle.mp4_box.specs.Headers.{IsBytes}
use Rattle.mp4_fragment_machine.specs.Places.{claim_of}
use Rattle.mp4_fragment_machine.specs.States.{Progress, continuation_in, place_in}
use Rattle.mp4_grammar.specs.Contexts.{first_context}
use Rattle.mp4_grammar.specs.HeldSizes.{HoldsWithin}
use Rattle.mp4_machine.specs.Fed.{Borrowed, FedUntil, Sums, WritesRest}
use Rattle.mp4_machine.specs.FedMachines.{Fed, Shown}
use Rattle.mp4_machine.specs.FedMachines as machines
use Rattle.mp4_machine.specs.declared.stop.Stop.{Stop}
use Rattle.mp4_machine.specs.declared.stop.Stop.TheVariants.{OverLimit}
use Rattle.mp4_recut.specs.Operations.{operation_meaning, reads_of}
use Rattle.mp4_recut.specs.declared.operation.Operation.{Operation}
use Rattle.mp4_recut.specs.declared.operation.Operation.TheVariants as operations
use Rattle.mp4_stream.specs.declared.totals.Totals.{Totals}

-- ---- a stream and an operation

-- the output of each stream that begins with the bytes b
abbrev pub live : Operation → List ℕ → List ℕ
live operation b = (reads_of operation b).effects.text

-- how many fragments are counted: those that were accepted, or the new ones that are whole in the output
abbrev pub fragments_of : Operation → (accepted whole : ℕ) → ℕ
fragments_of (operations.List command) accepted whole = accepted
fragments_of (operations.Split cut) accepted whole = whole

-- ---- what a Feeder is

-- its visible part: its operation, its machine, and why it stopped; the most that it had claimed at once, and how
-- many fragments are whole in its output
pub record Feeding : Type 0 where
  pub operation : Operation
  pub machine : Progress
  pub stop : Option Stop
  pub peak : ℕ
  pub fragments : ℕ

-- one to which no byte has come
abbrev pub begun : Operation → Progress → Feeding
begun operation machine = record { operation = operation; machine = machine; stop = None; peak = 0; fragments = 0 }

-- how many bytes it has claimed: those of the table of its tracks, and those of a moov or moof that it holds with the list of its runs
abbrev pub held_by : Feeding → ℕ
held_by p = claim_of (place_in p.machine)

-- a machine that is fed for an operation
abbrev pub feeding : Operation → Fed Progress → Feeding
feeding operation f = record { operation = operation; machine = f.machine; stop = f.stop; peak = f.peak; fragments = f.fragments }

-- what that machine shows
abbrev pub shown : Feeding → Shown
shown p = record { continuation = continuation_in p.machine; counted = p.machine.counter.tally; stop = p.stop; peak = p.peak; fragments = p.fragments }

-- its counts of the bytes so far, and the most that it had claimed at once
abbrev pub sums_of : Feeding → Sums
sums_of p = machines.sums_of (shown p)

-- what a machine for an operation has counted, where so many fragments are whole in its output, and this was the most that was claimed
abbrev pub totals_by : Operation → Progress → (whole peak : ℕ) → Totals
totals_by operation machine whole peak = record {
  fragments = fragments_of operation machine.counter.tally.fragments whole;
  samples = machine.counter.tally.samples;
  media_bytes = machine.counter.tally.media_bytes;
  rows_read = machine.counter.steps.rows;
  peak = peak;
}

-- its totals
abbrev pub totals_of : Feeding → Totals
totals_of p = totals_by p.operation p.machine p.fragments p.peak

-- after the bytes b of a stream, in whatever inputs they came: its machine is
abbrev pub IsAfter : Feeding → List ℕ → Type 0
IsAfter p b = machines.IsAfter (reads_of p.operation) (shown p) b

-- ---- what a call does

-- where each moov that the bytes hold has at most so many bytes, and each moof. It never has more claimed than twice
-- the one and five times the other, and is never over a limit that allows so much in addition to what others have
pub record ClaimsWithin {T : Type 0} (operation : Operation) (b : List ℕ) (peak others limit : ℕ) (result : Result T Stop) : Type 0 where
  pub most : (moov moof : ℕ) → HoldsWithin (operation_meaning operation) first_context b moov moof → peak ≤ 2 * moov + 5 * moof
  pub enough : (moov moof : ℕ) → HoldsWithin (operation_meaning operation) first_context b moov moof → others + (2 * moov + 5 * moof) ≤ limit → IsErrOf result OverLimit → ⊥

-- where a claim was refused, what was written of the stream is the output of the bytes before the box
abbrev pub WritesBefore : (operation : Operation) → (b input : List ℕ) → (l : Borrowed) → (own : ℕ) → (s : Sums) → (e : Stop) → FedUntil (reads_of operation) b input l own s e → Type 0
WritesBefore operation = machines.WritesBefore (reads_of operation)

-- a Feeder after the bytes b is fed the input. It is Ok where no fault is decided, and then all output that these bytes
-- add was written; else it stops
pub record Feeds {T : Type 0} (b input : List ℕ) (p p' : Feeding) (l : Borrowed) (result : Result T Stop) : Type 0 where
  pub bytes : IsBytes (b ++ input)
  pub ok : OnOk result (IsAfter p' (b ++ input) × WritesRest (reads_of p.operation) b (b ++ input) l (held_by p) (held_by p'))
  pub err : IfErr result (λ e. (until : FedUntil (reads_of p.operation) b input l (held_by p) (sums_of p') e) × WritesBefore p.operation b input l (held_by p) (sums_of p') e until)
  pub claims : ClaimsWithin p.operation (b ++ input) p'.peak (l.account.live - held_by p) l.account.limit result

-- the end of a stream of the bytes b
abbrev pub Finishes : (p : Feeding) → (b : List ℕ) → Result Totals Stop → Type 0
Finishes p b result = machines.Finishes (reads_of p.operation) b result
