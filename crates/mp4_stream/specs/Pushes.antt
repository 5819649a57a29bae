-- Inputs that are pushed into a Feeder, one after the other, and the end of the stream after them.
use Rattle.std.specs.Prelude.{◌≡◌, ℕ, ◌+◌, ◌*◌, ◌<◌, ◌≤◌, List, true, Option, None, Some, Result, Ok, Err}
use Rattle.std.specs.Io.KnownBytes.{Appends}
use Rattle.mp4_box.specs.declared.rules.Fault.{Fault}
use Rattle.mp4_ends.specs.Streams.{AppendsPrefix}
use Rattle.mp4_fragment_machine.specs.States.{listed_by, reads_of}
use Rattle.mp4_grammar.specs.Contexts.{first_context}
use Rattle.mp4_grammar.specs.HeldSizes.{HoldsWithin}
use Rattle.mp4_machine.specs.Ends.{Sent}
use Rattle.mp4_machine.specs.Fed.{AllWhole}
use Rattle.mp4_machine.specs.Readings.{Effects, fault_in, most_of}
use Rattle.mp4_machine.specs.declared.stop.Stop.{Stop}
use Rattle.mp4_machine.specs.declared.stop.Stop.TheVariants.{Stream, Read, Write, OverLimit, Memory}
use Rattle.mp4_stream.specs.Feeders.{fragments_of, live}
use Rattle.mp4_stream.specs.declared.totals.Totals.{Totals}
use Rattle.mp4_recut.specs.Operations as readings
use Rattle.mp4_recut.specs.declared.operation.Operation.{Operation}

-- totals of a stream that has these effects: its fragments, the samples and their bytes, and the most that was claimed at
-- once. Rows were read once for each sample of an inspected moof, again for each that was listed or recut, and no more
-- often than the operation allows
pub record CountedAs (operation : Operation) (effects : Effects) (t : Totals) : Type 0 where
  pub whole : ℕ
  pub all : AllWhole effects whole
  pub fragments : t.fragments ≡ fragments_of operation effects.tally.fragments whole
  pub samples : t.samples ≡ effects.tally.samples
  pub media_bytes : t.media_bytes ≡ effects.tally.media_bytes
  pub peak : t.peak ≡ most_of effects
  pub some : effects.tally.inspected + t.samples + listed_by operation t.samples ≤ t.rows_read
  pub few : t.rows_read ≤ reads_of operation * effects.tally.inspected

-- a limit has no room for what the largest boxes of the bytes request, in addition to what others have
abbrev pub HasNoRoom : Operation → List ℕ → (others limit : ℕ) → Type 0
HasNoRoom operation b others limit = (moov moof : ℕ) → HoldsWithin (readings.operation_meaning operation) first_context b moov moof → limit < others + (2 * moov + 5 * moof)

-- how it stops within the bytes b, whose fault is known or not: at that fault, with everything before it written.
-- At a failed write or out of memory a prefix is written
abbrev pub StopsIn : Operation → List ℕ → Sent → (others limit : ℕ) → Option Fault → Stop → Type 0
StopsIn operation b s others limit fault (Stream f) = (fault ≡ Some f) × Appends s.written s.written' (live operation b)
StopsIn operation b s others limit fault (Read at) = ⊥
StopsIn operation b s others limit fault Write = (s.failed' ≡ true) × AppendsPrefix s.written s.written' (live operation b)
StopsIn operation b s others limit fault OverLimit = HasNoRoom operation b others limit × AppendsPrefix s.written s.written' (live operation b)
StopsIn operation b s others limit fault Memory = AppendsPrefix s.written s.written' (live operation b)

-- inputs whose join is the stream b: Ok where it has no fault, with its whole output and its totals, else how it stops.
-- The limit is that of a ledger of which others have so much
abbrev pub Pushes : Operation → List ℕ → Sent → (others limit : ℕ) → Result Totals Stop → Type 0
Pushes operation b s others limit (Ok t) = (fault_in (readings.reads_of operation b).outcome ≡ None) × Appends s.written s.written' (live operation b) × CountedAs operation (readings.reads_of operation b).effects t
Pushes operation b s others limit (Err e) = StopsIn operation b s others limit (fault_in (readings.reads_of operation b).outcome) e
