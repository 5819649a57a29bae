-- What a stream is opened for, and what a Feeder for it is after the bytes of a stream that it was fed, and what its calls do.
use Rattle.std.specs.Prelude.{◌≡◌, ℕ, ◌+◌, ◌-◌, ◌*◌, ◌≤◌, List, ◌++◌, Option, Result, IfErr, OnOk, IsErrOf}
use Rattle.mp4_boxes.specs.Boxes.{reading}
use Rattle.mp4_boxes.specs.HeldBoxes.{HoldsAtMost}
use Rattle.mp4_boxes.specs.States as boxes
use Rattle.mp4_fragment_machine.specs.States as machine
use Rattle.mp4_grammar.specs.Contexts.{first_context}
use Rattle.mp4_grammar.specs.HeldSizes.{HoldsWithin}
use Rattle.mp4_grammar.specs.declared.command.Command.TheVariants.{Records}
use Rattle.mp4_machine.specs.Fed.{Borrowed, FedUntil, Sums, WritesRest}
use Rattle.mp4_machine.specs.FedMachines.{Shown, unfed}
use Rattle.mp4_machine.specs.FedMachines as machines
use Rattle.mp4_machine.specs.Readings.{Reading}
use Rattle.mp4_machine.specs.declared.stop.Stop.{Stop}
use Rattle.mp4_machine.specs.declared.stop.Stop.TheVariants.{OverLimit}
use Rattle.mp4_recut.specs.Operations.{operation_meaning, reads_of}
use Rattle.mp4_recut.specs.declared.operation.Operation.TheVariants as operations
use Rattle.mp4_stream.specs.BoxFeeders as box_feeders
use Rattle.mp4_stream.specs.Feeders as feeders
use Rattle.mp4_stream.specs.declared.totals.Totals.{Totals}
use Rattle.fmp4_c.specs.declared.task.Task.{Task}
use Rattle.fmp4_c.specs.declared.task.Task.TheVariants as tasks
use Rattle.fmp4_c.specs.declared.task_feeder.TaskFeeder.{TaskFeeder}
use Rattle.fmp4_c.specs.declared.task_feeder.TaskFeeder.TheVariants.{Fragments, Boxes}

-- ---- a task

-- fragments are listed by records
abbrev pub record_listing : Task
record_listing = tasks.Fragments (operations.List Records)

-- how the bytes of a stream are read
abbrev pub reading_of : Task → List ℕ → Reading
reading_of (tasks.Fragments operation) = reads_of operation
reading_of tasks.Boxes = reading 0

-- the output of each stream that begins with the bytes b
abbrev pub live : Task → List ℕ → List ℕ
live task b = (reading_of task b).effects.text

-- so much is enough for what is claimed of the bytes b: where each moov that is held has at most so many bytes, and each
-- moof, twice the one and five times the other; for a listing of boxes, what each moov and each moof has at most
abbrev pub IsEnough : Task → List ℕ → ℕ → Type 0
IsEnough (tasks.Fragments operation) b most = (moov : ℕ) × (moof : ℕ) × HoldsWithin (operation_meaning operation) first_context b moov moof × (most ≡ 2 * moov + 5 * moof)
IsEnough tasks.Boxes b most = HoldsAtMost 0 b most

-- ---- what a Feeder for a task is

-- its task
abbrev pub task_of : TaskFeeder → Task
task_of (Fragments p) = tasks.Fragments p.operation
task_of (Boxes f) = tasks.Boxes

-- what its machine shows
abbrev pub shown_of : TaskFeeder → Shown
shown_of (Fragments p) = feeders.shown p
shown_of (Boxes f) = box_feeders.shown f

-- why it stopped, if it did
abbrev pub stop_of : TaskFeeder → Option Stop
stop_of f = (shown_of f).stop

-- how many bytes it has claimed
abbrev pub held_by : TaskFeeder → ℕ
held_by f = (shown_of f).continuation.claim

-- the most that it had claimed at once
abbrev pub peak_of : TaskFeeder → ℕ
peak_of f = (shown_of f).peak

-- how many fragments are whole in its output
abbrev pub fragments_in : TaskFeeder → ℕ
fragments_in f = (shown_of f).fragments

-- its counts of the bytes so far, and the most that it had claimed at once
abbrev pub sums_of : TaskFeeder → Sums
sums_of f = machines.sums_of (shown_of f)

-- its totals
abbrev pub totals_of : TaskFeeder → Totals
totals_of (Fragments p) = feeders.totals_of p
totals_of (Boxes f) = box_feeders.totals_of f

-- one to which no byte has come
abbrev pub begun_of : Task → TaskFeeder
begun_of (tasks.Fragments operation) = Fragments (feeders.begun operation (machine.begun operation))
begun_of tasks.Boxes = Boxes (unfed boxes.begun)

-- after the bytes b of a stream, in whatever inputs they came: its machine is
abbrev pub IsAfter : TaskFeeder → List ℕ → Type 0
IsAfter f b = machines.IsAfter (reading_of (task_of f)) (shown_of f) b

-- ---- what a call does

-- it never has more claimed than what is enough, and is never over a limit that allows so much in addition to what others
-- have
pub record Claims {T : Type 0} (task : Task) (b : List ℕ) (peak others limit : ℕ) (result : Result T Stop) : Type 0 where
  pub most : (enough : ℕ) → IsEnough task b enough → peak ≤ enough
  pub within : (enough : ℕ) → IsEnough task b enough → others + enough ≤ limit → IsErrOf result OverLimit → ⊥

-- where a claim was refused, what was written of the stream is the output of the bytes before the box
abbrev pub WritesBefore : (task : Task) → (b input : List ℕ) → (l : Borrowed) → (own : ℕ) → (s : Sums) → (e : Stop) → FedUntil (reading_of task) b input l own s e → Type 0
WritesBefore task = machines.WritesBefore (reading_of task)

-- a Feeder after the bytes b is fed the input. It is Ok where no fault is decided, and then all output that these bytes
-- add was written; else it stops
pub record Feeds {T : Type 0} (b input : List ℕ) (f f' : TaskFeeder) (l : Borrowed) (result : Result T Stop) : Type 0 where
  pub ok : OnOk result (IsAfter f' (b ++ input) × WritesRest (reading_of (task_of f)) b (b ++ input) l (held_by f) (held_by f'))
  pub err : IfErr result (λ e. (until : FedUntil (reading_of (task_of f)) b input l (held_by f) (sums_of f') e) × WritesBefore (task_of f) b input l (held_by f) (sums_of f') e until)
  pub claims : Claims (task_of f) (b ++ input) (peak_of f') (l.account.live - held_by f) l.account.limit result

-- the end of a stream of the bytes b
abbrev pub Finishes : (f : TaskFeeder) → (b : List ℕ) → Result Totals Stop → Type 0
Finishes f b result = machines.Finishes (reading_of (task_of f)) b result
