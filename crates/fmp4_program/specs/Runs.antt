-- What a run of the program does.
use Rattle.std.specs.Prelude.{◌≡◌, ◌⊎◌, ◌≤◌, ℕ, Bool, true, false, List, codes, Option, None, Some, Result, Ok, Err}
use Rattle.std.specs.Io.KnownBytes.{Appends, Keeps}
use Rattle.mp4_ends.specs.Streams.{AppendsPrefix}
use Rattle.mp4_machine.specs.Ends.{Ends}
use Rattle.mp4_machine.specs.StreamRuns.{Claims}
use Rattle.mp4_machine.specs.declared.stop.Stop.{Stop}
use Rattle.mp4_machine.specs.declared.stop.Stop.TheVariants.{Stream, Read, Write, OverLimit, Memory}
use Rattle.mp4_grammar.specs.declared.command.Command.TheVariants as commands
use Rattle.mp4_stream.specs.Fragments.{ReadsFragments}
use Rattle.mp4_boxes.specs.HeldBoxes.{ReadsBoxes}
use Rattle.mp4_stream.specs.declared.totals.Totals.{Totals}
use Rattle.mp4_pieces.specs.declared.cut.Cut.{Cut}
use Rattle.mp4_recut.specs.declared.operation.Operation.TheVariants as operations
use Rattle.fmp4_program.specs.declared.asked.SplitOptions.{SplitOptions}
use Rattle.fmp4_program.specs.declared.asked.Invocation.{Invocation}
use Rattle.fmp4_program.specs.declared.asked.Invocation.TheVariants.{Boxes, Samples, Fragments, Check, Split}
use Rattle.fmp4_program.specs.declared.asked.Listing.{Listing}
use Rattle.fmp4_program.specs.declared.asked.Listing.TheVariants as listings
use Rattle.fmp4_program.specs.declared.asked.Settings.{Settings}
use Rattle.fmp4_program.specs.Lines.{check_text, line, stop_text}

-- the visible part of a run: both ends of the stream, and the exit status.
-- What the fault writer was given is known before and after, and whether it has failed
pub record Seen : Type 0 where
  pub ends : Ends
  pub reported : Option (List ℕ)
  pub reported' : Option (List ℕ)
  pub fault_failed : Bool
  pub status : ℕ

-- ---- the fault writer

-- a line was written if the fault writer doesn't fail, else a prefix of it
pub record WritesLine (reported reported' : Option (List ℕ)) (failed : Bool) (text : List ℕ) : Type 0 where
  pub front : AppendsPrefix reported reported' text
  pub whole : failed ≡ false → Appends reported reported' text

-- the report of an answer: nothing for a success
abbrev pub ReportsStop : Option (List ℕ) → Option (List ℕ) → Bool → Result (Unit {0}) Stop → Type 0
ReportsStop reported reported' failed (Ok _) = Keeps reported reported'
ReportsStop reported reported' failed (Err stop) = WritesLine reported reported' failed (line (stop_text stop))

-- ---- a command

-- the exit status of an answer
abbrev pub status_of : Result (Unit {0}) Stop → ℕ
status_of (Ok _) = 0
status_of (Err (Stream f)) = 2
status_of (Err (Read at)) = 3
status_of (Err Write) = 3
status_of (Err OverLimit) = 4
status_of (Err Memory) = 4

-- the answer of a run and of the flush after it, by whether the writer had failed when the run was over, and has:
-- only a success is flushed
abbrev pub Flushes : (ran answer : Result (Unit {0}) Stop) → (failed failed' : Bool) → Type 0
Flushes (Ok _) (Ok _) failed failed' = (failed ≡ false) × (failed' ≡ false)
Flushes (Ok _) (Err stop) failed failed' = (stop ≡ Write) × (failed' ≡ true)
Flushes (Err stop) answer failed failed' = (answer ≡ Err stop) × (failed' ≡ failed)

-- a run with this property within the memory that the settings allow, whether the flush after it fails or not
pub record RunsAndFlushes (settings : Settings) (property : Claims → Ends → Result (Unit {0}) Stop → Type 0) (ends : Ends) (answer : Result (Unit {0}) Stop) : Type 0 where
  pub ran : Result (Unit {0}) Stop
  pub failed : Bool
  pub peak : ℕ
  pub runs : property (record { copy = settings.copy; limit = settings.max_held; peak = peak }) (record ends { write_failed' = failed }) ran
  pub within : peak ≤ settings.max_held
  pub flushed : Flushes ran answer failed ends.write_failed'

-- what was done has this property, its fault is reported, and the exit status is that of its answer
pub record Reports (seen : Seen) (property : Ends → Result (Unit {0}) Stop → Type 0) : Type 0 where
  pub answer : Result (Unit {0}) Stop
  pub done : property seen.ends answer
  pub exits : seen.status ≡ status_of answer
  pub reports : ReportsStop seen.reported seen.reported' seen.fault_failed answer

-- the stream is listed so
abbrev pub Lists : Listing → Claims → Ends → Result (Unit {0}) Stop → Type 0
Lists listings.Boxes claims ends answer = ReadsBoxes ends claims answer
Lists listings.Samples claims ends answer = (totals : Totals) × ReadsFragments (operations.List commands.Samples) ends claims totals answer
Lists listings.Fragments claims ends answer = (totals : Totals) × ReadsFragments (operations.List commands.Fragments) ends claims totals answer

-- these are the options of a cut
pub record IsCutBy (options : SplitOptions) (cut : Cut) : Type 0 where
  pub samples : cut.samples ≡ options.samples
  pub bytes : cut.bytes ≡ options.bytes
  pub duration : cut.duration ≡ options.duration
  pub index : cut.index ≡ options.index
  pub sync : cut.sync ≡ options.sync
  pub keyframes : cut.keyframes ≡ options.keyframes

-- the fragments of the stream are cut so
abbrev pub SplitsBy : SplitOptions → Claims → Ends → Result (Unit {0}) Stop → Type 0
SplitsBy options claims ends answer = (cut : Cut) × IsCutBy options cut × ((totals : Totals) × ReadsFragments (operations.Split cut) ends claims totals answer)

-- for a sound stream its line is written and flushed; for another nothing
abbrev pub Writes : Ends → Result (Unit {0}) Stop → Result (Unit {0}) Stop → Totals → Type 0
Writes ends (Ok _) (Ok _) totals = Appends ends.written ends.written' (check_text totals) × (ends.write_failed' ≡ false)
Writes ends (Ok _) (Err stop) totals = AppendsPrefix ends.written ends.written' (check_text totals) × (stop ≡ Write) × (ends.write_failed' ≡ true)
Writes ends (Err stop) answer totals = Keeps ends.written ends.written' × (answer ≡ Err stop)

-- the stream is checked within the memory that the settings allow: the result, and the answer with the line that is written
pub record Checks (settings : Settings) (ends : Ends) (answer : Result (Unit {0}) Stop) : Type 0 where
  pub checked : Result (Unit {0}) Stop
  pub totals : Totals
  pub runs : ReadsFragments (operations.List commands.Check) (record ends { written = None; written' = None; write_failed = false; write_failed' = false }) (record { copy = settings.copy; limit = settings.max_held; peak = totals.peak }) totals checked
  pub within : totals.peak ≤ settings.max_held
  pub writes : Writes ends checked answer totals

abbrev pub Does : Invocation → Seen → Type 0
Does (Boxes settings) seen = Reports seen (RunsAndFlushes settings (Lists listings.Boxes))
Does (Samples settings) seen = Reports seen (RunsAndFlushes settings (Lists listings.Samples))
Does (Fragments settings) seen = Reports seen (RunsAndFlushes settings (Lists listings.Fragments))
Does (Check settings) seen = Reports seen (Checks settings)
Does (Split settings options) seen = Reports seen (RunsAndFlushes settings (SplitsBy options))

-- ---- the program

-- the stream isn't read, and a line says why
pub record Declines (untouched : Type 0) (seen : Seen) (status : ℕ) (why : List ℕ) : Type 0 where
  pub alone : untouched
  pub exits : seen.status ≡ status
  pub reports : WritesLine seen.reported seen.reported' seen.fault_failed (line why)

-- what the words request is done, or they request nothing
abbrev pub Obeys : (untouched : Type 0) → Option Invocation → Seen → Type 0
Obeys untouched None seen = Declines untouched seen 1 (codes "bad command line")
Obeys untouched (Some asked) seen = Does asked seen

-- or memory ran out before the words were read
abbrev pub Ran : (untouched : Type 0) → Option Invocation → Seen → Type 0
Ran untouched asked seen = Declines untouched seen 4 (codes "out of memory") ⊎ Obeys untouched asked seen
