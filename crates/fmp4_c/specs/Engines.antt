-- What an engine is after the bytes of a stream that it was fed, and what a call of it does.
use Rattle.std.specs.Prelude.{◌≡◌, if◌then◌else◌, ℕ, ◌+◌, ◌-◌, ◌*◌, ◌/◌, ◌^◌, ◌<◌, ◌≤◌, eqb, List, [], ◌∷◌, ◌++◌, length, take, drop, min, max, Option, None, Some}
use Rattle.mp4_box.specs.declared.rules.Fault as faults
use Rattle.mp4_boxes.specs.Boxes.{reading}
use Rattle.mp4_grammar.specs.TrafRecords.{IsRecord, record_bytes, record_len, record_of}
use Rattle.mp4_grammar.specs.declared.traf_record.TrafRecord.{TrafRecord}
use Rattle.mp4_ledger.specs.Memory.{Account, limited}
use Rattle.mp4_machine.specs.Fed.{sums_in}
use Rattle.mp4_machine.specs.Readings.{AtMost, Request, decided_in, fault_in, greatest, most_of, whole_in}
use Rattle.mp4_machine.specs.declared.stop.Stop.{Stop}
use Rattle.mp4_machine.specs.declared.stop.Stop.TheVariants as stops
use Rattle.mp4_recut.specs.Operations.{reads_of}
use Rattle.mp4_stream.specs.Feeders.{fragments_of}
use Rattle.fmp4_c.specs.Answers.{Counted, answer_to, counted_of, fault_of, number_of, report_from}
use Rattle.fmp4_c.specs.PendingOutput.{PendingOutput, empty}
use Rattle.fmp4_c.specs.declared.answer.Answer.{Answer}
use Rattle.fmp4_c.specs.declared.answer.Answer.TheVariants.{Done, Full, Fault, NoRoom, OverLimit, NoMemory, NoRecord, NotOpen, Closed, IsOpen, Ended, BadSamples, BadBytes, BadFlags, BadRoom, BadLayout, BadListing}
use Rattle.fmp4_c.specs.Portions.{left_before, portion_of}
use Rattle.fmp4_c.specs.Tasks.{IsAfter, IsEnough, fragments_in, held_by, live, peak_of, reading_of, record_listing, shown_of, stop_of, sums_of, task_of, totals_of}
use Rattle.fmp4_c.specs.declared.report.Report.{Report}
use Rattle.fmp4_c.specs.declared.results.Feed.{Feed}
use Rattle.fmp4_c.specs.declared.results.FeedTake.{FeedTake}
use Rattle.fmp4_c.specs.declared.results.Front.{Front}
use Rattle.fmp4_c.specs.declared.task.Task.{Task}
use Rattle.fmp4_c.specs.declared.task.Task.TheVariants as tasks
use Rattle.fmp4_c.specs.declared.task_feeder.TaskFeeder.{TaskFeeder}

-- ---- the visible part of an engine

-- the account of its ledger, its Feeder until the stream ends, what waits to be taken, which share of what is free in the
-- room it takes of the input, what it reported at the end, and what its streams are opened for
pub record Run : Type 0 where
  pub account : Account
  pub feeding : Option TaskFeeder
  pub waiting : PendingOutput
  pub share : ℕ
  pub reported : Report
  pub task : Task

-- what a Feeder has claimed, where there is one
abbrev pub held_in : Option TaskFeeder → ℕ
held_in None = 0
held_in (Some p) = held_by p

-- the same once so many bytes were taken of what waits, or all of it
abbrev pub after_take : ℕ → Run → Run
after_take n r = record {
  account = r.account;
  feeding = r.feeding;
  waiting = record { bytes = drop (min n (length r.waiting.bytes)) r.waiting.bytes; room = r.waiting.room; failed = r.waiting.failed };
  share = r.share;
  reported = r.reported;
  task = r.task;
}

-- ---- after the bytes of a stream

-- it was fed the bytes b for a task, in whatever inputs. They decide no fault, and those that were given out and those
-- that wait are all output that they determine
pub record Holds (task : Task) (b given : List ℕ) (r : Run) : Type 0 where
  pub feeding : TaskFeeder
  pub runs : r.feeding ≡ Some feeding
  pub is_task : task_of feeding ≡ task
  pub is_after : IsAfter feeding b
  pub text : given ++ r.waiting.bytes ≡ live task b

-- the bytes b decide a fault: all output before it was given out or waits, and all before it was counted
pub record IsAtFault (task : Task) (b given : List ℕ) (fault : faults.Fault) (p : TaskFeeder) (r : Run) : Type 0 where
  pub early : decided_in (reading_of task b).outcome ≡ Some fault
  pub text : given ++ r.waiting.bytes ≡ live task b
  pub sums : sums_of p ≡ sums_in (reading_of task b).effects

-- a box of the bytes b requested memory that it didn't get: what was given out and what waits is the output of the bytes
-- before this box, what is counted is what comes before it, and the requests before it were the most that was claimed
pub record IsRefused (task : Task) (b given : List ℕ) (p : TaskFeeder) (r : Run) : Type 0 where
  pub request : Request
  pub earlier : List Request
  pub later : List Request
  pub requests : (reading_of task b).effects.requests ≡ earlier ++ request ∷ later
  pub text : given ++ r.waiting.bytes ≡ live task (take request.at b)
  pub sums : sums_of p ≡ record { tally = request.counted; peak = greatest earlier }

-- the output of the bytes b found no room: what was given out and what waits is the front of it, and no more was counted
-- and claimed than these bytes do
pub record HasNoRoom (task : Task) (b given : List ℕ) (p : TaskFeeder) (r : Run) : Type 0 where
  pub rest : List ℕ
  pub text : (given ++ r.waiting.bytes) ++ rest ≡ live task b
  pub counted : AtMost (shown_of p).counted (reading_of task b).effects.tally
  pub claimed : peak_of p ≤ most_of (reading_of task b).effects

-- how a stream stops within the bytes b
abbrev pub StopsIn : Task → (b given : List ℕ) → Stop → TaskFeeder → Run → Type 0
StopsIn task b given (stops.Stream fault) p r = IsAtFault task b given fault p r
StopsIn task b given stops.OverLimit p r = (refused : IsRefused task b given p r) × (r.account.limit < refused.request.sum)
StopsIn task b given stops.Memory p r = (refused : IsRefused task b given p r) × (refused.request.sum ≤ r.account.limit)
StopsIn task b given stops.Write p r = HasNoRoom task b given p r
StopsIn task b given (stops.Read at) p r = ⊥

-- it stopped in the bytes b, with this answer. The fragments that are whole in what was given out and what waits are counted
pub record Stopped (task : Task) (b given : List ℕ) (answer : Answer) (r : Run) : Type 0 where
  pub feeding : TaskFeeder
  pub stop : Stop
  pub runs : r.feeding ≡ Some feeding
  pub is_task : task_of feeding ≡ task
  pub stops : stop_of feeding ≡ Some stop
  pub answers : answer ≡ answer_to stop
  pub written : StopsIn task b given stop feeding r
  pub fragments : fragments_in feeding ≡ whole_in (length (given ++ r.waiting.bytes)) 0 (reading_of task b).effects.fragment_ends

-- the state after a feed with this answer
abbrev pub Fed : Task → (b given : List ℕ) → Answer → Run → Type 0
Fed task b given Done r = Holds task b given r
Fed task b given Full r = Holds task b given r
Fed task b given Fault r = Stopped task b given Fault r
Fed task b given NoRoom r = Stopped task b given NoRoom r
Fed task b given OverLimit r = Stopped task b given OverLimit r
Fed task b given NoMemory r = Stopped task b given NoMemory r
Fed task b given NotOpen r = ⊥
Fed task b given Closed r = ⊥
Fed task b given IsOpen r = ⊥
Fed task b given Ended r = ⊥
Fed task b given BadSamples r = ⊥
Fed task b given BadBytes r = ⊥
Fed task b given BadFlags r = ⊥
Fed task b given BadRoom r = ⊥
Fed task b given BadLayout r = ⊥
Fed task b given NoRecord r = ⊥
Fed task b given BadListing r = ⊥

-- how many bytes of a buffer of so many are free once it has what waits
abbrev pub free_in : ℕ → Run → ℕ
free_in n r = n - length r.waiting.bytes

-- how many bytes are taken at once at most where so many are free, counted as far as 64 bits go: a share of these, and one at the
-- least; any number where there is no share
abbrev pub step_of : (share free : ℕ) → ℕ
step_of share free = if eqb share 0 then 2 ^ 64 - 1 else max 1 (min free (2 ^ 64 - 1) / share)

-- how many bytes a feed takes of the input where the stream goes on, and so many are free in a buffer that the output goes
-- to before the room: none while more than half of the room is filled, which it answers only where there is input
pub record IsPortion (free : ℕ) (r : Run) (input : List ℕ) (taken : ℕ) (answer : Answer) : Type 0 where
  pub filled : r.waiting.room < 2 * length r.waiting.bytes → (taken ≡ 0) × ((input ≡ [] → ⊥) → answer ≡ Full)
  pub share : 2 * length r.waiting.bytes ≤ r.waiting.room → taken ≡ portion_of input (left_before r.feeding) (step_of r.share (r.waiting.room - length r.waiting.bytes + free))
  pub done : answer ≡ Done → taken ≡ 0 → input ≡ []
  pub full : answer ≡ Full → (taken ≡ 0) × (r.waiting.room < 2 * length r.waiting.bytes) × (input ≡ [] → ⊥)

-- ---- reports

-- what is counted of the bytes b: nothing but the most that is claimed where boxes are listed
abbrev pub counted_in : Task → List ℕ → Counted
counted_in (tasks.Fragments operation) b = record {
  fragments = fragments_of operation (reads_of operation b).effects.tally.fragments (whole_in (length (reads_of operation b).effects.text) 0 (reads_of operation b).effects.fragment_ends);
  samples = (reads_of operation b).effects.tally.samples;
  media_bytes = (reads_of operation b).effects.tally.media_bytes;
  peak = most_of (reads_of operation b).effects;
}
counted_in tasks.Boxes b = record { fragments = 0; samples = 0; media_bytes = 0; peak = most_of (reading 0 b).effects }

-- at the end of a stream of the bytes b: its fault, if it has one, and what is counted of it
pub record Finished (task : Task) (b : List ℕ) (answer : Answer) (report : Report) : Type 0 where
  pub sound : fault_in (reading_of task b).outcome ≡ None → (answer ≡ Done) × (report ≡ report_from (counted_in task b) None)
  pub faulty : (fault : faults.Fault) → fault_in (reading_of task b).outcome ≡ Some fault → (answer ≡ Fault) × (report ≡ report_from (counted_in task b) (Some fault))

-- the report of a stream that goes on or has stopped
abbrev pub report_of : TaskFeeder → Report
report_of p = report_from (counted_of (totals_of p)) (fault_of (stop_of p))

-- ---- what is claimed

-- the stream never had more claimed than what is enough for the bytes b
abbrev pub ClaimsWithin : Task → List ℕ → Option TaskFeeder → Type 0
ClaimsWithin task b feeding = (p : TaskFeeder) → feeding ≡ Some p → (enough : ℕ) → IsEnough task b enough → peak_of p ≤ enough

-- and a limit that allows so much is never passed
abbrev pub FitsIn : Task → List ℕ → Run → (number : ℕ) → Type 0
FitsIn task b r number = (enough : ℕ) → IsEnough task b enough → enough ≤ r.account.limit → number ≡ number_of OverLimit → ⊥

-- what no feed changes. No more waits than the room holds, and no more is claimed than the limit allows
pub record IsKept (r r' : Run) : Type 0 where
  pub waits : length r'.waiting.bytes ≤ r'.waiting.room
  pub claims : r'.account.live ≤ r'.account.limit
  pub limit : r'.account.limit ≡ r.account.limit
  pub share : r'.share ≡ r.share
  pub reported : r'.reported ≡ r.reported
  pub task : r'.task ≡ r.task

-- ---- feeds

-- what a feed does
pub record FeedClauses (r : Run) (input : List ℕ) (did : Feed) (r' : Run) : Type 0 where
  pub feeds : (task : Task) → (b given : List ℕ) → Holds task b given r → Fed task (b ++ take did.taken input) given did.answer r'
  pub portion : (p : TaskFeeder) → r.feeding ≡ Some p → stop_of p ≡ None → IsPortion 0 r input did.taken did.answer
  pub stopped : (task : Task) → (b given : List ℕ) → (a : Answer) → Stopped task b given a r → (did ≡ record { taken = 0; answer = a }) × (r' ≡ r)
  pub ended : r.feeding ≡ None → (did ≡ record { taken = 0; answer = Ended }) × (r' ≡ r)
  pub claims : (task : Task) → (b given : List ℕ) → Holds task b given r → ClaimsWithin task (b ++ take did.taken input) r'.feeding
  pub fits : (task : Task) → (b given : List ℕ) → Holds task b given r → FitsIn task (b ++ take did.taken input) r (number_of did.answer)
  pub room : (task : Task) → (b given : List ℕ) → Holds task b given r → r'.waiting.room ≡ r.waiting.room
  pub no_room : (task : Task) → (b given : List ℕ) → Holds task b given r → number_of did.answer ≡ number_of NoRoom → length r'.waiting.bytes ≡ r'.waiting.room
  pub kept : IsKept r r'

-- what one does that takes output at once, into a buffer that was `out` and is `out'`
pub record FeedTakeClauses (r : Run) (input out out' : List ℕ) (did : FeedTake) (r' : Run) : Type 0 where
  pub feeds : (task : Task) → (b given : List ℕ) → Holds task b given r → (r.task ≡ record_listing → ⊥) → Fed task (b ++ take did.taken input) (given ++ take did.given out') did.answer r'
  pub portion : (p : TaskFeeder) → r.feeding ≡ Some p → stop_of p ≡ None → (r.task ≡ record_listing → ⊥) → IsPortion (free_in (length out) r) (after_take (length out) r) input did.taken did.answer
  pub stopped : (task : Task) → (b given : List ℕ) → (a : Answer) → Stopped task b given a r → (r.task ≡ record_listing → ⊥) → (did.taken ≡ 0) × (did.answer ≡ a) × Stopped task b (given ++ take did.given out') a r'
  pub ended : r.feeding ≡ None → (did ≡ record { taken = 0; given = 0; answer = Ended }) × (r' ≡ r) × (out' ≡ out)
  pub records : (p : TaskFeeder) → r.feeding ≡ Some p → r.task ≡ record_listing → (did ≡ record { taken = 0; given = 0; answer = BadListing }) × (r' ≡ r) × (out' ≡ out)
  pub claims : (task : Task) → (b given : List ℕ) → Holds task b given r → (r.task ≡ record_listing → ⊥) → ClaimsWithin task (b ++ take did.taken input) r'.feeding
  pub fits : (task : Task) → (b given : List ℕ) → Holds task b given r → (r.task ≡ record_listing → ⊥) → FitsIn task (b ++ take did.taken input) r (number_of did.answer)
  pub room : (task : Task) → (b given : List ℕ) → Holds task b given r → r'.waiting.room ≡ r.waiting.room
  pub no_room : (task : Task) → (b given : List ℕ) → Holds task b given r → number_of did.answer ≡ number_of NoRoom → (did.given ≡ length out') × (length r'.waiting.bytes ≡ r'.waiting.room)
  pub within : did.given ≤ length out'
  pub most : (p : TaskFeeder) → r.feeding ≡ Some p → (r.task ≡ record_listing → ⊥) → did.given < length out' → r'.waiting.bytes ≡ []
  pub kept : IsKept r r'

-- ---- output that is taken

-- nothing is changed but the bytes that wait
abbrev pub ChangesOutput : (r r' : Run) → Type 0
ChangesOutput r r' = (r'.feeding ≡ r.feeding) × (r'.waiting.room ≡ r.waiting.room) × (r'.account ≡ r.account) × (r'.share ≡ r.share) × (r'.reported ≡ r.reported) × (r'.task ≡ r.task)

-- the front of the output, of so many bytes, is given out as these, and nothing else is changed
pub record Gives (n : ℕ) (bytes : List ℕ) (r r' : Run) : Type 0 where
  pub front : bytes ≡ take n r.waiting.bytes
  pub left : r'.waiting.bytes ≡ drop n r.waiting.bytes
  pub holds : (task : Task) → (b given : List ℕ) → Holds task b given r → Holds task b (given ++ bytes) r'
  pub stopped : (task : Task) → (b given : List ℕ) → (a : Answer) → Stopped task b given a r → Stopped task b (given ++ bytes) a r'
  pub kept : ChangesOutput r r'

-- what a take does, into a buffer that was `out` and is `out'`
pub record TakeClauses (r : Run) (out out' : List ℕ) (did : Front) (r' : Run) : Type 0 where
  pub gives : Gives did.count (take did.count out') r r'
  pub done : (r.task ≡ record_listing → ⊥) → did ≡ record { count = min (length out) (length r.waiting.bytes); answer = Done }
  pub rest : drop did.count out' ≡ drop did.count out
  pub records : r.task ≡ record_listing → (did ≡ record { count = 0; answer = BadListing }) × (r' ≡ r)

-- what a skip of so many bytes does
pub record SkipClauses (r : Run) (count : ℕ) (did : Front) (r' : Run) : Type 0 where
  pub gives : Gives did.count (take did.count r.waiting.bytes) r r'
  pub done : (r.task ≡ record_listing → ⊥) → did ≡ record { count = min count (length r.waiting.bytes); answer = Done }
  pub records : r.task ≡ record_listing → (did ≡ record { count = 0; answer = BadListing }) × (r' ≡ r)

-- what is done where a record is asked for
pub record NextFragmentClauses (r : Run) (fragment fragment' : TrafRecord) (answer : Answer) (r' : Run) : Type 0 where
  pub gives : r.task ≡ record_listing → record_len ≤ length r.waiting.bytes → (answer ≡ Done) × (fragment' ≡ record_of (take record_len r.waiting.bytes)) × Gives record_len (take record_len r.waiting.bytes) r r'
  pub again : (t : TrafRecord) (rest : List ℕ) → IsRecord t → r.task ≡ record_listing → r.waiting.bytes ≡ record_bytes t ++ rest → fragment' ≡ t
  pub none : r.task ≡ record_listing → length r.waiting.bytes < record_len → (answer ≡ NoRecord) × (r' ≡ r) × (fragment' ≡ fragment)
  pub other : (r.task ≡ record_listing → ⊥) → (answer ≡ BadListing) × (r' ≡ r) × (fragment' ≡ fragment)
  pub kept : ChangesOutput r r'

-- ---- the limit, and another stream

-- it has another limit for the stream's memory and its room together, but no lower than what it takes of both
abbrev pub limited_to : ℕ → Run → Run
limited_to limit r = record r { account = limited r.account (limit - r.waiting.room) }

-- it begins again as it was opened: no byte has come
pub record IsReset (r r' : Run) : Type 0 where
  pub holds : Holds r.task [] [] r'
  pub waiting : r'.waiting ≡ empty r.waiting.room
  pub limit : r'.account.limit ≡ r.account.limit
  pub claimed : r'.account.live ≡ 0
  pub share : r'.share ≡ r.share
  pub reported : r'.reported ≡ r.reported
  pub task : r'.task ≡ r.task
