-- What C requests, and what a call does to the stream of a handle.
use Rattle.std.specs.Prelude.{◌≡◌, if◌then◌else◌, ◌&&◌, not, false, ℕ, ◌+◌, ◌-◌, ◌/◌, ◌%◌, ◌^◌, ◌<◌, ◌≤◌, eqb, List, [], ◌∷◌, ◌++◌, length, take, drop, min, Option, None, Some, Result, Ok, Err}
use Rattle.mp4_grammar.specs.declared.command.Command.TheVariants.{Samples, Fragments, Records, Check}
use Rattle.mp4_pieces.specs.Allowed.{most_in_piece}
use Rattle.mp4_pieces.specs.declared.cut.Cut.{Cut}
use Rattle.mp4_recut.specs.declared.operation.Operation.TheVariants as operations
use Rattle.fmp4_c.specs.Answers.{number_of}
use Rattle.fmp4_c.specs.Engines.{ClaimsWithin, Fed, Finished, Holds, Run, Stopped}
use Rattle.fmp4_c.specs.PendingOutput.{empty}
use Rattle.fmp4_c.specs.declared.answer.Answer.{Answer}
use Rattle.fmp4_c.specs.declared.answer.Answer.TheVariants.{Done, Full, Fault, NoRoom, OverLimit, NoMemory, NoRecord, NotOpen, Closed, IsOpen, Ended, BadSamples, BadBytes, BadFlags, BadRoom, BadLayout, BadListing}
use Rattle.fmp4_c.specs.declared.asked.Asked.{Asked}
use Rattle.fmp4_c.specs.declared.report.Report.{Report}
use Rattle.fmp4_c.specs.declared.request.CutRequest.{CutRequest}
use Rattle.fmp4_c.specs.declared.task.Task.{Task}
use Rattle.fmp4_c.specs.declared.task.Task.TheVariants as tasks

-- ---- what C requests

-- what a request has for later options, all zeros
abbrev pub no_words : List ℕ
no_words = 0 ∷ 0 ∷ 0 ∷ 0 ∷ 0 ∷ []

-- a request of fmp4_split_open: without a limit in time
abbrev pub plain_request : (samples bytes flags : ℕ) → CutRequest
plain_request samples bytes flags = record { samples = samples; duration_ms = 0; bytes = bytes; flags = flags; reserved = no_words }

-- the most samples of a fragment: with a limit in time alone, as many as there may be
abbrev pub most_samples : CutRequest → ℕ
most_samples request = if not (eqb request.duration_ms 0) && eqb request.samples 0 then most_in_piece else request.samples

-- the cut: 0 for any number of bytes or milliseconds, and of the flags 1 for an index, 2 for a cut before each sync
-- sample, 4 for one before each sync sample whose predecessor isn't one
pub record IsCutBy (request : CutRequest) (cut : Cut) : Type 0 where
  pub most : cut.samples ≡ most_samples request
  pub any : request.bytes ≡ 0 → cut.bytes ≡ None
  pub some : 0 < request.bytes → cut.bytes ≡ Some request.bytes
  pub endless : request.duration_ms ≡ 0 → cut.duration ≡ None
  pub lasts : 0 < request.duration_ms → cut.duration ≡ Some request.duration_ms
  pub index : cut.index ≡ eqb (request.flags % 2) 1
  pub sync : cut.sync ≡ eqb (request.flags / 2) 1
  pub keyframes : cut.keyframes ≡ eqb (request.flags / 4) 1

-- which share of what is free a feed takes of the input, by the flags: with an index a byte can lead to more output
abbrev pub share_of : ℕ → ℕ
share_of flags = if eqb (flags % 2) 1 then 512 else 128

-- the sizes of structs in the header: 88 bytes for a record, 32 for a stream, and 80 for a report
abbrev pub header_layout : ℕ
header_layout = 0x5820_0050

-- the largest sum of flags of a plain request
abbrev pub plain_flags : ℕ
plain_flags = 3

-- the largest of any: 6 and 7 would be both 2 and 4, which exclude each other
abbrev pub all_flags : ℕ
all_flags = 5

-- the requests that are in range, where flags up to `known` are
pub record IsInRange (layout known : ℕ) (request : CutRequest) (room : ℕ) : Type 0 where
  pub sizes : layout ≡ header_layout
  pub some : 1 ≤ most_samples request
  pub most : most_samples request ≤ most_in_piece
  pub size : request.bytes ≤ 2 ^ 62
  pub flags : request.flags ≤ known
  pub rest : request.reserved ≡ no_words
  pub holds : 1 ≤ room

-- why such a cut is refused with this room
abbrev pub IsOutOfRange : (layout known : ℕ) → CutRequest → (room : ℕ) → Answer → Type 0
IsOutOfRange layout known request room BadSamples = (1 ≤ most_samples request) × (most_samples request ≤ most_in_piece) → ⊥
IsOutOfRange layout known request room BadBytes = 2 ^ 62 < request.bytes
IsOutOfRange layout known request room BadFlags = (request.flags ≤ known) × (request.reserved ≡ no_words) → ⊥
IsOutOfRange layout known request room BadRoom = room ≡ 0
IsOutOfRange layout known request room Done = ⊥
IsOutOfRange layout known request room Full = ⊥
IsOutOfRange layout known request room Fault = ⊥
IsOutOfRange layout known request room NoRoom = ⊥
IsOutOfRange layout known request room OverLimit = ⊥
IsOutOfRange layout known request room NoMemory = ⊥
IsOutOfRange layout known request room NotOpen = ⊥
IsOutOfRange layout known request room Closed = ⊥
IsOutOfRange layout known request room IsOpen = ⊥
IsOutOfRange layout known request room Ended = ⊥
IsOutOfRange layout known request room BadLayout = layout ≡ header_layout → ⊥
IsOutOfRange layout known request room NoRecord = ⊥
IsOutOfRange layout known request room BadListing = ⊥

-- this request opens a stream that is split so
pub record IsSplitBy (request : CutRequest) (limit room : ℕ) (asked : Asked) : Type 0 where
  pub cut : Cut
  pub by : IsCutBy request cut
  pub task : asked.task ≡ tasks.Fragments (operations.Split cut)
  pub takes : asked.limit ≡ limit
  pub waits : asked.room ≡ room
  pub share : asked.share ≡ share_of request.flags

-- a cut without a limit in time, and without keyframes
abbrev pub IsPlain : Task → Type 0
IsPlain (tasks.Fragments (operations.List command)) = ⊥
IsPlain (tasks.Fragments (operations.Split cut)) = (cut.duration ≡ None) × (cut.keyframes ≡ false)
IsPlain tasks.Boxes = ⊥

-- the numbers of the listings, 0 for what is none
abbrev pub listing_number : Task → ℕ
listing_number (tasks.Fragments (operations.List Check)) = 0
listing_number (tasks.Fragments (operations.List Samples)) = 1
listing_number (tasks.Fragments (operations.List Fragments)) = 2
listing_number (tasks.Fragments (operations.List Records)) = 3
listing_number (tasks.Fragments (operations.Split cut)) = 0
listing_number tasks.Boxes = 4

-- which share of the free room a feed takes of the input: a byte can be a sample, which has a line; a record is of 24 bytes at
-- the least
abbrev pub share_of_listing : Task → ℕ
share_of_listing (tasks.Fragments (operations.List Check)) = 0
share_of_listing (tasks.Fragments (operations.List Samples)) = 512
share_of_listing (tasks.Fragments (operations.List Fragments)) = 128
share_of_listing (tasks.Fragments (operations.List Records)) = 32
share_of_listing (tasks.Fragments (operations.Split cut)) = 128
share_of_listing tasks.Boxes = 128

-- the listings that are in range
pub record IsListing (layout listing room : ℕ) : Type 0 where
  pub sizes : layout ≡ header_layout
  pub some : 1 ≤ listing
  pub most : listing ≤ 4
  pub holds : 1 ≤ room

-- why another is refused
abbrev pub IsNoListing : (layout listing room : ℕ) → Answer → Type 0
IsNoListing layout listing room BadListing = (1 ≤ listing) × (listing ≤ 4) → ⊥
IsNoListing layout listing room BadRoom = room ≡ 0
IsNoListing layout listing room BadLayout = layout ≡ header_layout → ⊥
IsNoListing layout listing room Done = ⊥
IsNoListing layout listing room Full = ⊥
IsNoListing layout listing room Fault = ⊥
IsNoListing layout listing room NoRoom = ⊥
IsNoListing layout listing room OverLimit = ⊥
IsNoListing layout listing room NoMemory = ⊥
IsNoListing layout listing room NoRecord = ⊥
IsNoListing layout listing room NotOpen = ⊥
IsNoListing layout listing room Closed = ⊥
IsNoListing layout listing room IsOpen = ⊥
IsNoListing layout listing room Ended = ⊥
IsNoListing layout listing room BadSamples = ⊥
IsNoListing layout listing room BadBytes = ⊥
IsNoListing layout listing room BadFlags = ⊥

-- these numbers open a stream that is listed so
pub record IsListedBy (listing limit room : ℕ) (asked : Asked) : Type 0 where
  pub number : listing_number asked.task ≡ listing
  pub takes : asked.limit ≡ limit
  pub waits : asked.room ≡ room
  pub share : asked.share ≡ share_of_listing asked.task

-- ---- opening a stream

-- no byte has come, and the limit is that of the stream's memory and of the room together
pub record IsOpened (asked : Asked) (held : Option Run) : Type 0 where
  pub run : Run
  pub is : held ≡ Some run
  pub holds : Holds asked.task [] [] run
  pub waiting : run.waiting ≡ empty asked.room
  pub limit : run.account.limit + asked.room ≡ asked.limit
  pub share : run.share ≡ asked.share
  pub task : run.task ≡ asked.task

-- the answer of an open for this request
abbrev pub Opens : Asked → Answer → Option Run → Type 0
Opens asked Done held = IsOpened asked held
Opens asked OverLimit held = (asked.limit < asked.room) × (held ≡ None)
Opens asked NoMemory held = (asked.room ≤ asked.limit) × (held ≡ None)
Opens asked Full held = ⊥
Opens asked Fault held = ⊥
Opens asked NoRoom held = ⊥
Opens asked NotOpen held = ⊥
Opens asked Closed held = ⊥
Opens asked IsOpen held = ⊥
Opens asked Ended held = ⊥
Opens asked BadSamples held = ⊥
Opens asked BadBytes held = ⊥
Opens asked BadFlags held = ⊥
Opens asked BadRoom held = ⊥
Opens asked BadLayout held = ⊥
Opens asked NoRecord held = ⊥
Opens asked BadListing held = ⊥

-- or for a request that is out of range
abbrev pub OpensOr : Result Asked Answer → Answer → Option Run → Type 0
OpensOr (Ok asked) answer held = Opens asked answer held
OpensOr (Err out) answer held = (answer ≡ out) × (held ≡ None)

-- a check has no output, and takes inputs as a whole
abbrev pub checked_by : ℕ → Asked
checked_by limit = record { task = tasks.Fragments (operations.List Check); limit = limit; room = 0; share = 0 }

-- the answer to C for a cut: the request is in range, or the answer has the number of what isn't
pub data CutOpens (layout known : ℕ) (request : CutRequest) (limit room : ℕ) (answer : Answer) (held : Option Run) : Type 0 where
  Asks : (asked : Asked) → IsInRange layout known request room → IsSplitBy request limit room asked → Opens asked answer held → CutOpens layout known request limit room answer held
  Refuses : IsOutOfRange layout known request room answer → held ≡ None → CutOpens layout known request limit room answer held

-- the same for a cut by these numbers alone
pub record SplitOpens (layout samples bytes flags limit room : ℕ) (answer : Answer) (held : Option Run) : Type 0 where
  pub opens : CutOpens layout plain_flags (plain_request samples bytes flags) limit room answer held
  pub plain : (run : Run) → held ≡ Some run → IsPlain run.task

-- the same for a check
pub data CheckOpens (layout limit : ℕ) (answer : Answer) (held : Option Run) : Type 0 where
  Asks : layout ≡ header_layout → Opens (checked_by limit) answer held → CheckOpens layout limit answer held
  Refuses : (layout ≡ header_layout → ⊥) → answer ≡ BadLayout → held ≡ None → CheckOpens layout limit answer held

-- the same for a listing
pub data ListOpens (layout listing limit room : ℕ) (answer : Answer) (held : Option Run) : Type 0 where
  Asks : (asked : Asked) → IsListing layout listing room → IsListedBy listing limit room asked → Opens asked answer held → ListOpens layout listing limit room answer held
  Refuses : IsNoListing layout listing room answer → held ≡ None → ListOpens layout listing limit room answer held

-- ---- the stream of a handle

-- the open stream holds so
abbrev pub HoldsIn : Task → (b given : List ℕ) → Option Run → Type 0
HoldsIn task b given held = (r : Run) × (held ≡ Some r) × Holds task b given r

-- or it has stopped so
abbrev pub StoppedIn : Task → (b given : List ℕ) → Answer → Option Run → Type 0
StoppedIn task b given answer held = (r : Run) × (held ≡ Some r) × Stopped task b given answer r

-- the open stream never had more claimed than the largest boxes request
abbrev pub ClaimsIn : Task → List ℕ → Option Run → Type 0
ClaimsIn task b held = (r : Run) × (held ≡ Some r) × ClaimsWithin task b r.feeding

-- the number that a feed returned
abbrev pub FedIn : Task → (b given : List ℕ) → (number : ℕ) → Option Run → Type 0
FedIn task b given number held = (answer : Answer) × (number ≡ number_of answer) × (r : Run) × (held ≡ Some r) × Fed task b given answer r

-- a call of an open stream returned the number of its answer, and left the stream open: its clauses, of the answer and of
-- what is left
pub record Returns (number : ℕ) (held : Option Run) (clauses : Answer → Run → Type 0) : Type 0 where
  pub answer : Answer
  pub returned : number ≡ number_of answer
  pub left : Run
  pub open_still : held ≡ Some left
  pub does : clauses answer left

-- the number that a finish returned
abbrev pub FinishedIn : Task → (b : List ℕ) → (number : ℕ) → Report → Type 0
FinishedIn task b number report = (answer : Answer) × (number ≡ number_of answer) × Finished task b answer report

-- ---- texts for C

-- a text with a zero after it in the place of the front of a buffer, cut where it doesn't fit
abbrev pub zero_ended : (text buffer : List ℕ) → List ℕ
zero_ended text buffer = take (min (length text) (length buffer - 1)) text ++ 0 ∷ drop (min (length text) (length buffer - 1) + 1) buffer
