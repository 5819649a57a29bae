-- The numbers of the answers to C.
use Rattle.std.specs.Prelude.{ℕ, suc, zero, ◌-◌, ◌^◌, min, codes, List, Option, None, Some}
use Rattle.std.specs.Int.{w32, from_be_bytes}
use Rattle.mp4_box.specs.Rules as rules
use Rattle.mp4_box.specs.declared.headers.FourCc.{FourCc}
use Rattle.mp4_box.specs.declared.rules.Fault as faults
use Rattle.mp4_machine.specs.declared.stop.Stop.{Stop}
use Rattle.mp4_machine.specs.declared.stop.Stop.TheVariants as stops
use Rattle.mp4_stream.specs.declared.totals.Totals.{Totals}
use Rattle.fmp4_c.specs.declared.answer.Answer.{Answer}
use Rattle.fmp4_c.specs.declared.answer.Answer.TheVariants.{Done, Full, Fault, NoRoom, OverLimit, NoMemory, NoRecord, NotOpen, Closed, IsOpen, Ended, BadSamples, BadBytes, BadFlags, BadRoom, BadLayout, BadListing}
use Rattle.fmp4_c.specs.declared.report.Report.{Report}

-- no two answers have one number
abbrev pub number_of : Answer → ℕ
number_of Done = 0
number_of Full = 1
number_of Fault = 2
number_of NoRoom = 3
number_of OverLimit = 4
number_of NoMemory = 5
number_of NoRecord = 6
number_of NotOpen = 16
number_of Closed = 17
number_of IsOpen = 18
number_of Ended = 19
number_of BadSamples = 20
number_of BadBytes = 21
number_of BadFlags = 22
number_of BadRoom = 23
number_of BadLayout = 24
number_of BadListing = 25

-- its name in C
abbrev pub name_of : Answer → List ℕ
name_of Done = codes "FMP4_OK"
name_of Full = codes "FMP4_FULL"
name_of Fault = codes "FMP4_FAULT"
name_of NoRoom = codes "FMP4_NO_ROOM"
name_of OverLimit = codes "FMP4_OVER_LIMIT"
name_of NoMemory = codes "FMP4_NO_MEMORY"
name_of NoRecord = codes "FMP4_NO_RECORD"
name_of NotOpen = codes "FMP4_NOT_OPEN"
name_of Closed = codes "FMP4_CLOSED"
name_of IsOpen = codes "FMP4_IS_OPEN"
name_of Ended = codes "FMP4_ENDED"
name_of BadSamples = codes "FMP4_BAD_SAMPLES"
name_of BadBytes = codes "FMP4_BAD_BYTES"
name_of BadFlags = codes "FMP4_BAD_FLAGS"
name_of BadRoom = codes "FMP4_BAD_ROOM"
name_of BadLayout = codes "FMP4_BAD_LAYOUT"
name_of BadListing = codes "FMP4_BAD_LISTING"

-- the number of the version 0.2.0: a million for the first, a thousand for the second
abbrev pub version : ℕ
version = 2000

-- the answer where a stream stopped so: the one write that can fail is that into the room
abbrev pub answer_to : Stop → Answer
answer_to (stops.Stream f) = Fault
answer_to (stops.Read at) = NoRoom
answer_to stops.Write = NoRoom
answer_to stops.OverLimit = OverLimit
answer_to stops.Memory = NoMemory

-- the answer where no stream is open
abbrev pub at_rest : ℕ → Answer
at_rest zero = NotOpen
at_rest (suc n) = Closed

-- the fault for which a stream stopped
abbrev pub fault_of : Option Stop → Option faults.Fault
fault_of None = None
fault_of (Some (stops.Stream f)) = Some f
fault_of (Some (stops.Read at)) = None
fault_of (Some stops.Write) = None
fault_of (Some stops.OverLimit) = None
fault_of (Some stops.Memory) = None

-- a type as a number, 0 where it isn't known
abbrev pub kind_number : Option FourCc → ℕ
kind_number None = 0
kind_number (Some kind) = from_be_bytes w32 kind.0

-- 1 where a type is known: four zero bytes are the number 0 too
abbrev pub known_number : Option FourCc → ℕ
known_number None = 0
known_number (Some kind) = 1

-- what a report says of a stream besides its fault
pub record Counted : Type 0 where
  pub fragments : ℕ
  pub samples : ℕ
  pub media_bytes : ℕ
  pub peak : ℕ

-- the same of its totals
abbrev pub counted_of : Totals → Counted
counted_of t = record { fragments = t.fragments; samples = t.samples; media_bytes = t.media_bytes; peak = t.peak }

-- the report of what was counted, and of a fault where there is one
abbrev pub report_from : Counted → Option faults.Fault → Report
report_from t None = record { fragments = t.fragments; samples = min t.samples (2 ^ 64 - 1); media_bytes = t.media_bytes; peak = t.peak; offset = 0; rule = 0; kind = 0; has_kind = 0 }
report_from t (Some f) = record { fragments = t.fragments; samples = min t.samples (2 ^ 64 - 1); media_bytes = t.media_bytes; peak = t.peak; offset = f.offset; rule = rules.number_of f.rule; kind = kind_number f.kind; has_kind = known_number f.kind }
