-- The items of a fragmented stream (ISO/IEC 14496-12, 8.1.1, 8.2.1 and 8.8.4): one moov, and then fragments.
-- A fragment is a moof and the mdat directly after it. Other boxes may be before, between and after them.
use Rattle.std.specs.Prelude.{ℕ, ◌+◌, ◌-◌, ◌*◌, List, [], ◌∷◌, ◌++◌, length, take, drop, nat_lt, if◌then◌else◌, Option, Some, None}
use Rattle.mp4_box.specs.declared.headers.FourCc.{FourCc}
use Rattle.mp4_box.specs.declared.headers.Header.{Header}
use Rattle.mp4_box.specs.declared.headers.Size.{Size}
use Rattle.mp4_box.specs.declared.headers.Size.TheVariants.{Exact, ToEnd}
use Rattle.mp4_box.specs.declared.headers.Step.{Step}
use Rattle.mp4_box.specs.declared.headers.Step.TheVariants as steps
use Rattle.mp4_box.specs.declared.rules.Fault.{Fault}
use Rattle.mp4_box.specs.declared.rules.Rule.TheVariants.{Truncated, BadSize, NoMoov, SecondMoov, StrayMdat, MdatMissing, TooLarge, StreamTooLong}
use Rattle.mp4_box.specs.Headers.{header_at, kind_of}
use Rattle.mp4_box.specs.Order.{least}
use Rattle.mp4_init.specs.Moovs.{moov_fault, moov_tracks}
use Rattle.mp4_init.specs.declared.table.Track.{Track}
use Rattle.mp4_frag.specs.Moofs.{fault_before_times, moof_runs, moof_samples, moof_trafs, time_faults}
use Rattle.mp4_traf.specs.Runs.{MoofBytes, moof_at}
use Rattle.mp4_machine.specs.Bodies.{longest, at_fault, cut_off, least_end, body_item, open_body_item}
use Rattle.mp4_machine.specs.Readings.{no_effects, says, counts, requests_memory, both, Reading, empty_reading, Faulty, FirstItem, Last, Whole, after_effects, read_all, inspects}
use Rattle.mp4_machine.specs.declared.tally.Tally.{Tally}
use Rattle.mp4_grammar.specs.declared.kinds.Kind.{Kind}
use Rattle.mp4_grammar.specs.declared.kinds.Kind.TheVariants.{Moov, Moof, Mdat, Other}
use Rattle.mp4_grammar.specs.Kinds.{kind_in, moof, most_moof, most_moov}
use Rattle.mp4_grammar.specs.Contexts.{Context, context, table_of}
use Rattle.mp4_grammar.specs.Meanings.{Fragment, Meaning, fragment_fault, needed_in, settled_in}

-- a fault that is decided
abbrev pub faulty : {C : Type 0} → Fault → FirstItem C
faulty f = Last (record { effects = no_effects; outcome = Faulty f })

-- ---- the mdat after a moof

-- where the payload of an mdat at `next` ends, where that is stated
abbrev pub end_of : ℕ → Size → Option ℕ
end_of next (Exact s) = Some (next + s)
end_of next ToEnd = None

-- a moof x in a context, with the mdat after it that has this header
abbrev pub fragment : Context → List Track → List ℕ → Header → Fragment
fragment c tracks x h = record {
  moof = moof_at x c.at;
  tracks = tracks;
  number = c.number;
  payload = record { start = c.at + length x + h.header_len; end = end_of (c.at + length x) h.size };
}

-- context after a fragment that ends at an offset
abbrev pub context_after_fragment : Meaning → Fragment → ℕ → Context
context_after_fragment meaning f at = context at (Some (settled_in f)) (meaning.numbered f)

-- the payload of the mdat at `next`, by the size that it states
abbrev pub media_body : Meaning → Fragment → ℕ → Header → Size → List ℕ → FirstItem Context
media_body meaning f next h (Exact s) bytes = body_item (meaning.media f) next h.kind (context_after_fragment meaning f (next + s)) (s - h.header_len) bytes
media_body meaning f next h ToEnd bytes = open_body_item (meaning.media f) next h.kind (needed_in f) (longest - (next + h.header_len)) bytes

-- after the mdat's header: the fault of the runs, or the fragment is accepted
abbrev pub mdat_by : Meaning → Fragment → ℕ → Header → List ℕ → Option Fault → FirstItem Context
mdat_by meaning f next h bytes (Some g) = faulty g
mdat_by meaning f next h bytes None = after_effects (meaning.accepted f) (media_body meaning f next h h.size bytes)

-- the box directly after a moof x must be an mdat
abbrev pub second_by : Meaning → Context → List Track → List ℕ → Header → List ℕ → Kind → FirstItem Context
second_by meaning c tracks x h bytes Mdat = mdat_by meaning (fragment c tracks x h) (c.at + length x) h bytes (fragment_fault meaning (fragment c tracks x h))
second_by meaning c tracks x h bytes Moov = Last (at_fault MdatMissing (Some moof) c.at)
second_by meaning c tracks x h bytes Moof = Last (at_fault MdatMissing (Some moof) c.at)
second_by meaning c tracks x h bytes Other = Last (at_fault MdatMissing (Some moof) c.at)

-- and it doesn't go past the longest stream
abbrev pub second : Meaning → Context → List Track → List ℕ → Header → List ℕ → FirstItem Context
second meaning c tracks x h bytes =
    if nat_lt longest (least_end (c.at + length x) h h.size) then Last (at_fault StreamTooLong (Some h.kind) (c.at + length x))
    else second_by meaning c tracks x h bytes (kind_in h.kind.0)

-- the bytes after a sound moof x, by what they are as a header
abbrev pub after_moof_by : Meaning → Context → List Track → List ℕ → List ℕ → Step → FirstItem Context
after_moof_by meaning c tracks x bytes steps.More = Last (cut_off Truncated (kind_of bytes) (c.at + length x))
after_moof_by meaning c tracks x bytes steps.BadSize = Last (at_fault BadSize (kind_of bytes) (c.at + length x))
after_moof_by meaning c tracks x bytes (steps.Whole h) = second meaning c tracks x h (drop h.header_len bytes)

unfoldable pub after_moof : Meaning → Context → List Track → List ℕ → List ℕ → FirstItem Context
after_moof meaning c tracks x [] = Last (cut_off MdatMissing (Some moof) c.at)
after_moof meaning c tracks x (b ∷ bytes) = after_moof_by meaning c tracks x (b ∷ bytes) (header_at (b ∷ bytes))

-- ---- a moov or a moof, which are held

-- a moov x is whole: its fault, or its tracks, for which a table is claimed while the moov is held
abbrev pub moov_box : Meaning → Context → List ℕ → List ℕ → Option Fault → FirstItem Context
moov_box meaning c x rest (Some f) = faulty f
moov_box meaning c x rest None =
    Whole (both (requests_memory c.at (length x + 64 * length (moov_tracks c.at x))) (says (meaning.of_moov x)))
    (context (c.at + length x) (Some (moov_tracks c.at x)) c.number) rest

-- the samples of a moof were inspected
abbrev pub inspected : MoofBytes → Tally
inspected h = inspects (moof_samples h)

-- how much is claimed with the list of a moof's runs: the track table, the moof, and 64 bytes for each run
abbrev pub with_runs : Context → List Track → List ℕ → ℕ
with_runs c tracks x = 64 * length tracks + length x + 64 * length (moof_runs (moof_at x c.at) tracks)

-- the times of a moof x were checked: their fault, or a list of its runs is claimed and it waits for its mdat
abbrev pub timed_box : Meaning → Context → List Track → List ℕ → List ℕ → Option Fault → FirstItem Context
timed_box meaning c tracks x rest (Some f) = faulty f
timed_box meaning c tracks x rest None = after_effects (requests_memory c.at (with_runs c tracks x)) (after_moof meaning c tracks x rest)

-- a moof x is whole: its fault by the other rules, or its samples are inspected
abbrev pub moof_box : Meaning → Context → List Track → List ℕ → List ℕ → Option Fault → FirstItem Context
moof_box meaning c tracks x rest (Some f) = faulty f
moof_box meaning c tracks x rest None =
    after_effects (counts (inspected (moof_at x c.at)))
    (timed_box meaning c tracks x rest (least (time_faults (moof_trafs (moof_at x c.at) tracks))))

-- a moov where there are no tracks yet, else a moof
abbrev pub whole_box_by : Meaning → Context → List ℕ → List ℕ → Option (List Track) → FirstItem Context
whole_box_by meaning c x rest None = moov_box meaning c x rest (moov_fault c.at x)
whole_box_by meaning c x rest (Some tracks) = moof_box meaning c tracks x rest (fault_before_times (moof_at x c.at) tracks)

-- a moov or moof of `size` bytes: the bytes are its own, and those after it
abbrev pub buffered_body : Meaning → Context → FourCc → ℕ → List ℕ → FirstItem Context
buffered_body meaning c kind size bytes =
    if nat_lt (length bytes) size then Last (cut_off Truncated (Some kind) c.at)
    else whole_box_by meaning c (take size bytes) (drop size bytes) c.tracks

-- it states a size, and no more than it may have: so much is claimed
abbrev pub keeping : Meaning → Context → Header → ℕ → List ℕ → Size → FirstItem Context
keeping meaning c h limit bytes (Exact s) =
    if nat_lt limit s then Last (at_fault TooLarge (Some h.kind) c.at)
    else after_effects (requests_memory c.at (table_of c.tracks + s)) (buffered_body meaning c h.kind s bytes)
keeping meaning c h limit bytes ToEnd = Last (at_fault TooLarge (Some h.kind) c.at)

-- ---- a box of another type

-- its effects follow its bytes, from its header on
abbrev pub passing : Meaning → Context → FourCc → List ℕ → Size → FirstItem Context
passing meaning c kind bytes (Exact s) = body_item (meaning.passed kind) c.at kind (context (c.at + s) c.tracks c.number) s bytes
passing meaning c kind bytes ToEnd = open_body_item (meaning.passed kind) c.at kind 0 (longest - c.at) bytes

-- ---- the order of the boxes

-- a box with the header x, by its kind: a moov comes first and once, a moof after it, and an mdat after a moof only
abbrev pub box_in : Meaning → Context → Header → List ℕ → List ℕ → Kind → Option (List Track) → FirstItem Context
box_in meaning c h x bytes Moov None = keeping meaning c h most_moov (x ++ bytes) h.size
box_in meaning c h x bytes Moov (Some tracks) = Last (at_fault SecondMoov (Some h.kind) c.at)
box_in meaning c h x bytes Moof None = Last (at_fault NoMoov (Some h.kind) c.at)
box_in meaning c h x bytes Moof (Some tracks) = keeping meaning c h most_moof (x ++ bytes) h.size
box_in meaning c h x bytes Mdat tracks = Last (at_fault StrayMdat (Some h.kind) c.at)
box_in meaning c h x bytes Other tracks = passing meaning c h.kind (x ++ bytes) h.size

-- it doesn't go past the longest stream
abbrev pub box_from : Meaning → Context → Header → List ℕ → List ℕ → FirstItem Context
box_from meaning c h x bytes =
    if nat_lt longest (least_end c.at h h.size) then Last (at_fault StreamTooLong (Some h.kind) c.at)
    else box_in meaning c h x bytes (kind_in h.kind.0) c.tracks

-- some bytes in a context, by what they are as a header
abbrev pub item_by : Meaning → Context → List ℕ → Step → FirstItem Context
item_by meaning c bytes steps.More = Last (cut_off Truncated (kind_of bytes) c.at)
item_by meaning c bytes steps.BadSize = Last (at_fault BadSize (kind_of bytes) c.at)
item_by meaning c bytes (steps.Whole h) = box_from meaning c h (take h.header_len bytes) (drop h.header_len bytes)

-- the box or the fragment at the front
unfoldable pub item : Meaning → Context → List ℕ → FirstItem Context
item meaning c [] = Last empty_reading
item meaning c (b ∷ bytes) = item_by meaning c (b ∷ bytes) (header_at (b ∷ bytes))

-- how the bytes from a context on are read
abbrev pub reads_in : Meaning → Context → List ℕ → Reading
reads_in meaning c bytes = read_all (item meaning) c bytes
