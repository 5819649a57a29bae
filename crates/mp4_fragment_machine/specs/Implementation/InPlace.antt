-- Only the code's own way; no public clause needs this.
-- A fragment that is whole in the input: a moof with one run, and its mdat.
use Rattle.std.specs.Prelude.{◌≡◌, ℕ, ◌+◌, ◌-◌, ◌*◌, ◌≤◌, ◌^◌, false, List, [], ◌∷◌, length, take, drop, true, Option, Some, None, IsSome}
use Rattle.std.specs.List.{list_all}
use Rattle.mp4_box.specs.Headers.{IsBytes, header_at}
use Rattle.mp4_box.specs.Order.{least}
use Rattle.mp4_box.specs.Paths.{at_path}
use Rattle.mp4_box.specs.declared.headers.Header.{Header}
use Rattle.mp4_box.specs.declared.headers.Size.TheVariants.{Exact}
use Rattle.mp4_box.specs.declared.headers.Step.TheVariants as steps
use Rattle.mp4_box.specs.declared.rules.Fault.{Fault}
use Rattle.mp4_init.specs.declared.table.Track.{Track}
use Rattle.mp4_traf.specs.Kinds.{traf}
use Rattle.mp4_frag.specs.SingleRuns.{IsSingle}
use Rattle.mp4_frag.specs.Moofs.{fault_before_times, moof_fault, moof_of, moof_samples, moof_trafs, moof_truns, time_faults}
use Rattle.mp4_frag.specs.Places.{place_fault}
use Rattle.mp4_traf.specs.Rules.{most_in_moof}
use Rattle.mp4_traf.specs.Runs.{MoofBytes, begins_early, moof_at}
use Rattle.mp4_frag.specs.declared.single_run.SingleRun.{SingleRun}
use Rattle.mp4_ledger.specs.Memory.{Account}
use Rattle.mp4_run_order.specs.declared.runs.Payload.{Payload}
use Rattle.mp4_machine.specs.Bodies.{longest}
use Rattle.mp4_grammar.specs.Kinds.{kind_in, most_moof}
use Rattle.mp4_grammar.specs.declared.kinds.Kind.{Kind}
use Rattle.mp4_grammar.specs.declared.kinds.Kind.TheVariants.{Moof, Mdat, Other}
use Rattle.mp4_recut.specs.declared.operation.Operation.{Operation}
use Rattle.mp4_recut.specs.declared.operation.Operation.TheVariants as operations
use Rattle.mp4_fragment_machine.specs.States.{Progress, known}
use Rattle.mp4_fragment_machine.specs.declared.in_place.InPlace.{InPlace}
use Rattle.mp4_fragment_machine.specs.declared.in_place.InPlace.TheVariants as answers
use Rattle.mp4_fragment_machine.specs.declared.in_place.attempt.InPlaceRead.{InPlaceRead}
use Rattle.mp4_fragment_machine.specs.declared.in_place.many_runs.Untaken.{Untaken}
use Rattle.mp4_fragment_machine.specs.declared.in_place.many_runs.Untaken.TheVariants as untaken
use Rattle.mp4_fragment_machine.specs.declared.state.State.TheVariants as states
use Rattle.mp4_fragment_machine.specs.declared.in_place.Boxes.{Boxes}
use Rattle.mp4_fragment_machine.specs.declared.in_place.Span.{Span}

-- a whole box of this kind, at an offset, at the front of some bytes
pub record IsFirstBox (kind : Kind) (at : ℕ) (x : List ℕ) (b : Span) : Type 0 where
  pub header : Header
  pub is : header_at x ≡ steps.Whole header
  pub is_kind : kind_in header.kind.0 ≡ kind
  pub type : header.kind ≡ b.kind
  pub header_len : header.header_len ≡ b.header_len
  pub sized : header.size ≡ Exact b.size
  pub whole : b.size ≤ length x
  pub near : at + b.size ≤ longest

-- the payload of an mdat at an offset
abbrev pub payload_in : ℕ → Span → Payload
payload_in at mdat = record { start = at + mdat.header_len; end = Some (at + mdat.size) }

-- the input begins with a whole moof and a whole mdat, which begin at an offset
pub record AreBoxes (at : ℕ) (input : List ℕ) (b : Boxes) : Type 0 where
  pub span : Span
  pub moof : IsFirstBox Moof at input span
  pub most : span.size ≤ most_moof
  pub bytes : b.moof.now ≡ take span.size input
  pub valid : IsBytes b.moof.now
  pub mdat : IsFirstBox Mdat (at + span.size) (drop span.size input) b.mdat

-- a moof and the list of its runs may be claimed
abbrev pub MayBeListed : MoofBytes → Account → Type 0
MayBeListed h a = a.live + (length h.bytes + 64 * moof_truns h) ≤ a.limit

-- a moof may be read in place: each traf has a time of its own before tick 2^63
abbrev pub MayBeReadInPlace : MoofBytes → Type 0
MayBeReadInPlace h = list_all begins_early (at_path (traf ∷ []) (moof_of h)) ≡ true

-- it was read in place, and this was found: its fault by all rules, and so many rows, each sample once unless a rule other than that
-- of times is broken
pub record WasReadInPlace (h : MoofBytes) (tracks : List Track) (found : InPlaceRead) : Type 0 where
  pub may : MayBeReadInPlace h
  pub fault : moof_fault h tracks ≡ found.fault
  pub all : fault_before_times h tracks ≡ None → found.rows ≡ moof_samples h
  pub few : fault_before_times h tracks ≡ None → moof_samples h ≤ most_in_moof
  pub none : IsSome (fault_before_times h tracks) → found.rows ≡ 0

-- where an attempt was given up, what holds of what was found
abbrev pub IfGivenUp : (Option InPlaceRead → Type 0) → Untaken → Type 0
IfGivenUp holds (untaken.GivenUp found) = holds found
IfGivenUp holds untaken.WriteFailed = Unit {0}

-- a fragment that is whole in the input, with these boxes, whose moof has just this run, which lies within the mdat
pub record IsFragment (at : ℕ) (tracks : List Track) (input : List ℕ) (b : Boxes) (l : SingleRun) : Type 0 where
  pub boxes : AreBoxes at input b
  pub single_run : IsSingle (moof_at b.moof.now at) tracks l
  pub is_placed : place_fault (payload_in (at + boxes.span.size) b.mdat) (l.run ∷ []) ≡ None

-- ---- its media

-- where they begin
abbrev pub media_start : ℕ → Boxes → ℕ
media_start at b = at + length b.moof.now + b.mdat.header_len

-- the payload of its mdat, in the input
abbrev pub media_in : List ℕ → Boxes → List ℕ
media_in input b = take (b.mdat.size - b.mdat.header_len) (drop b.mdat.header_len (drop (length b.moof.now) input))

-- a fragment with just this run may be taken whole: to be recut without an index, with a number for each sample after so many fragments
abbrev pub IsTakenInPlace : Operation → ℕ → SingleRun → Type 0
IsTakenInPlace (operations.List command) fragments l = Unit {0}
IsTakenInPlace (operations.Split cut) fragments l = (cut.index ≡ false) × (fragments + 1 + l.run.count ≤ 2 ^ 32)

-- ---- what the input has whole, for a machine that is seen before a header at an offset

-- a box that is passed over or copied
pub record HasOther (m : Progress) (at : ℕ) (input : List ℕ) (span : Span) : Type 0 where
  pub state : m.state ≡ states.Header at
  pub empty : m.header_bytes ≡ []
  pub is : IsFirstBox Other at input span

-- a moof after the moov
pub record HasMoof (m : Progress) (at : ℕ) (input : List ℕ) (moof : Span) : Type 0 where
  pub state : m.state ≡ states.Header at
  pub empty : m.header_bytes ≡ []
  pub tracks : m.tracks ≡ Some (known m.tracks)
  pub is : IsFirstBox Moof at input moof
  pub most : moof.size ≤ most_moof

-- the boxes of a fragment, whose moof may be claimed with a row for its run
pub record HasBoxes (m : Progress) (account : Account) (at : ℕ) (input : List ℕ) (b : Boxes) : Type 0 where
  pub state : m.state ≡ states.Header at
  pub empty : m.header_bytes ≡ []
  pub tracks : m.tracks ≡ Some (known m.tracks)
  pub are : AreBoxes at input b
  pub room : account.live + (length b.moof.now + 64) ≤ account.limit

-- a fragment of one run, which is taken
pub record HasOneRun (m : Progress) (account : Account) (at : ℕ) (input : List ℕ) (b : Boxes) (l : SingleRun) : Type 0 where
  pub boxes : HasBoxes m account at input b
  pub is : IsFragment at (known m.tracks) input b l
  pub taken : IsTakenInPlace m.operation m.counter.tally.fragments l

-- one with so many samples, whose only fault is a time
pub record HasTimeFault (m : Progress) (account : Account) (at : ℕ) (input : List ℕ) (b : Boxes) (n : ℕ) (f : Fault) : Type 0 where
  pub boxes : HasBoxes m account at input b
  pub good : fault_before_times (moof_at b.moof.now at) (known m.tracks) ≡ None
  pub late : least (time_faults (moof_trafs (moof_at b.moof.now at) (known m.tracks))) ≡ Some f
  pub samples : n ≡ moof_samples (moof_at b.moof.now at)

-- one whose only run doesn't lie in its mdat
pub record HasPlaceFault (m : Progress) (account : Account) (at : ℕ) (input : List ℕ) (b : Boxes) (l : SingleRun) (f : Fault) : Type 0 where
  pub boxes : HasBoxes m account at input b
  pub single_run : IsSingle (moof_at b.moof.now at) (known m.tracks) l
  pub misplaced : place_fault (payload_in (at + boxes.are.span.size) b.mdat) (l.run ∷ []) ≡ Some f

-- either, of so many samples, is refused after a claim of so many bytes and so many reads of rows: for a time the moof is claimed and each
-- sample is read once; for a place a row of a list is claimed too, and each is read twice
pub data IsRefused (m : Progress) (account : Account) (at : ℕ) (input : List ℕ) (bytes n rows : ℕ) (f : Fault) : Type 0 where
  Late :
      (b : Boxes) → HasTimeFault m account at input b n f
      → bytes ≡ length b.moof.now → rows ≡ n → IsRefused m account at input bytes n rows f
  Misplaced :
      (b : Boxes) (l : SingleRun) → HasPlaceFault m account at input b l f → n ≡ l.run.count
      → bytes ≡ length b.moof.now + 64 → rows ≡ 2 * n → IsRefused m account at input bytes n rows f

-- what the answer says
abbrev pub IsFoundInPlace : Progress → ℕ → List ℕ → InPlace → Type 0
IsFoundInPlace m at input (answers.Other span) = HasOther m at input span
IsFoundInPlace m at input (answers.Moof moof) = HasMoof m at input moof
IsFoundInPlace m at input answers.No = Unit {0}
