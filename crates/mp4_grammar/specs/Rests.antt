-- What is left of a fragmented stream after whole items that break no rule, and how it is read.
use Rattle.std.specs.Prelude.{◌≡◌, ◌≢◌, ℕ, ◌+◌, ◌-◌, ◌<◌, ◌≤◌, List, [], ◌++◌, length, take, Option, Some, None}
use Rattle.mp4_box.specs.Headers.{BeginsWith, Headed, kind_of, need}
use Rattle.mp4_box.specs.Order.{least}
use Rattle.mp4_box.specs.declared.headers.Header.{Header}
use Rattle.mp4_box.specs.declared.headers.Size.TheVariants.{Exact, ToEnd}
use Rattle.mp4_box.specs.declared.rules.Fault.{Fault}
use Rattle.mp4_box.specs.declared.rules.Rule.{Rule}
use Rattle.mp4_box.specs.declared.rules.Rule.TheVariants.{BadSize, MdatMissing, NoMoov, SecondMoov, StrayMdat, StreamTooLong, TooLarge, Truncated}
use Rattle.mp4_init.specs.Moovs.{moov_fault}
use Rattle.mp4_init.specs.declared.table.Track.{Track}
use Rattle.mp4_frag.specs.Moofs.{fault_before_times, IsRead, moof_trafs, time_faults}
use Rattle.mp4_traf.specs.Runs.{moof_at}
use Rattle.mp4_machine.specs.Bodies.{cut_off, fault, least_end, longest, at_fault}
use Rattle.mp4_machine.specs.Readings.{CutOff, Faulty, Outcome, Reading, Sound, Effects, after, requests_memory, counts, empty_reading, no_effects}
use Rattle.mp4_grammar.specs.Contexts.{Context, table_of}
use Rattle.mp4_grammar.specs.Items.{inspected}
use Rattle.mp4_grammar.specs.Joined.{AreSound, IsGood, IsMoofHere, IsMoovHere, Item, OneBox, context_after_all, fragment_here, joined, moof_requests, moof_effects, tracks_in}
use Rattle.mp4_grammar.specs.Kinds.{kind_in, moof, most_moof, most_moov}
use Rattle.mp4_grammar.specs.Meanings.{Fragment, Meaning, fragment_fault, needed_in}
use Rattle.mp4_grammar.specs.declared.kinds.Kind.{Kind}
use Rattle.mp4_grammar.specs.declared.kinds.Kind.TheVariants.{Mdat, Moof, Moov, Other}

-- bytes that begin with a whole box
pub record Boxed (y : List ℕ) : Type 0 where
  pub box : OneBox
  pub more : List ℕ
  pub cut : y ≡ box.bytes ++ more

-- these effects, and the reading ends so
abbrev pub ends : Effects → Outcome → Reading
ends effects outcome = record { effects = effects; outcome = outcome }

-- ---- what a box may be at an offset

-- it is of this kind and has so many bytes
abbrev pub HasSize : Kind → ℕ → ℕ → Header → Type 0
HasSize kind at s h = (kind_in h.kind.0 ≡ kind) × (h.size ≡ Exact s) × (at + s ≤ longest)

-- it is of this kind and goes to the end of the stream
abbrev pub IsOpen : Kind → Header → Type 0
IsOpen kind h = (kind_in h.kind.0 ≡ kind) × (h.size ≡ ToEnd)

-- how many bytes a box that is held may have: a moov before there are tracks, and a moof after it
abbrev pub most_here : Kind → Option (List Track) → Option ℕ
most_here Moov None = Some most_moov
most_here Moov (Some tracks) = None
most_here Moof None = None
most_here Moof (Some tracks) = Some most_moof
most_here Mdat tracks = None
most_here Other tracks = None

abbrev pub IsBuffered : Context → ℕ → ℕ → Header → Type 0
IsBuffered c s limit h = (most_here (kind_in h.kind.0) c.tracks ≡ Some limit) × (h.size ≡ Exact s) × (c.at + s ≤ longest)

-- the rule that it breaks at its place: a second moov, a moof before the moov, or an mdat that follows no moof
abbrev pub place_rule : Kind → Option (List Track) → Option Rule
place_rule Moov None = None
place_rule Moov (Some tracks) = Some SecondMoov
place_rule Moof None = Some NoMoov
place_rule Moof (Some tracks) = None
place_rule Mdat tracks = Some StrayMdat
place_rule Other tracks = None

-- ---- after a moof

-- effects of a sound fragment, of whose media these bytes came, and how its reading ends
abbrev pub media_ends : Meaning → Fragment → List ℕ → Outcome → Reading
media_ends meaning f bytes outcome = after (meaning.accepted f) (ends (meaning.media f bytes) outcome)

-- the bytes z follow a sound moof x in a context, and are read so: they begin with no whole mdat with which the fragment is sound
pub data IsAfterMoof (meaning : Meaning) (c : Context) (x z : List ℕ) (r : Reading) : Type 0 where
  -- nothing is left
  NoMdat :
      z ≡ []
      → r ≡ cut_off MdatMissing (Some moof) c.at → IsAfterMoof meaning c x z r
  -- too few bytes for a header
  SecondCutInHeader :
      0 < length z → length z < need z
      → r ≡ cut_off Truncated (kind_of z) (c.at + length x) → IsAfterMoof meaning c x z r
  -- no header begins these bytes, though there are enough
  SecondBadHeader :
      need z ≤ length z → ((h : Header) → BeginsWith h z → ⊥)
      → r ≡ at_fault BadSize (kind_of z) (c.at + length x) → IsAfterMoof meaning c x z r
  -- a box that goes past the longest stream
  SecondTooFar :
      (b : Headed z) → longest < least_end (c.at + length x) b.header b.header.size
      → r ≡ at_fault StreamTooLong (Some b.header.kind) (c.at + length x) → IsAfterMoof meaning c x z r
  -- a box that isn't an mdat
  NotMdat :
      (b : Headed z) → kind_in b.header.kind.0 ≢ Mdat → least_end (c.at + length x) b.header b.header.size ≤ longest
      → r ≡ at_fault MdatMissing (Some moof) c.at → IsAfterMoof meaning c x z r
  -- an mdat with which the runs of the moof are at fault
  BadFragment :
      (b : Headed z) (f : Fault) → kind_in b.header.kind.0 ≡ Mdat
      → least_end (c.at + length x) b.header b.header.size ≤ longest
      → fragment_fault meaning (fragment_here c x b.header) ≡ Some f
      → r ≡ ends no_effects (Faulty f) → IsAfterMoof meaning c x z r
  -- an mdat that isn't whole
  CutInMedia :
      (b : Headed z) (s : ℕ) → HasSize Mdat (c.at + length x) s b.header → IsGood meaning c x b.header → length z < s
      → r ≡ media_ends meaning (fragment_here c x b.header) b.more (CutOff (fault Truncated (Some b.header.kind) (c.at + length x)))
      → IsAfterMoof meaning c x z r
  -- one that goes to the end of the stream: it has all bytes that the runs need, or too few, or it goes too far
  OpenMedia :
      (b : Headed z) → IsOpen Mdat b.header → IsGood meaning c x b.header → c.at + length x + length z ≤ longest
      → needed_in (fragment_here c x b.header) ≤ length b.more
      → r ≡ media_ends meaning (fragment_here c x b.header) b.more Sound → IsAfterMoof meaning c x z r
  OpenMediaCut :
      (b : Headed z) → IsOpen Mdat b.header → IsGood meaning c x b.header → c.at + length x + length z ≤ longest
      → length b.more < needed_in (fragment_here c x b.header)
      → r ≡ media_ends meaning (fragment_here c x b.header) b.more (CutOff (fault Truncated (Some b.header.kind) (c.at + length x)))
      → IsAfterMoof meaning c x z r
  OpenMediaTooFar :
      (b : Headed z) → IsOpen Mdat b.header → IsGood meaning c x b.header → c.at + length x + length b.header_bytes ≤ longest
      → longest < c.at + length x + length z
      → r ≡ media_ends meaning (fragment_here c x b.header) (take (longest - (c.at + length x + length b.header_bytes)) b.more) (Faulty (fault StreamTooLong (Some b.header.kind) (c.at + length x)))
      → IsAfterMoof meaning c x z r

-- ---- the rest

-- the rest y in a context is read so
pub data IsRest (meaning : Meaning) (c : Context) (y : List ℕ) (r : Reading) : Type 0 where
  -- nothing is left
  Ended :
      y ≡ []
      → r ≡ empty_reading → IsRest meaning c y r
  -- too few bytes for a header
  CutInHeader :
      0 < length y → length y < need y
      → r ≡ cut_off Truncated (kind_of y) c.at → IsRest meaning c y r
  -- no header begins these bytes, though there are enough
  BadHeader :
      need y ≤ length y → ((h : Header) → BeginsWith h y → ⊥)
      → r ≡ at_fault BadSize (kind_of y) c.at → IsRest meaning c y r
  -- a box that goes past the longest stream
  TooFar :
      (b : Headed y) → longest < least_end c.at b.header b.header.size
      → r ≡ at_fault StreamTooLong (Some b.header.kind) c.at → IsRest meaning c y r
  -- a box that may not be here
  OutOfPlace :
      (b : Headed y) (rule : Rule) → place_rule (kind_in b.header.kind.0) c.tracks ≡ Some rule
      → least_end c.at b.header b.header.size ≤ longest
      → r ≡ at_fault rule (Some b.header.kind) c.at → IsRest meaning c y r
  -- a box that is passed over, and isn't whole
  CutInBody :
      (b : Headed y) (s : ℕ) → HasSize Other c.at s b.header → length y < s
      → r ≡ ends (meaning.passed b.header.kind y) (CutOff (fault Truncated (Some b.header.kind) c.at))
      → IsRest meaning c y r
  -- one that goes to the end of the stream
  Open :
      (b : Headed y) → IsOpen Other b.header → c.at + length y ≤ longest
      → r ≡ ends (meaning.passed b.header.kind y) Sound → IsRest meaning c y r
  OpenTooFar :
      (b : Headed y) → IsOpen Other b.header → c.at + length b.header_bytes ≤ longest → longest < c.at + length y
      → r ≡ ends (meaning.passed b.header.kind (take (longest - c.at) y)) (Faulty (fault StreamTooLong (Some b.header.kind) c.at))
      → IsRest meaning c y r
  -- a moov or moof that is too large, or states no size
  Large :
      (b : Headed y) (s limit : ℕ) → IsBuffered c s limit b.header → limit < s
      → r ≡ at_fault TooLarge (Some b.header.kind) c.at → IsRest meaning c y r
  Unsized :
      (b : Headed y) (limit : ℕ) → most_here (kind_in b.header.kind.0) c.tracks ≡ Some limit → b.header.size ≡ ToEnd
      → c.at + length b.header_bytes ≤ longest
      → r ≡ at_fault TooLarge (Some b.header.kind) c.at → IsRest meaning c y r
  -- one that isn't whole
  CutInHeld :
      (b : Headed y) (s limit : ℕ) → IsBuffered c s limit b.header → s ≤ limit → length y < s
      → r ≡ after (requests_memory c.at (table_of c.tracks + s)) (cut_off Truncated (Some b.header.kind) c.at)
      → IsRest meaning c y r
  -- a moov with a fault
  BadMoov :
      (b : Boxed y) (f : Fault) → IsMoovHere c b.box → c.at + length b.box.bytes ≤ longest
      → moov_fault c.at b.box.bytes ≡ Some f
      → r ≡ after (requests_memory c.at (length b.box.bytes)) (ends no_effects (Faulty f)) → IsRest meaning c y r
  -- a moof with a fault by any rule but that of times; or else by that one, once its samples were inspected
  BadMoof :
      (b : Boxed y) (f : Fault) → IsMoofHere c b.box → c.at + length b.box.bytes ≤ longest
      → fault_before_times (moof_at b.box.bytes c.at) (tracks_in c) ≡ Some f
      → r ≡ after (moof_requests c b.box.bytes) (ends no_effects (Faulty f)) → IsRest meaning c y r
  LateMoof :
      (b : Boxed y) (f : Fault) → IsMoofHere c b.box → c.at + length b.box.bytes ≤ longest
      → fault_before_times (moof_at b.box.bytes c.at) (tracks_in c) ≡ None
      → least (time_faults (moof_trafs (moof_at b.box.bytes c.at) (tracks_in c))) ≡ Some f
      → r ≡ after (moof_requests c b.box.bytes) (after (counts (inspected (moof_at b.box.bytes c.at))) (ends no_effects (Faulty f)))
      → IsRest meaning c y r
  -- a sound moof, and no whole mdat after it with which the fragment is sound
  AfterMoof :
      (b : Boxed y) (s : Reading) → IsMoofHere c b.box → c.at + length b.box.bytes ≤ longest
      → IsRead (moof_at b.box.bytes c.at) (tracks_in c) → IsAfterMoof meaning c b.box.bytes b.more s
      → r ≡ after (moof_effects c b.box.bytes) s → IsRest meaning c y r

-- the bytes b in a context are whole items that break no rule, and then one of the rests
pub record Split (meaning : Meaning) (c : Context) (b : List ℕ) : Type 0 where
  pub items : List Item
  pub rest : List ℕ
  pub cut : b ≡ joined items ++ rest
  pub sound : AreSound meaning c items
  pub near : c.at + length (joined items) ≤ longest
  pub reading : Reading
  pub is : IsRest meaning (context_after_all meaning c items) rest reading
