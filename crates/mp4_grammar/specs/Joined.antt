-- Whole items that break no rule, one after the other (ISO/IEC 14496-12, 8.1.1, 8.2.1 and 8.8.4): one moov, which
-- comes before any moof; fragments, each a moof and the mdat directly after it; and boxes of other types, which are
-- passed over.
use Rattle.std.specs.Prelude.{◌≡◌, ℕ, ◌+◌, ◌*◌, ◌≤◌, List, [], ◌∷◌, ◌++◌, length, drop, Option, Some, None}
use Rattle.mp4_box.specs.Headers.{IsBox}
use Rattle.mp4_box.specs.declared.headers.Header.{Header}
use Rattle.mp4_init.specs.Moovs.{moov_fault, moov_tracks}
use Rattle.mp4_init.specs.declared.table.Track.{Track}
use Rattle.mp4_frag.specs.Moofs.{IsRead}
use Rattle.mp4_traf.specs.Runs.{moof_at}
use Rattle.mp4_machine.specs.Readings.{Effects, no_effects, says, counts, requests_memory, both}
use Rattle.mp4_grammar.specs.declared.kinds.Kind.{Kind}
use Rattle.mp4_grammar.specs.declared.kinds.Kind.TheVariants.{Moov, Moof, Mdat, Other}
use Rattle.mp4_grammar.specs.Kinds.{kind_in, most_moof, most_moov}
use Rattle.mp4_grammar.specs.Contexts.{Context, context}
use Rattle.mp4_grammar.specs.Meanings.{Fragment, Meaning, fragment_fault}
use Rattle.mp4_grammar.specs.Items.{context_after_fragment, fragment, inspected, with_runs}

-- bytes with the header that they begin with
pub record OneBox : Type 0 where
  pub header : Header
  pub bytes : List ℕ

pub data Item : Type 0 where
  -- a box of another type
  PassedOver : OneBox → Item
  -- a moov
  Movie : OneBox → Item
  -- a moof, and the mdat directly after it
  MovieFragment : (moof mdat : OneBox) → Item

abbrev pub bytes_of : Item → List ℕ
bytes_of (PassedOver b) = b.bytes
bytes_of (Movie b) = b.bytes
bytes_of (MovieFragment moof mdat) = moof.bytes ++ mdat.bytes

abbrev pub joined : List Item → List ℕ
joined [] = []
joined (i ∷ is) = bytes_of i ++ joined is

-- ---- items that break no rule

-- these are a whole box of the kind
pub record IsOne (kind : Kind) (b : OneBox) : Type 0 where
  pub type : kind_in b.header.kind.0 ≡ kind
  pub payload : List ℕ
  pub is : IsBox b.header payload b.bytes

-- the tracks, after a moov
abbrev pub listed : Option (List Track) → List Track
listed None = []
listed (Some tracks) = tracks

abbrev pub tracks_in : Context → List Track
tracks_in c = listed c.tracks

-- the fragment of a moof x and the mdat after it with this header
abbrev pub fragment_here : Context → List ℕ → Header → Fragment
fragment_here c x h = fragment c (tracks_in c) x h

abbrev pub fragment_in : Context → OneBox → OneBox → Fragment
fragment_in c moof mdat = fragment_here c moof.bytes mdat.header

-- nothing is at fault with it
abbrev pub IsGood : Meaning → Context → List ℕ → Header → Type 0
IsGood meaning c x h = fragment_fault meaning (fragment_here c x h) ≡ None

-- a moov after none, no larger than it may be
pub record IsMoovHere (c : Context) (b : OneBox) : Type 0 where
  pub one : IsOne Moov b
  pub none : c.tracks ≡ None
  pub small : length b.bytes ≤ most_moov

-- a moof after a moov, no larger than it may be
pub record IsMoofHere (c : Context) (b : OneBox) : Type 0 where
  pub one : IsOne Moof b
  pub known : c.tracks ≡ Some (tracks_in c)
  pub small : length b.bytes ≤ most_moof

-- the item breaks no rule in this context
abbrev pub IsSound : Meaning → Context → Item → Type 0
IsSound meaning c (PassedOver b) = IsOne Other b
IsSound meaning c (Movie b) = IsMoovHere c b × (moov_fault c.at b.bytes ≡ None)
IsSound meaning c (MovieFragment moof mdat) =
    IsMoofHere c moof × IsRead (moof_at moof.bytes c.at) (tracks_in c) × IsOne Mdat mdat × IsGood meaning c moof.bytes mdat.header

-- ---- the context after them

-- a moov sets the tracks, and a fragment where they end
abbrev pub context_after : Meaning → Context → Item → Context
context_after meaning c (PassedOver b) = context (c.at + length b.bytes) c.tracks c.number
context_after meaning c (Movie b) = context (c.at + length b.bytes) (Some (moov_tracks c.at b.bytes)) c.number
context_after meaning c (MovieFragment moof mdat) = context_after_fragment meaning (fragment_in c moof mdat) (c.at + length moof.bytes + length mdat.bytes)

-- after one after the other
abbrev pub context_after_all : Meaning → Context → List Item → Context
context_after_all meaning c [] = c
context_after_all meaning c (i ∷ is) = context_after_all meaning (context_after meaning c i) is

-- these break no rule, one after the other
abbrev pub AreSound : Meaning → Context → List Item → Type 0
AreSound meaning c [] = Unit {0}
AreSound meaning c (i ∷ is) = IsSound meaning c i × AreSound meaning (context_after meaning c i) is

-- ---- their effects

-- a moof x is held in addition to the track table
abbrev pub moof_requests : Context → List ℕ → Effects
moof_requests c x = requests_memory c.at (64 * length (tracks_in c) + length x)

-- it is without a fault: its samples are inspected, and a list of its runs is requested
abbrev pub moof_effects : Context → List ℕ → Effects
moof_effects c x = both (moof_requests c x) (both (counts (inspected (moof_at x c.at))) (requests_memory c.at (with_runs c (tracks_in c) x)))

-- for each item the effects of its bytes, and what it requests
abbrev pub item_effects : Meaning → Context → Item → Effects
item_effects meaning c (PassedOver b) = meaning.passed b.header.kind b.bytes
item_effects meaning c (Movie b) = both (requests_memory c.at (length b.bytes)) (both (requests_memory c.at (length b.bytes + 64 * length (moov_tracks c.at b.bytes))) (says (meaning.of_moov b.bytes)))
item_effects meaning c (MovieFragment moof mdat) =
    both (moof_effects c moof.bytes) (both (meaning.accepted (fragment_in c moof mdat)) (meaning.media (fragment_in c moof mdat) (drop mdat.header.header_len mdat.bytes)))

-- the same for items, one after the other
abbrev pub items_effects : Meaning → Context → List Item → Effects
items_effects meaning c [] = no_effects
items_effects meaning c (i ∷ is) = both (item_effects meaning c i) (items_effects meaning (context_after meaning c i) is)
