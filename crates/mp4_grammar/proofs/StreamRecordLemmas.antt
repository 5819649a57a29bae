-- The text of a stream that is listed by records is the records of accepted fragments.
use Rattle.std.proofs.Common.{◌≡◌, ◌∙◌, ◌+◌, ◌<◌, ◌≤◌, ◌^◌, ◌==◌, ℕ, zero, suc, List, [], ◌∷◌, ◌++◌, length, map, Option, Some, None, refl, sym, ap, subst, arith, length-append}
use Rattle.std.specs.List.{AllByRecursion, flat_map, position}
use Rattle.std.proofs.lemmas.Grind.{flat_map-append}
use Rattle.mp4_box.specs.Headers.{IsBytes}
use Rattle.mp4_box.specs.Paths.{of_kind}
use Rattle.mp4_box.specs.Trees.{Box, box_at, children}
use Rattle.mp4_box.specs.declared.headers.Header.{Header}
use Rattle.mp4_box.specs.declared.headers.Size.{Size}
use Rattle.mp4_box.specs.declared.headers.Size.TheVariants.{Exact, ToEnd}
use Rattle.mp4_init.specs.Kinds.{trak}
use Rattle.mp4_init.specs.Moovs.{moov_tracks, of_moov}
use Rattle.mp4_init.specs.TrackFields.{FitsTrackFields}
use Rattle.mp4_init.specs.Tracks.{track_of, tracks_of, with_next}
use Rattle.mp4_init.specs.declared.table.Track.{Track}
use Rattle.mp4_init.proofs.TrackFieldLemmas.{moov_tracks_fit}
use Rattle.mp4_traf.specs.Runs.{TrackFragment, end_of, moof_at}
use Rattle.mp4_traf.specs.Settling.{ended, ended_at, settled}
use Rattle.mp4_frag.specs.Moofs.{IsRead, moof_trafs}
use Rattle.mp4_machine.specs.Bodies.{longest}
use Rattle.mp4_machine.specs.Readings.{Reading}
use Rattle.mp4_grammar.specs.AcceptedFragments.{AreFragmentRecords, AreRecords, IsAccepted, IsTrack}
use Rattle.mp4_grammar.specs.Commands.{command_meaning, reading}
use Rattle.mp4_grammar.specs.Contexts.{Context, first_context}
use Rattle.mp4_grammar.specs.Items.{end_of as mdat_end}
use Rattle.mp4_grammar.specs.Joined.{AreSound, IsMoofHere, IsSound, Item, Movie, MovieFragment, OneBox, PassedOver, bytes_of, context_after, context_after_all, fragment_here, fragment_in, item_effects, items_effects, joined, tracks_in}
use Rattle.mp4_grammar.specs.Meanings.{Fragment, Meaning}
use Rattle.mp4_grammar.specs.Rests.{AfterMoof, BadFragment, BadHeader, BadMoof, BadMoov, CutInBody, CutInHeader, CutInHeld, CutInMedia, Ended, IsAfterMoof, IsRest, Large, LateMoof, NoMdat, NotMdat, Open, OpenMedia, OpenMediaCut, OpenMediaTooFar, OpenTooFar, OutOfPlace, SecondBadHeader, SecondCutInHeader, SecondTooFar, TooFar, Unsized}
use Rattle.mp4_grammar.specs.TrafRecords.{IsRecord, fragment_records, record_bytes, traf_record}
use Rattle.mp4_grammar.specs.declared.command.Command.TheVariants.{Records}
use Rattle.mp4_grammar.specs.declared.traf_record.TrafRecord.{TrafRecord}
use Rattle.mp4_grammar.proofs.HeldSizeLemmas.{front_bytes, rest_bytes}
use Rattle.mp4_grammar.proofs.JoinLemmas.{after-at}
use Rattle.mp4_grammar.proofs.RecordFitLemmas.{accepted_records, accepted_trafs, ends_small}
use Rattle.mp4_grammar.proofs.SplitLemmas.{every-stream}

-- ---- the tracks

first_ends : (m : Box) (bs : List Box) → AllByRecursion (λ (t : Track). t.next < 2 ^ 64) (map (track_of m) bs)
unfolding track_of
first_ends m [] = tt
first_ends m (b ∷ bs) = (omega arith, first_ends m bs)

moov_ends : (m : Option Box) → AllByRecursion (λ (t : Track). t.next < 2 ^ 64) (of_moov [] tracks_of m)
moov_ends None = tt
moov_ends (Some m) = first_ends m (of_kind trak (children m))

together : (ts : List Track) → AllByRecursion FitsTrackFields ts → AllByRecursion (λ (t : Track). t.next < 2 ^ 64) ts → AllByRecursion IsTrack ts
together [] fields next = tt
together (t ∷ ts) fields next = (record { fields = fields.0; next = next.0 }, together ts fields.1 next.1)

moov_is : (o : ℕ) (x : List ℕ) → IsBytes x → AllByRecursion IsTrack (moov_tracks o x)
moov_is o x fits = together (moov_tracks o x) (moov_tracks_fit o x fits) (moov_ends (box_at o x))

next_is : (i n : ℕ) (ts : List Track) → n < 2 ^ 64 → AllByRecursion IsTrack ts → AllByRecursion IsTrack (with_next i n ts)
unfolding with_next
next_is i n [] small all = tt
next_is zero n (t ∷ ts) small all =
    let f = all.0.fields in
    (record { fields = record { id = f.id; timescale = f.timescale; handler = f.handler; entries = f.entries; desc = f.desc; duration = f.duration; size = f.size; flags = f.flags }; next = small }, all.1)
next_is (suc i) n (t ∷ ts) small all = (all.0, next_is i n ts small all.1)

at_is : (o : Option ℕ) (n : ℕ) (ts : List Track) → n < 2 ^ 64 → AllByRecursion IsTrack ts → AllByRecursion IsTrack (ended_at o n ts)
at_is None n ts small all = all
at_is (Some i) n ts small all = next_is i n ts small all

settled_is : (ts : List Track) (fs : List TrackFragment) → AllByRecursion (λ (t : TrackFragment). end_of t < 2 ^ 64) fs → AllByRecursion IsTrack ts → AllByRecursion IsTrack (settled ts fs)
settled_is ts [] ends all = all
settled_is ts (f ∷ fs) ends all =
    settled_is (ended ts f) fs ends.1 (at_is (position (λ (t : Track). t.id == f.shared.header.track) ts) (end_of f) ts ends.0 all)

abbrev AreTracks : Context → Type 0
AreTracks c = AllByRecursion IsTrack (tracks_in c)

-- ---- records

none : AreFragmentRecords []
none = record { fragments = []; accepted = tt; is = refl }

all_accepted : (fs gs : List Fragment) → AllByRecursion IsAccepted fs → AllByRecursion IsAccepted gs → AllByRecursion IsAccepted (fs ++ gs)
all_accepted [] gs all rest = rest
all_accepted (f ∷ fs) gs all rest = (all.0, all_accepted fs gs all.1 rest)

both_are : (x y : List ℕ) → AreFragmentRecords x → AreFragmentRecords y → AreFragmentRecords (x ++ y)
both_are x y p q = record {
  fragments = p.fragments ++ q.fragments;
  accepted = all_accepted p.fragments q.fragments p.accepted q.accepted;
  is = ap (λ (l : List ℕ). l ++ y) p.is ∙ ap (λ (l : List ℕ). flat_map fragment_records p.fragments ++ l) q.is ∙ sym (flat_map-append fragment_records p.fragments q.fragments);
}

-- those of one fragment
one : (f : Fragment) → IsAccepted f → AreFragmentRecords (fragment_records f ++ [])
one f is = record { fragments = f ∷ []; accepted = (is, tt); is = refl }

-- ---- an accepted fragment

accepted_here : (c : Context) (moof : OneBox) (h : Header) → AreTracks c → IsBytes moof.bytes → IsMoofHere c moof → c.at + length moof.bytes ≤ longest → IsRead (moof_at moof.bytes c.at) (tracks_in c)
    → ((end : ℕ) → mdat_end (c.at + length moof.bytes) h.size ≡ Some end → end ≤ longest) → IsAccepted (fragment_here c moof.bytes h)
accepted_here c moof h tracks fits here near read mdat = record {
  whole = (moof.header, here.one.payload, here.one.is);
  moof_bytes = fits;
  near = near;
  tracks = tracks;
  read = read;
  mdat = mdat;
}

sized_end : (next s end : ℕ) (size : Size) → size ≡ Exact s → next + s ≤ longest → mdat_end next size ≡ Some end → end ≤ longest
sized_end next s end size is near e =
    let same : Some (next + s) ≡ Some end = sym (ap (mdat_end next) is) ∙ e in
    let same_end : next + s ≡ end = cc in
    omega (arith, near, same_end)

open_end : (next end : ℕ) (size : Size) → size ≡ ToEnd → mdat_end next size ≡ Some end → end ≤ longest
open_end next end size is e =
    let same : None ≡ Some end = sym (ap (mdat_end next) is) ∙ e in
    absurd cc

-- ---- an item

pub fragment_is : (meaning : Meaning) (c : Context) (moof mdat : OneBox) → AreTracks c → IsBytes (moof.bytes ++ mdat.bytes) → IsSound meaning c (MovieFragment moof mdat) → c.at + length (moof.bytes ++ mdat.bytes) ≤ longest → IsAccepted (fragment_in c moof mdat)
fragment_is meaning c moof mdat tracks fits (here, read, mdat_one, good) near =
    let len = length-append moof.bytes mdat.bytes in
    accepted_here c moof mdat.header tracks (front_bytes moof.bytes mdat.bytes fits) here (omega (arith, near, len)) read
    (λ end e. sized_end (c.at + length moof.bytes) (length mdat.bytes) end mdat.header.size mdat_one.is.size (omega (arith, near, len)) e)

item_are : (c : Context) (i : Item) → AreTracks c → IsBytes (bytes_of i) → IsSound (command_meaning Records) c i → c.at + length (bytes_of i) ≤ longest → AreFragmentRecords (item_effects (command_meaning Records) c i).text
item_are c (PassedOver b) tracks fits sound near = none
item_are c (Movie b) tracks fits sound near = none
item_are c (MovieFragment moof mdat) tracks fits sound near = one (fragment_in c moof mdat) (fragment_is (command_meaning Records) c moof mdat tracks fits sound near)

item_tracks : (meaning : Meaning) (c : Context) (i : Item) → AreTracks c → IsBytes (bytes_of i) → IsSound meaning c i → c.at + length (bytes_of i) ≤ longest → AreTracks (context_after meaning c i)
item_tracks meaning c (PassedOver b) tracks fits sound near = tracks
item_tracks meaning c (Movie b) tracks fits sound near = moov_is c.at b.bytes fits
item_tracks meaning c (MovieFragment moof mdat) tracks fits sound near =
    let f = fragment_in c moof mdat in
    let trafs = moof_trafs f.moof f.tracks in
    settled_is f.tracks trafs (ends_small f trafs (accepted_trafs f (fragment_is meaning c moof mdat tracks fits sound near))) tracks

pub items_tracks : (meaning : Meaning) (is : List Item) (c : Context) → AreTracks c → IsBytes (joined is) → AreSound meaning c is → c.at + length (joined is) ≤ longest → AreTracks (context_after_all meaning c is)
items_tracks meaning [] c tracks fits sound near = tracks
items_tracks meaning (i ∷ is) c tracks fits (first, more) near =
    let len = length-append (bytes_of i) (joined is) in
    let next = item_tracks meaning c i tracks (front_bytes (bytes_of i) (joined is) fits) first (omega (arith, near, len)) in
    items_tracks meaning is (context_after meaning c i) next (rest_bytes (bytes_of i) (joined is) fits) more (omega (arith, near, len, after-at meaning c i))

-- items, one after the other
items_are : (is : List Item) (c : Context) → AreTracks c → IsBytes (joined is) → AreSound (command_meaning Records) c is → c.at + length (joined is) ≤ longest → AreFragmentRecords (items_effects (command_meaning Records) c is).text
items_are [] c tracks fits sound near = none
items_are (i ∷ is) c tracks fits (first, more) near =
    let len = length-append (bytes_of i) (joined is) in
    let own = front_bytes (bytes_of i) (joined is) fits in
    let next = context_after (command_meaning Records) c i in
    both_are (item_effects (command_meaning Records) c i).text (items_effects (command_meaning Records) next is).text (item_are c i tracks own first (omega (arith, near, len)))
    (items_are is next (item_tracks (command_meaning Records) c i tracks own first (omega (arith, near, len))) (rest_bytes (bytes_of i) (joined is) fits) more (omega (arith, near, len, after-at (command_meaning Records) c i)))

-- ---- the rest

reads_are : (r s : Reading) → r ≡ s → AreFragmentRecords s.effects.text → AreFragmentRecords r.effects.text
reads_are r s e h = rw e h

module _ (c : Context) (moof : OneBox) (tracks : AreTracks c) (fits : IsBytes moof.bytes) (here : IsMoofHere c moof) (near : c.at + length moof.bytes ≤ longest) (read : IsRead (moof_at moof.bytes c.at) (tracks_in c)) where
  media_are : (h : Header) → ((end : ℕ) → mdat_end (c.at + length moof.bytes) h.size ≡ Some end → end ≤ longest) → AreFragmentRecords (fragment_records (fragment_here c moof.bytes h) ++ [])
  media_are h mdat = one (fragment_here c moof.bytes h) (accepted_here c moof h tracks fits here near read mdat)

  after_are : (z : List ℕ) (r : Reading) → IsAfterMoof (command_meaning Records) c moof.bytes z r → AreFragmentRecords r.effects.text
  after_are z r (NoMdat empty e) = reads_are r _ e none
  after_are z r (SecondCutInHeader some short e) = reads_are r _ e none
  after_are z r (SecondBadHeader whole bad e) = reads_are r _ e none
  after_are z r (SecondTooFar b far e) = reads_are r _ e none
  after_are z r (NotMdat b other low e) = reads_are r _ e none
  after_are z r (BadFragment b f is low bad e) = reads_are r _ e none
  after_are z r (CutInMedia b s (kind, size, low) good short e) = reads_are r _ e (media_are b.header (λ end is. sized_end (c.at + length moof.bytes) s end b.header.size size low is))
  after_are z r (OpenMedia b (kind, size) good low enough e) = reads_are r _ e (media_are b.header (λ end is. open_end (c.at + length moof.bytes) end b.header.size size is))
  after_are z r (OpenMediaCut b (kind, size) good low short e) = reads_are r _ e (media_are b.header (λ end is. open_end (c.at + length moof.bytes) end b.header.size size is))
  after_are z r (OpenMediaTooFar b (kind, size) good low far e) = reads_are r _ e (media_are b.header (λ end is. open_end (c.at + length moof.bytes) end b.header.size size is))

rest_are : (c : Context) (y : List ℕ) (r : Reading) → AreTracks c → IsBytes y → IsRest (command_meaning Records) c y r → AreFragmentRecords r.effects.text
rest_are c y r tracks fits (Ended empty e) = reads_are r _ e none
rest_are c y r tracks fits (CutInHeader some short e) = reads_are r _ e none
rest_are c y r tracks fits (BadHeader whole bad e) = reads_are r _ e none
rest_are c y r tracks fits (TooFar b far e) = reads_are r _ e none
rest_are c y r tracks fits (OutOfPlace b rule wrong near e) = reads_are r _ e none
rest_are c y r tracks fits (CutInBody b s is short e) = reads_are r _ e none
rest_are c y r tracks fits (Open b is near e) = reads_are r _ e none
rest_are c y r tracks fits (OpenTooFar b is near far e) = reads_are r _ e none
rest_are c y r tracks fits (Large b s limit held large e) = reads_are r _ e none
rest_are c y r tracks fits (Unsized b limit here size near e) = reads_are r _ e none
rest_are c y r tracks fits (CutInHeld b s limit held small short e) = reads_are r _ e none
rest_are c y r tracks fits (BadMoov b f here near bad e) = reads_are r _ e none
rest_are c y r tracks fits (BadMoof b f here near bad e) = reads_are r _ e none
rest_are c y r tracks fits (LateMoof b f here near good late e) = reads_are r _ e none
rest_are c y r tracks fits (AfterMoof b s here near good later e) =
    reads_are r _ e (after_are c b.box tracks (front_bytes b.box.bytes b.more (subst IsBytes b.cut fits)) here near good b.more s later)

-- ---- the whole

pub stream_fragments : (b : List ℕ) → IsBytes b → AreFragmentRecords (reading Records b).effects.text
stream_fragments b fits =
    let (s, reads) = every-stream (command_meaning Records) b fits in
    let own = subst IsBytes s.cut fits in
    let front = front_bytes (joined s.items) s.rest own in
    reads_are (reading Records b) _ reads
    (both_are (items_effects (command_meaning Records) first_context s.items).text s.reading.effects.text (items_are s.items first_context tt front s.sound s.near)
    (rest_are (context_after_all (command_meaning Records) first_context s.items) s.rest s.reading (items_tracks (command_meaning Records) s.items first_context tt front s.sound s.near) (rest_bytes (joined s.items) s.rest own) s.is))

-- ---- as records

-- the records of a fragment's trafs
abbrev records_in : Fragment → List TrackFragment → List TrafRecord
records_in f ts = map (traf_record f) ts

all_fit : (xs ys : List TrafRecord) → AllByRecursion IsRecord xs → AllByRecursion IsRecord ys → AllByRecursion IsRecord (xs ++ ys)
all_fit [] ys all rest = rest
all_fit (x ∷ xs) ys all rest = (all.0, all_fit xs ys all.1 rest)

trafs_fit : (f : Fragment) (ts : List TrackFragment) → AllByRecursion (λ (t : TrackFragment). IsRecord (traf_record f t)) ts → AllByRecursion IsRecord (records_in f ts)
trafs_fit f [] all = tt
trafs_fit f (t ∷ ts) all = (all.0, trafs_fit f ts all.1)

trafs_text : (f : Fragment) (ts : List TrackFragment) → flat_map (λ (t : TrackFragment). record_bytes (traf_record f t)) ts ≡ flat_map record_bytes (records_in f ts)
trafs_text f [] = refl
trafs_text f (t ∷ ts) = ap (λ (l : List ℕ). record_bytes (traf_record f t) ++ l) (trafs_text f ts)

fragments_are : (fs : List Fragment) → AllByRecursion IsAccepted fs → AreRecords (flat_map fragment_records fs)
fragments_are [] all = record { records = []; fit = tt; is = refl }
fragments_are (f ∷ fs) all =
    let trafs = moof_trafs f.moof f.tracks in
    let later = fragments_are fs all.1 in
    record {
      records = records_in f trafs ++ later.records;
      fit = all_fit (records_in f trafs) later.records (trafs_fit f trafs (accepted_records f all.0)) later.fit;
      is = ap (λ (l : List ℕ). l ++ flat_map fragment_records fs) (trafs_text f trafs) ∙ ap (λ (l : List ℕ). flat_map record_bytes (records_in f trafs) ++ l) later.is ∙ sym (flat_map-append record_bytes (records_in f trafs) later.records);
    }

pub stream_records : (b : List ℕ) → IsBytes b → AreRecords (reading Records b).effects.text
stream_records b fits =
    let s = stream_fragments b fits in
    subst AreRecords (sym s.is) (fragments_are s.fragments s.accepted)
