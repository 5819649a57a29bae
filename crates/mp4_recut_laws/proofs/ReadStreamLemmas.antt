-- The output of a stream without a fault is its recut text.
use Rattle.std.proofs.Common.{◌≡◌, ◌∙◌, ℕ, ◌+◌, ◌≤◌, ◌^◌, Bool, true, false, List, [], ◌∷◌, ◌++◌, length, length-append, Option, Some, None, refl, ap, arith}
use Rattle.std.specs.Prelude.{drop}
use Rattle.std.specs.List.{AllByRecursion}
use Rattle.mp4_box.specs.Headers.{Headed, IsBytes, IsWhole}
use Rattle.mp4_box.specs.declared.headers.Header.{Header}
use Rattle.mp4_init.specs.declared.table.Track.{Track}
use Rattle.mp4_init.proofs.MoovLemmas.{first_none}
use Rattle.mp4_frag.specs.Moofs.{moof_runs}
use Rattle.mp4_frag.specs.Places.{place_fault}
use Rattle.mp4_traf.specs.Runs.{moof_at}
use Rattle.mp4_pieces.specs.declared.cut.Cut.{Cut}
use Rattle.mp4_pieces.specs.Rooms.{room_fault}
use Rattle.mp4_cut.specs.Reads.{FitsTrack}
use Rattle.mp4_machine.specs.Readings.{Reading, Sound, Effects, after, empty_reading}
use Rattle.mp4_machine.specs.Readings as readings
use Rattle.mp4_grammar.specs.Contexts.{Context, context, first_context}
use Rattle.mp4_grammar.specs.Items.{reads_in}
use Rattle.mp4_grammar.specs.Joined.{AreSound, IsSound, Item, Movie, MovieFragment, OneBox, PassedOver, context_after, context_after_all, fragment_in, fragment_here, joined, item_effects, items_effects, moof_effects, tracks_in}
use Rattle.mp4_grammar.specs.Meanings.{Fragment, Meaning}
use Rattle.mp4_grammar.specs.Rests.{AfterMoof, Boxed, Open, OpenMedia, ends, media_ends}
use Rattle.mp4_grammar.proofs.JoinLemmas.{reads-items}
use Rattle.mp4_grammar.proofs.RestLemmas.{rest-reads}
use Rattle.mp4_recut.specs.OutputFragments.{Ascends, output_of}
use Rattle.mp4_recut.specs.Splitting.{copied, is_dropped, output_fragments, reading, splitting}
use Rattle.mp4_recut.specs.Texts.{box_text, fragment_text, item_text, items_text}
use Rattle.mp4_recut.proofs.OutputFragmentLemmas.{output_of-slices}
use Rattle.mp4_recut.proofs.TextLemmas.{ahead-text}
use Rattle.mp4_recut_laws.specs.Premises.{CanAllBeRecut, CanBeRecut}
use Rattle.mp4_recut_laws.specs.Streams.{Ending, IsSoundEnding, IsSoundStream, NothingMore, OpenBox, OpenFragment, Stream, ending_context, ending_bytes, ending_text, stream_bytes, stream_text}
use Rattle.mp4_recut_laws.proofs.PremiseLemmas.{after_good, all_can_be_recut, bytes_back, bytes_front}
use Rattle.mp4_recut_laws.proofs.FragmentLemmas.{fragment_runs}
use Rattle.mp4_recut_laws.proofs.ItemLemmas.{same_bytes}
use Rattle.mp4_recut_laws.proofs.OpenFragmentLemmas.{open_runs}
use Rattle.mp4_recut_laws.proofs.AscendLemmas.{fragments_ascend}
use Rattle.mp4_recut_laws.proofs.StreamLemmas.{after_at}

-- ---- how the end of a stream is read, for any operation

abbrev pub ended : Meaning → Context → Ending → Reading
ended meaning c NothingMore = empty_reading
ended meaning c (OpenBox h header_bytes more) = ends (meaning.passed h.kind (header_bytes ++ more)) Sound
ended meaning c (OpenFragment moof h header_bytes more) = after (moof_effects c moof.bytes) (media_ends meaning (fragment_here c moof.bytes h) more Sound)

ending_reads : (meaning : Meaning) (c : Context) (e : Ending) → IsSoundEnding meaning c e → IsBytes (ending_bytes e) → c.at + length (ending_bytes e) ≤ 2 ^ 62 → reads_in meaning c (ending_bytes e) ≡ ended meaning c e
unfolding readings.read_all
ending_reads meaning c NothingMore s moof_bytes room = refl
ending_reads meaning c (OpenBox h header_bytes more) s moof_bytes room =
    let b : Headed (header_bytes ++ more) = record { header = h; header_bytes = header_bytes; more = more; spelled = s.0; cut = refl } in
    rest-reads meaning c (header_bytes ++ more) (ends (meaning.passed h.kind (header_bytes ++ more)) Sound) moof_bytes (Open b s.1 room refl)
ending_reads meaning c (OpenFragment moof h header_bytes more) s moof_bytes room =
    let b : Boxed (moof.bytes ++ (header_bytes ++ more)) = record { box = moof; more = header_bytes ++ more; cut = refl } in
    let z : Headed (header_bytes ++ more) = record { header = h; header_bytes = header_bytes; more = more; spelled = s.0; cut = refl } in
    let r = media_ends meaning (fragment_here c moof.bytes h) more Sound in
    let len = length-append moof.bytes (header_bytes ++ more) in
    rest-reads meaning c (moof.bytes ++ (header_bytes ++ more)) (after (moof_effects c moof.bytes) r) moof_bytes
    (AfterMoof b r s.2 (omega (arith, room, len)) s.3 (OpenMedia z s.1 s.4 (omega (arith, room, len)) s.5 refl) refl)

-- and a stream
pub stream_reads : (meaning : Meaning) (s : Stream) → AreSound meaning first_context s.items → IsSoundEnding meaning (context_after_all meaning first_context s.items) s.ending → IsBytes (ending_bytes s.ending) → length (stream_bytes s) ≤ 2 ^ 62
    → reads_in meaning first_context (stream_bytes s) ≡ after (items_effects meaning first_context s.items) (ended meaning (context_after_all meaning first_context s.items) s.ending)
stream_reads meaning s sound ending moof_bytes near =
    let e = ending_bytes s.ending in
    let c = context_after_all meaning first_context s.items in
    let len = length-append (joined s.items) e in
    reads-items meaning s.items first_context e sound (omega (arith, near, len))
    ∙ ap (after (items_effects meaning first_context s.items)) (ending_reads meaning c s.ending ending moof_bytes (omega (arith, near, len, after_at meaning first_context s.items)))

pub ended_sound : (meaning : Meaning) (c : Context) (e : Ending) → (ended meaning c e).outcome ≡ Sound
ended_sound meaning c NothingMore = refl
ended_sound meaning c (OpenBox h header_bytes more) = refl
ended_sound meaning c (OpenFragment moof h header_bytes more) = refl

-- ---- the text

media_text : (cut : Cut) (f : Fragment) (payload : List ℕ) → Ascends f.payload.start (f.payload.start + length payload) (output_fragments cut f) → (output_of f.payload.start (output_fragments cut f) payload).text ≡ fragment_text cut f payload
media_text cut f payload up = ap (λ (t : Effects). t.text) (output_of-slices f.payload.start payload (output_fragments cut f) up) ∙ ahead-text cut f payload

copied_text : (t : Bool) (b : List ℕ) → (copied t b).text ≡ box_text t b
copied_text true b = refl
copied_text false b = refl

fragment_by : (cut : Cut) (at number : ℕ) (o : Option (List Track)) (moof mdat : OneBox) → IsSound (splitting cut) (context at o number) (MovieFragment moof mdat) → CanBeRecut (context at o number) (MovieFragment moof mdat)
    → (item_effects (splitting cut) (context at o number) (MovieFragment moof mdat)).text ≡ item_text cut (context at o number) (MovieFragment moof mdat)
fragment_by cut at number None moof mdat s fine = nothing_known s.0.known
  where
    nothing_known : {X : Type 0} → ◌≡◌ {A = Option (List Track)} None (Some []) → X
    nothing_known e = absurd cc
fragment_by cut at number (Some tracks) moof mdat s fine =
    let f = fragment_in (context at (Some tracks) number) moof mdat in
    let h = moof_at moof.bytes at in
    let payload = drop mdat.header.header_len mdat.bytes in
    let good = first_none (place_fault f.payload (moof_runs h tracks)) (room_fault cut h (moof_runs h tracks) number) s.3 in
    media_text cut f payload
    (fragments_ascend cut h tracks number f.payload.start payload f.payload fine.0 good.0 (fragment_runs cut at number tracks moof mdat s fine.0 fine.1 fine.2 fine.3))

pub item_reported : (cut : Cut) (c : Context) (i : Item) → IsSound (splitting cut) c i → CanBeRecut c i → (item_effects (splitting cut) c i).text ≡ item_text cut c i
item_reported cut c (PassedOver b) s fine = copied_text (is_dropped b.header.kind.0) b.bytes
item_reported cut c (Movie b) s fine = refl
item_reported cut c (MovieFragment moof mdat) s fine = fragment_by cut c.at c.number c.tracks moof mdat s fine

pub items_reported : (cut : Cut) (c : Context) (is : List Item) → AreSound (splitting cut) c is → CanAllBeRecut cut c is → (items_effects (splitting cut) c is).text ≡ items_text cut c is
items_reported cut c [] s fine = refl
items_reported cut c (i ∷ is) s fine = same_bytes _ _ _ _ (item_reported cut c i s.0 fine.0) (items_reported cut (context_after (splitting cut) c i) is s.1 fine.1)

open_by : (cut : Cut) (at number : ℕ) (o : Option (List Track)) (moof : OneBox) (h : Header) (header_bytes more : List ℕ) → IsSoundEnding (splitting cut) (context at o number) (OpenFragment moof h header_bytes more) → IsBytes moof.bytes → at + length moof.bytes + length more ≤ 2 ^ 62 → number ≤ 2 ^ 32 → AllByRecursion FitsTrack (tracks_in (context at o number))
    → (ended (splitting cut) (context at o number) (OpenFragment moof h header_bytes more)).effects.text ≡ ending_text cut (context at o number) (OpenFragment moof h header_bytes more)
open_by cut at number None moof h header_bytes more s moof_bytes room low fit = nothing_known s.2.known
  where
    nothing_known : {X : Type 0} → ◌≡◌ {A = Option (List Track)} None (Some []) → X
    nothing_known e = absurd cc
open_by cut at number (Some tracks) moof h header_bytes more s moof_bytes room low fit =
    let f = fragment_here (context at (Some tracks) number) moof.bytes h in
    let m = moof_at moof.bytes at in
    let whole : IsWhole moof.bytes = (moof.header, s.2.one.payload, s.2.one.is) in
    let good = first_none (place_fault f.payload (moof_runs m tracks)) (room_fault cut m (moof_runs m tracks) number) s.4 in
    media_text cut f more
    (fragments_ascend cut m tracks number f.payload.start more f.payload moof_bytes good.0 (open_runs cut at number tracks moof.bytes more h s.1.1 whole moof_bytes room fit low s.3 s.4 s.5))

pub ending_reported : (cut : Cut) (c : Context) (e : Ending) → IsSoundEnding (splitting cut) c e → IsBytes (ending_bytes e) → c.at + length (ending_bytes e) ≤ 2 ^ 62 → c.number ≤ 2 ^ 32 → AllByRecursion FitsTrack (tracks_in c) → (ended (splitting cut) c e).effects.text ≡ ending_text cut c e
ending_reported cut c NothingMore s moof_bytes room low fit = refl
ending_reported cut c (OpenBox h header_bytes more) s moof_bytes room low fit = copied_text (is_dropped h.kind.0) (header_bytes ++ more)
ending_reported cut c (OpenFragment moof h header_bytes more) s moof_bytes room low fit =
    open_by cut c.at c.number c.tracks moof h header_bytes more s (bytes_front moof.bytes (header_bytes ++ more) moof_bytes) (omega (arith, room, length-append moof.bytes (header_bytes ++ more), length-append header_bytes more)) low fit

-- ---- streams

pub record IsOutputAs (cut : Cut) (s : Stream) : Type 0 where
  pub text : (reading cut (stream_bytes s)).effects.text ≡ stream_text cut s
  pub sound : (reading cut (stream_bytes s)).outcome ≡ Sound

pub recut_text_of_a_stream : (cut : Cut) (s : Stream) → IsSoundStream cut s → IsOutputAs cut s
recut_text_of_a_stream cut s is =
    let meaning = splitting cut in
    let c = ending_context cut s in
    let e = ending_bytes s.ending in
    let len = length-append (joined s.items) e in
    let front = bytes_front (joined s.items) e is.bytes in
    let back = bytes_back (joined s.items) e is.bytes in
    let fine = all_can_be_recut cut first_context s.items is.sound front (omega (arith, is.near, len)) (omega arith) tt in
    let good = after_good cut first_context s.items is.sound front (omega (arith, is.near, len)) (omega arith) tt in
    let read = stream_reads meaning s is.sound is.ending back is.near in
    record {
      text = ap (λ (r : Reading). r.effects.text) read
          ∙ same_bytes _ _ _ _ (items_reported cut first_context s.items is.sound fine)
          (ending_reported cut c s.ending is.ending back (omega (arith, is.near, len, after_at meaning first_context s.items)) good.0 good.1);
      sound = ap (λ (r : Reading). r.outcome) read ∙ ended_sound meaning c s.ending;
    }
