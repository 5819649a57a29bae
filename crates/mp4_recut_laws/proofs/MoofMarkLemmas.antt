-- The marks of a stream without a fault are where the moofs of its recut text end.
use Rattle.std.proofs.Common.{◌≡◌, ◌∙◌, ℕ, ◌+◌, ◌≤◌, ◌^◌, Bool, true, false, List, [], ◌∷◌, ◌++◌, length, length-append, drop, Option, Some, None, refl, sym, ap, arith}
use Rattle.std.specs.List.{AllByRecursion}
use Rattle.mp4_box.specs.Headers.{IsBytes, IsWhole}
use Rattle.mp4_box.specs.declared.headers.Header.{Header}
use Rattle.mp4_init.specs.declared.table.Track.{Track}
use Rattle.mp4_init.proofs.MoovLemmas.{first_none}
use Rattle.mp4_traf.specs.declared.run.Run.{Run}
use Rattle.mp4_frag.specs.Moofs.{moof_runs}
use Rattle.mp4_frag.specs.Places.{place_fault}
use Rattle.mp4_traf.specs.Runs.{moof_at}
use Rattle.mp4_pieces.specs.declared.cut.Cut.{Cut}
use Rattle.mp4_pieces.specs.declared.piece.Piece.{Piece}
use Rattle.mp4_pieces.specs.Pieces.{pieces_of}
use Rattle.mp4_pieces.specs.Rooms.{room_fault}
use Rattle.mp4_cut.specs.Reads.{FitsTrack}
use Rattle.mp4_machine.specs.Readings.{Reading, Effects, both, moved, whole_in}
use Rattle.mp4_machine.specs.declared.fragment_end.FragmentEnd.{FragmentEnd}
use Rattle.mp4_machine.proofs.BodyLemmas.{nat_lt_false}
use Rattle.mp4_grammar.specs.Contexts.{Context, context, first_context}
use Rattle.mp4_grammar.specs.Joined.{AreSound, IsSound, Item, Movie, MovieFragment, OneBox, PassedOver, context_after, context_after_all, fragment_in, fragment_here, joined, item_effects, items_effects, tracks_in}
use Rattle.mp4_grammar.specs.Meanings.{Fragment, runs_in}
use Rattle.mp4_recut.specs.OutputFragments.{Ascends, output_of}
use Rattle.mp4_recut.specs.Splitting.{copied, is_dropped, output_fragments, reading, splitting}
use Rattle.mp4_recut.specs.Texts.{media_of}
use Rattle.mp4_recut.proofs.OutputFragmentLemmas.{output_of-slices}
use Rattle.mp4_recut.proofs.RoomLemmas.{runs_length}
use Rattle.mp4_recut_laws.specs.MoofEnds.{moof_ends}
use Rattle.mp4_recut_laws.specs.Premises.{CanAllBeRecut, CanBeRecut, IsRunIn}
use Rattle.mp4_recut_laws.specs.RecutItems.{fragment_items, item_recut, items_recut, copied_items}
use Rattle.mp4_recut_laws.specs.Streams.{Ending, IsSoundEnding, IsSoundStream, NothingMore, OpenBox, OpenFragment, Stream, ending_bytes, ending_context, ending_items, recut, stream_bytes, stream_text}
use Rattle.mp4_recut_laws.proofs.AscendLemmas.{fragments_ascend}
use Rattle.mp4_recut_laws.proofs.FragmentLemmas.{fragment_runs}
use Rattle.mp4_recut_laws.proofs.ItemLemmas.{items_joined, one_item}
use Rattle.mp4_recut_laws.proofs.MoofEndLemmas.{ends-after, ends-append, ends_at, ends_from, length-marks, length-moved, moved-none, runs-ends, same-lists}
use Rattle.mp4_recut_laws.proofs.OpenFragmentLemmas.{open_runs}
use Rattle.mp4_recut_laws.proofs.PremiseLemmas.{after_good, all_can_be_recut, bytes_back, bytes_front}
use Rattle.mp4_recut_laws.proofs.ReadStreamLemmas.{ended, item_reported, items_reported, stream_reads}
use Rattle.mp4_recut_laws.proofs.StreamLemmas.{after_at, laws}
use Rattle.mp4_recut_laws.proofs.TextLemmas.{long_run}

-- the effects have just these marks, and count as many fragments
record HasMarks (t : Effects) (fragment_ends : List FragmentEnd) : Type 0 where
  is : t.fragment_ends ≡ fragment_ends
  counted : t.tally.fragments ≡ length fragment_ends

-- ---- a fragment

all-long : (cut : Cut) (moof_bytes : List ℕ) (start : ℕ) (payload : List ℕ) (tracks : List Track) (runs : List Run) → AllByRecursion (IsRunIn tracks start payload moof_bytes) runs
    → AllByRecursion (λ (run : Run). AllByRecursion (λ (p : Piece). length (media_of start payload p) ≡ p.plain.bytes) (pieces_of cut moof_bytes run)) runs
all-long cut moof_bytes start payload tracks [] all = tt
all-long cut moof_bytes start payload tracks (run ∷ runs) all = (long_run cut moof_bytes start payload tracks run all.0, all-long cut moof_bytes start payload tracks runs all.1)

media-marks : (cut : Cut) (f : Fragment) (payload : List ℕ) → Ascends f.payload.start (f.payload.start + length payload) (output_fragments cut f) → AllByRecursion (IsRunIn f.tracks f.payload.start payload f.moof.bytes) (runs_in f)
    → HasMarks (output_of f.payload.start (output_fragments cut f) payload) (moof_ends 0 f.number (fragment_items cut f payload))
media-marks cut f payload up given =
    let ahead = output_fragments cut f in
    let all = output_of-slices f.payload.start payload ahead up in
    let ends = runs-ends cut f.moof.bytes f.payload.start payload f.tracks f.number (runs_in f) (all-long cut f.moof.bytes f.payload.start payload f.tracks (runs_in f) given) in
    record {
      is = ap (λ (t : Effects). t.fragment_ends) all ∙ ends;
      counted = ap (λ (t : Effects). t.tally.fragments) all ∙ sym (length-marks cut f.moof.bytes f.payload.start payload ahead) ∙ ap length ends;
    }

-- the same after what is requested and counted before
after-moof : (t : Effects) (fragment_ends : List FragmentEnd) (k : ℕ) → HasMarks t fragment_ends → k ≡ t.tally.fragments → (moved 0 (moved 0 t.fragment_ends) ≡ fragment_ends) × (k ≡ length fragment_ends)
after-moof t fragment_ends k h e = (moved-none (moved 0 t.fragment_ends) ∙ moved-none t.fragment_ends ∙ h.is, e ∙ h.counted)

-- ---- items

copied-marks : (t : Bool) (b : List ℕ) → HasMarks (copied t b) []
copied-marks true b = record { is = refl; counted = refl }
copied-marks false b = record { is = refl; counted = refl }

kept-none : (n : ℕ) (t : Bool) (b : OneBox) → moof_ends 0 n (copied_items t b) ≡ []
kept-none n true b = refl
kept-none n false b = refl

nothing_known : {X : Type 0} → ◌≡◌ {A = Option (List Track)} None (Some []) → X
nothing_known e = absurd cc

fragment-marks : (cut : Cut) (at number : ℕ) (o : Option (List Track)) (moof mdat : OneBox) → IsSound (splitting cut) (context at o number) (MovieFragment moof mdat) → CanBeRecut (context at o number) (MovieFragment moof mdat)
    → HasMarks (item_effects (splitting cut) (context at o number) (MovieFragment moof mdat)) (moof_ends 0 number (item_recut cut (context at o number) (MovieFragment moof mdat)))
fragment-marks cut at number None moof mdat s fine = nothing_known s.0.known
fragment-marks cut at number (Some tracks) moof mdat s fine =
    let f = fragment_in (context at (Some tracks) number) moof mdat in
    let h = moof_at moof.bytes at in
    let payload = drop mdat.header.header_len mdat.bytes in
    let good = first_none (place_fault f.payload (moof_runs h tracks)) (room_fault cut h (moof_runs h tracks) number) s.3 in
    let given = fragment_runs cut at number tracks moof mdat s fine.0 fine.1 fine.2 fine.3 in
    let media = media-marks cut f payload (fragments_ascend cut h tracks number f.payload.start payload f.payload fine.0 good.0 given) given in
    let effects = output_of f.payload.start (output_fragments cut f) payload in
    let both = after-moof effects _ (0 + (0 + 0) + (0 + effects.tally.fragments)) media (omega arith) in
    record { is = both.0; counted = both.1 }

item-marks : (cut : Cut) (c : Context) (i : Item) → IsSound (splitting cut) c i → CanBeRecut c i → HasMarks (item_effects (splitting cut) c i) (moof_ends 0 c.number (item_recut cut c i))
item-marks cut c (PassedOver b) s fine =
    let t = is_dropped b.header.kind.0 in
    let copy = copied-marks t b.bytes in
    record { is = copy.is ∙ sym (kept-none c.number t b); counted = copy.counted ∙ ap length (sym (kept-none c.number t b)) }
item-marks cut c (Movie b) s fine = record { is = refl; counted = refl }
item-marks cut c (MovieFragment moof mdat) s fine = fragment-marks cut c.at c.number c.tracks moof mdat s fine

-- how many numbers an item takes
fragment-number : (cut : Cut) (at number : ℕ) (o : Option (List Track)) (moof mdat : OneBox) → IsSound (splitting cut) (context at o number) (MovieFragment moof mdat) → CanBeRecut (context at o number) (MovieFragment moof mdat)
    → (context_after (splitting cut) (context at o number) (MovieFragment moof mdat)).number ≡ number + length (moof_ends 0 number (item_recut cut (context at o number) (MovieFragment moof mdat)))
fragment-number cut at number None moof mdat s fine = nothing_known s.0.known
fragment-number cut at number (Some tracks) moof mdat s fine =
    let f = fragment_in (context at (Some tracks) number) moof mdat in
    let payload = drop mdat.header.header_len mdat.bytes in
    let given = fragment_runs cut at number tracks moof mdat s fine.0 fine.1 fine.2 fine.3 in
    let ends = runs-ends cut f.moof.bytes f.payload.start payload tracks number (runs_in f) (all-long cut f.moof.bytes f.payload.start payload tracks (runs_in f) given) in
    omega (arith, runs_length cut f.moof.bytes tracks number (runs_in f), length-marks cut f.moof.bytes f.payload.start payload (output_fragments cut f), ap length ends)

item-number : (cut : Cut) (c : Context) (i : Item) → IsSound (splitting cut) c i → CanBeRecut c i → (context_after (splitting cut) c i).number ≡ c.number + length (moof_ends 0 c.number (item_recut cut c i))
item-number cut c (PassedOver b) s fine = omega (arith, ap length (kept-none c.number (is_dropped b.header.kind.0) b))
item-number cut c (Movie b) s fine = omega arith
item-number cut c (MovieFragment moof mdat) s fine = fragment-number cut c.at c.number c.tracks moof mdat s fine

-- the effects of items, one after the other
both-marks : (s t : Effects) (n k : ℕ) (xs ys : List Item) → HasMarks s (moof_ends 0 n xs) → HasMarks t (moof_ends 0 k ys) → length s.text ≡ length (joined xs) → k ≡ n + length (moof_ends 0 n xs)
    → HasMarks (both s t) (moof_ends 0 n (xs ++ ys))
both-marks s t n k xs ys p q len next =
    let a = length s.text in
    let ends =
    same-lists _ _ _ _ p.is
    (ap (moved a) q.is ∙ sym (ends-after a k ys) ∙ ends_at a (0 + length (joined xs)) k ys (omega (arith, len)) ∙ ends_from (0 + length (joined xs)) k (n + length (moof_ends 0 n xs)) ys next)
    ∙ sym (ends-append 0 n xs ys) in
    record {
      is = ends;
      counted = omega (arith, p.counted, q.counted, ap length p.is, ap length q.is, length-append s.fragment_ends (moved a t.fragment_ends), length-moved a t.fragment_ends, ap length ends);
    }

items-marks : (cut : Cut) (c : Context) (is : List Item) → AreSound (splitting cut) c is → CanAllBeRecut cut c is → HasMarks (items_effects (splitting cut) c is) (moof_ends 0 c.number (items_recut cut c is))
items-marks cut c [] s fine = record { is = refl; counted = refl }
items-marks cut c (i ∷ is) s fine =
    let next = context_after (splitting cut) c i in
    both-marks (item_effects (splitting cut) c i) (items_effects (splitting cut) next is) c.number next.number (item_recut cut c i) (items_recut cut next is)
    (item-marks cut c i s.0 fine.0) (items-marks cut next is s.1 fine.1)
    (ap length (item_reported cut c i s.0 fine.0 ∙ sym (one_item cut c c i (record { number = refl; tracks = refl }) s.0 fine.0).join))
    (item-number cut c i s.0 fine.0)

items-number : (cut : Cut) (c : Context) (is : List Item) → AreSound (splitting cut) c is → CanAllBeRecut cut c is → (context_after_all (splitting cut) c is).number ≡ c.number + length (moof_ends 0 c.number (items_recut cut c is))
items-number cut c [] s fine = omega arith
items-number cut c (i ∷ is) s fine =
    let next = context_after (splitting cut) c i in
    let xs = item_recut cut c i in
    let ys = items_recut cut next is in
    let here = item-number cut c i s.0 fine.0 in
    let k = length (moof_ends 0 c.number xs) in
    let at = 0 + length (joined xs) in
    let later = ends-after at (c.number + k) ys ∙ ap (moved at) (ends_from 0 (c.number + k) next.number ys (sym here)) in
    omega (arith, items-number cut next is s.1 fine.1, here, ap length (ends-append 0 c.number xs ys), length-append (moof_ends 0 c.number xs) (moof_ends at (c.number + k) ys), ap length later, length-moved at (moof_ends 0 next.number ys))

-- ---- the ending

open-marks : (cut : Cut) (at number : ℕ) (o : Option (List Track)) (moof : OneBox) (h : Header) (header_bytes more : List ℕ) → IsSoundEnding (splitting cut) (context at o number) (OpenFragment moof h header_bytes more) → IsBytes moof.bytes → at + length moof.bytes + length more ≤ 2 ^ 62 → number ≤ 2 ^ 32 → AllByRecursion FitsTrack (tracks_in (context at o number))
    → HasMarks (ended (splitting cut) (context at o number) (OpenFragment moof h header_bytes more)).effects (moof_ends 0 number (ending_items cut (context at o number) (OpenFragment moof h header_bytes more)))
open-marks cut at number None moof h header_bytes more s moof_bytes room low fit = nothing_known s.2.known
open-marks cut at number (Some tracks) moof h header_bytes more s moof_bytes room low fit =
    let f = fragment_here (context at (Some tracks) number) moof.bytes h in
    let m = moof_at moof.bytes at in
    let whole : IsWhole moof.bytes = (moof.header, s.2.one.payload, s.2.one.is) in
    let good = first_none (place_fault f.payload (moof_runs m tracks)) (room_fault cut m (moof_runs m tracks) number) s.4 in
    let given = open_runs cut at number tracks moof.bytes more h s.1.1 whole moof_bytes room fit low s.3 s.4 s.5 in
    let media = media-marks cut f more (fragments_ascend cut m tracks number f.payload.start more f.payload moof_bytes good.0 given) given in
    let effects = output_of f.payload.start (output_fragments cut f) more in
    let both = after-moof effects _ (0 + (0 + 0) + (0 + effects.tally.fragments)) media (omega arith) in
    record { is = both.0; counted = both.1 }

ending-marks : (cut : Cut) (c : Context) (e : Ending) → IsSoundEnding (splitting cut) c e → IsBytes (ending_bytes e) → c.at + length (ending_bytes e) ≤ 2 ^ 62 → c.number ≤ 2 ^ 32 → AllByRecursion FitsTrack (tracks_in c) → HasMarks (ended (splitting cut) c e).effects (moof_ends 0 c.number (ending_items cut c e))
ending-marks cut c NothingMore s moof_bytes room low fit = record { is = refl; counted = refl }
ending-marks cut c (OpenBox h header_bytes more) s moof_bytes room low fit = copied-marks (is_dropped h.kind.0) (header_bytes ++ more)
ending-marks cut c (OpenFragment moof h header_bytes more) s moof_bytes room low fit =
    open-marks cut c.at c.number c.tracks moof h header_bytes more s (bytes_front moof.bytes (header_bytes ++ more) moof_bytes) (omega (arith, room, length-append moof.bytes (header_bytes ++ more), length-append header_bytes more)) low fit

-- ---- streams

-- all that end in a text are whole in it
whole-ends : (is : List Item) (at before k : ℕ) → whole_in (at + length (joined is) + k) before (moof_ends at (before + 1) is) ≡ before + length (moof_ends at (before + 1) is)
whole-ends [] at before k = omega arith
whole-ends (PassedOver b ∷ is) at before k =
    let e : at + length (joined (PassedOver b ∷ is)) + k ≡ at + length b.bytes + length (joined is) + k = omega (arith, length-append b.bytes (joined is)) in
    ap (λ (n : ℕ). whole_in n before (moof_ends (at + length b.bytes) (before + 1) is)) e ∙ whole-ends is (at + length b.bytes) before k
whole-ends (Movie b ∷ is) at before k =
    let e : at + length (joined (Movie b ∷ is)) + k ≡ at + length b.bytes + length (joined is) + k = omega (arith, length-append b.bytes (joined is)) in
    ap (λ (n : ℕ). whole_in n before (moof_ends (at + length b.bytes) (before + 1) is)) e ∙ whole-ends is (at + length b.bytes) before k
whole-ends (MovieFragment moof mdat ∷ is) at before k =
    let at' = at + length moof.bytes + length mdat.bytes in
    let n = at + length (joined (MovieFragment moof mdat ∷ is)) + k in
    let e : n ≡ at' + length (joined is) + k = omega (arith, length-append (moof.bytes ++ mdat.bytes) (joined is), length-append moof.bytes mdat.bytes) in
    rw (nat_lt_false n (at + length moof.bytes) (omega (arith, e)), whole_in)
    (ap (λ (m : ℕ). whole_in m (before + 1) (moof_ends at' (before + 1 + 1) is)) e ∙ whole-ends is at' (before + 1) k ∙ omega arith)

pub record MarksMoofs (cut : Cut) (s : Stream) : Type 0 where
  pub fragment_ends : (reading cut (stream_bytes s)).effects.fragment_ends ≡ moof_ends 0 1 (recut cut s).items
  pub counted : (reading cut (stream_bytes s)).effects.tally.fragments ≡ length (moof_ends 0 1 (recut cut s).items)
  pub whole : (n : ℕ) → whole_in (length (stream_text cut s) + n) 0 (reading cut (stream_bytes s)).effects.fragment_ends ≡ length (moof_ends 0 1 (recut cut s).items)

pub moofs_are_marked : (cut : Cut) (s : Stream) → IsSoundStream cut s → MarksMoofs cut s
moofs_are_marked cut s is =
    let meaning = splitting cut in
    let c = ending_context cut s in
    let e = ending_bytes s.ending in
    let len = length-append (joined s.items) e in
    let front = bytes_front (joined s.items) e is.bytes in
    let back = bytes_back (joined s.items) e is.bytes in
    let fine = all_can_be_recut cut first_context s.items is.sound front (omega (arith, is.near, len)) (omega arith) tt in
    let good = after_good cut first_context s.items is.sound front (omega (arith, is.near, len)) (omega arith) tt in
    let read = stream_reads meaning s is.sound is.ending back is.near in
    let all =
    both-marks (items_effects meaning first_context s.items) (ended meaning c s.ending).effects 1 c.number (items_recut cut first_context s.items) (ending_items cut c s.ending)
    (items-marks cut first_context s.items is.sound fine)
    (ending-marks cut c s.ending is.ending back (omega (arith, is.near, len, after_at meaning first_context s.items)) good.0 good.1)
    (ap length (items_reported cut first_context s.items is.sound fine ∙ sym (items_joined cut first_context s.items is.sound fine)))
    (items-number cut first_context s.items is.sound fine) in
    let fragment_ends = ap (λ (r : Reading). r.effects.fragment_ends) read ∙ all.is in
    let items = (recut cut s).items in
    let rest = ending_bytes (recut cut s).ending in
    record {
      fragment_ends = fragment_ends;
      whole = λ n.
          let k : length (stream_text cut s) + n ≡ 0 + length (joined items) + (length rest + n) = omega (arith, ap length (laws cut s is).join, length-append (joined items) rest) in
          ap (λ (m : ℕ). whole_in m 0 (reading cut (stream_bytes s)).effects.fragment_ends) k
          ∙ ap (whole_in (0 + length (joined items) + (length rest + n)) 0) fragment_ends
          ∙ whole-ends items 0 0 (length rest + n) ∙ omega arith;
      counted = ap (λ (r : Reading). r.effects.tally.fragments) read ∙ all.counted;
    }
