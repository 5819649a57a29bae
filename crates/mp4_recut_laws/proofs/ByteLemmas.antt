-- The recut text of bytes is bytes.
use Rattle.std.proofs.Common.{◌≡◌, ℕ, zero, suc, ◌+◌, ◌<◌, ◌≤◌, ◌^◌, Bool, true, false, cond, ltb, List, [], ◌∷◌, ◌++◌, length, length-append, Option, Some, None, sym, arith, subst}
use Rattle.std.specs.Prelude.{drop, ◌-◌}
use Rattle.std.specs.List.{AllByRecursion, flat_map}
use Rattle.std.specs.Int.{byte_at}
use Rattle.std.proofs.Math.Nat.{mod-lt}
use Rattle.byteorder.specs.Endian.{big_bytes}
use Rattle.mp4_box.specs.Headers.{IsBytes, IsWhole}
use Rattle.mp4_box.specs.declared.headers.Header.{Header}
use Rattle.mp4_box.proofs.HeaderLemmas.{IsBytes-drop, IsBytes-take}
use Rattle.mp4_init.specs.declared.table.Track.{Track}
use Rattle.mp4_traf.specs.declared.run.Run.{Run}
use Rattle.mp4_frag.specs.RunLists.{taken_runs}
use Rattle.mp4_traf.specs.Runs.{moof_at}
use Rattle.mp4_pieces.specs.declared.cut.Cut.{Cut}
use Rattle.mp4_pieces.specs.declared.piece.Piece.{Piece}
use Rattle.mp4_pieces.specs.Cutting.{join}
use Rattle.mp4_pieces.specs.Groups.{groups}
use Rattle.mp4_pieces.specs.Pieces.{IsPieceOf, pieces_of}
use Rattle.mp4_traf.specs.Ranges.{IsRunOf}
use Rattle.mp4_pieces.proofs.GroupLemmas.{groups_are}
use Rattle.mp4_cut.specs.Mdat as mdats
use Rattle.mp4_cut.specs.Mdat.{mdat_header}
use Rattle.mp4_cut.specs.Moof.{written_fragment}
use Rattle.mp4_cut.specs.Reads.{FitsFields, FitsTrack}
use Rattle.mp4_cut.specs.Sidx.{earliest, natural, reference_bytes, sidx_payload, written_index}
use Rattle.mp4_cut.proofs.ByteLemmas.{moof_box_bytes}
use Rattle.mp4_cut.specs.Reads.{IsSoundRun}
use Rattle.mp4_cut.proofs.GivenLemmas.{can_be_read}
use Rattle.mp4_pieces.specs.Sizes.{fragment_size}
use Rattle.mp4_grammar.specs.Contexts.{Context, context, first_context}
use Rattle.mp4_grammar.specs.Joined.{AreSound, IsSound, Item, Movie, MovieFragment, OneBox, PassedOver, context_after, bytes_of, fragment_in, joined, tracks_in}
use Rattle.mp4_grammar.specs.Joined as items
use Rattle.mp4_recut.specs.Splitting.{is_dropped, splitting, timescale_of}
use Rattle.mp4_recut.specs.Texts.{box_text, groups_text, item_text, items_text, pieces_text, runs_text}
use Rattle.mp4_recut_laws.specs.Premises.{CanAllBeRecut, CanBeRecut, IsRunIn}
use Rattle.mp4_recut_laws.specs.Streams.{Ending, IsSoundEnding, IsSoundStream, NothingMore, OpenBox, OpenFragment, Stream, ending_context, ending_bytes, ending_text, stream_text}
use Rattle.mp4_recut_laws.proofs.PremiseLemmas.{after_good, all_can_be_recut, bytes_back, bytes_front}
use Rattle.mp4_recut_laws.proofs.FragmentLemmas.{fragment_runs}
use Rattle.mp4_recut_laws.proofs.OpenFragmentLemmas.{open_runs}
use Rattle.mp4_recut_laws.proofs.StreamLemmas.{after_at}
use Rattle.mp4_pieces.proofs.PieceLemmas.{pieces_are_of}

-- ---- bytes

pub bytes_both : (xs ys : List ℕ) → IsBytes xs → IsBytes ys → IsBytes (xs ++ ys)
bytes_both [] ys p q i = q i
bytes_both (x ∷ xs) ys p q zero = p 0
bytes_both (x ∷ xs) ys p q (suc i) = bytes_both xs ys (λ j. p (suc j)) q i

record Are (xs : List ℕ) : Type 0 where
  is : IsBytes xs

join_both : {xs ys : List ℕ} → Are xs → Are ys → Are (xs ++ ys)
join_both {xs = xs} {ys = ys} p q = record { is = bytes_both xs ys p.is q.is }

small_at : (xs : List ℕ) → AllByRecursion (λ (b : ℕ). b < 256) xs → IsBytes xs
small_at [] all i = omega arith
small_at (x ∷ xs) all zero = all.0
small_at (x ∷ xs) all (suc i) = small_at xs all.1 i

of_all : (xs : List ℕ) → AllByRecursion (λ (b : ℕ). b < 256) xs → Are xs
of_all xs all = record { is = small_at xs all }

byte : (k v : ℕ) → byte_at k v < 256
byte zero v = mod-lt v (omega arith)
byte (suc k) v = mod-lt _ (omega arith)

none : Are []
none = of_all [] tt

number : (n v : ℕ) → Are (big_bytes n v)
number zero v = none
number (suc n) v = join_both (of_all (byte_at n v ∷ []) (byte n v, tt)) (number n v)

-- ---- what is written

references : (ps : List Piece) → Are (flat_map reference_bytes ps)
references [] = none
references (p ∷ ps) = join_both (join_both (number 4 (fragment_size p)) (join_both (number 4 p.plain.duration) (number 4 0))) (references ps)

index_by : (t : Bool) (run : Run) (timescale : ℕ) (g : List Piece) → Are (cond t (written_index run timescale g) [])
unfolding written_index
index_by false run timescale g = none
index_by true run timescale g =
    join_both (number 4 (8 + length (sidx_payload run.track timescale g)))
    (join_both (of_all (115 ∷ 105 ∷ 100 ∷ 120 ∷ []) (omega arith, (omega arith, (omega arith, (omega arith, tt)))))
    (join_both (join_both (of_all (1 ∷ []) (omega arith, tt)) (number 3 0)) (join_both (number 4 run.track) (join_both (number 4 timescale)
    (join_both (number 8 (earliest g)) (join_both (number 8 0)
    (join_both (number 2 0) (join_both (number 2 (length g)) (references g)))))))))

mdat_kind : Are mdats.mdat.0
mdat_kind = of_all (109 ∷ 100 ∷ 97 ∷ 116 ∷ []) (omega arith, (omega arith, (omega arith, (omega arith, tt))))

header_by : (t : Bool) (n : ℕ) → Are (cond t (big_bytes 4 (8 + n) ++ mdats.mdat.0) (big_bytes 4 1 ++ (mdats.mdat.0 ++ big_bytes 8 (16 + n))))
header_by true n = join_both (number 4 (8 + n)) mdat_kind
header_by false n = join_both (number 4 1) (join_both mdat_kind (number 8 (16 + n)))

header : (n : ℕ) → Are (mdat_header n)
unfolding mdat_header
header n = header_by (ltb (8 + n) (2 ^ 32)) n

-- ---- runs

all_first : {X : Type 0} (P : X → Type 0) (xs ys : List X) → AllByRecursion P (xs ++ ys) → AllByRecursion P xs
all_first P [] ys all = tt
all_first P (x ∷ xs) ys all = (all.0, all_first P xs ys all.1)

all_last : {X : Type 0} (P : X → Type 0) (xs ys : List X) → AllByRecursion P (xs ++ ys) → AllByRecursion P ys
all_last P [] ys all = all
all_last P (x ∷ xs) ys all = all_last P xs ys all.1

module _ (cut : Cut) (moof_bytes : List ℕ) (start : ℕ) (payload : List ℕ) (fits : IsBytes payload) where
  abbrev Fits : Run → Piece → Type 0
  Fits run p = FitsFields (written_fragment moof_bytes run p)

  pieces_bytes : (run : Run) (number : ℕ) (ps : List Piece) → AllByRecursion (Fits run) ps → Are (pieces_text cut moof_bytes start payload run number ps)
  pieces_bytes run number [] all = none
  pieces_bytes run number (p ∷ ps) all =
      join_both (join_both (record { is = moof_box_bytes (written_fragment moof_bytes run p) number all.0 }) (header p.plain.bytes))
      (join_both (record { is = IsBytes-take p.plain.bytes (drop (natural p.plain.place - start) payload) (IsBytes-drop (natural p.plain.place - start) payload fits) }) (pieces_bytes run (number + 1) ps all.1))

  groups_bytes : (run : Run) (timescale number : ℕ) (gs : List (List Piece)) → AllByRecursion (Fits run) (join gs) → Are (groups_text cut moof_bytes start payload run timescale number gs)
  groups_bytes run timescale number [] all = none
  groups_bytes run timescale number (g ∷ gs) all =
      join_both (index_by cut.index run timescale g)
      (join_both (pieces_bytes run number g (all_first (Fits run) g (join gs) all)) (groups_bytes run timescale (number + length g) gs (all_last (Fits run) g (join gs) all)))

  all_fit : (tracks : List Track) (run : Run) → IsSoundRun tracks moof_bytes run → IsRunOf moof_bytes run → (ps : List Piece) → AllByRecursion (IsPieceOf moof_bytes run) ps → AllByRecursion (Fits run) ps
  all_fit tracks run sound of [] is = tt
  all_fit tracks run sound of (p ∷ ps) is = ((can_be_read tracks moof_bytes run p sound of is.0).fits, all_fit tracks run sound of ps is.1)

  runs_bytes : (tracks of : List Track) (number : ℕ) (runs : List Run) → AllByRecursion (IsRunIn tracks start payload moof_bytes) runs → Are (runs_text cut moof_bytes start payload of number runs)
  runs_bytes tracks of number [] all = none
  runs_bytes tracks of number (run ∷ runs) all =
      let ps = pieces_of cut moof_bytes run in
      let back : join (groups ps) ≡ ps = (groups_are ps).joined in
      join_both (groups_bytes run (timescale_of of run.track) number (groups ps)
      (subst (λ (qs : List Piece). AllByRecursion (Fits run) qs) (sym back) (all_fit tracks run all.0.sound all.0.of ps (pieces_are_of cut moof_bytes run))))
      (runs_bytes tracks of (number + length ps) runs all.1)

-- ---- items

box_bytes_by : (t : Bool) (b : List ℕ) → IsBytes b → Are (box_text t b)
box_bytes_by true b moof_bytes = none
box_bytes_by false b moof_bytes = record { is = moof_bytes }

nothing_known : {X : Type 0} → ◌≡◌ {A = Option (List Track)} None (Some []) → X
nothing_known e = absurd cc

fragment_by : (cut : Cut) (at number : ℕ) (o : Option (List Track)) (moof mdat : OneBox) → IsSound (splitting cut) (context at o number) (MovieFragment moof mdat) → CanBeRecut (context at o number) (MovieFragment moof mdat) → IsBytes mdat.bytes
    → Are (item_text cut (context at o number) (MovieFragment moof mdat))
fragment_by cut at number None moof mdat s fine moof_bytes = nothing_known s.0.known
fragment_by cut at number (Some tracks) moof mdat s fine moof_bytes =
    let f = fragment_in (context at (Some tracks) number) moof mdat in
    let payload = drop mdat.header.header_len mdat.bytes in
    runs_bytes cut moof.bytes f.payload.start payload (IsBytes-drop mdat.header.header_len mdat.bytes moof_bytes) tracks tracks number (taken_runs (moof_at moof.bytes at) tracks) (fragment_runs cut at number tracks moof mdat s fine.0 fine.1 fine.2 fine.3)

item_bytes : (cut : Cut) (c : Context) (i : Item) → IsSound (splitting cut) c i → CanBeRecut c i → IsBytes (bytes_of i) → Are (item_text cut c i)
item_bytes cut c (PassedOver b) s fine moof_bytes = box_bytes_by (is_dropped b.header.kind.0) b.bytes moof_bytes
item_bytes cut c (Movie b) s fine moof_bytes = record { is = moof_bytes }
item_bytes cut c (MovieFragment moof mdat) s fine moof_bytes = fragment_by cut c.at c.number c.tracks moof mdat s fine (bytes_back moof.bytes mdat.bytes moof_bytes)

items_bytes : (cut : Cut) (c : Context) (is : List Item) → AreSound (splitting cut) c is → CanAllBeRecut cut c is → IsBytes (joined is) → Are (items_text cut c is)
items_bytes cut c [] s fine moof_bytes = none
items_bytes cut c (i ∷ is) s fine moof_bytes =
    join_both (item_bytes cut c i s.0 fine.0 (bytes_front (bytes_of i) (joined is) moof_bytes)) (items_bytes cut (context_after (splitting cut) c i) is s.1 fine.1 (bytes_back (bytes_of i) (joined is) moof_bytes))

-- ---- the end

open_by : (cut : Cut) (at number : ℕ) (o : Option (List Track)) (moof : OneBox) (h : Header) (header_bytes more : List ℕ) → IsSoundEnding (splitting cut) (context at o number) (OpenFragment moof h header_bytes more) → IsBytes moof.bytes → IsBytes more → at + length moof.bytes + length more ≤ 2 ^ 62 → number ≤ 2 ^ 32 → AllByRecursion FitsTrack (tracks_in (context at o number))
    → Are (ending_text cut (context at o number) (OpenFragment moof h header_bytes more))
open_by cut at number None moof h header_bytes more s moof_bytes all room low fit = nothing_known s.2.known
open_by cut at number (Some tracks) moof h header_bytes more s moof_bytes all room low fit =
    let f = items.fragment_here (context at (Some tracks) number) moof.bytes h in
    let whole : IsWhole moof.bytes = (moof.header, s.2.one.payload, s.2.one.is) in
    runs_bytes cut moof.bytes f.payload.start more all tracks tracks number (taken_runs (moof_at moof.bytes at) tracks) (open_runs cut at number tracks moof.bytes more h s.1.1 whole moof_bytes room fit low s.3 s.4 s.5)

end_bytes : (cut : Cut) (c : Context) (e : Ending) → IsSoundEnding (splitting cut) c e → IsBytes (ending_bytes e) → c.at + length (ending_bytes e) ≤ 2 ^ 62 → c.number ≤ 2 ^ 32 → AllByRecursion FitsTrack (tracks_in c) → Are (ending_text cut c e)
end_bytes cut c NothingMore s moof_bytes room low fit = none
end_bytes cut c (OpenBox h header_bytes more) s moof_bytes room low fit = box_bytes_by (is_dropped h.kind.0) (header_bytes ++ more) moof_bytes
end_bytes cut c (OpenFragment moof h header_bytes more) s moof_bytes room low fit =
    open_by cut c.at c.number c.tracks moof h header_bytes more s (bytes_front moof.bytes (header_bytes ++ more) moof_bytes) (bytes_back header_bytes more (bytes_back moof.bytes (header_bytes ++ more) moof_bytes)) (omega (arith, room, length-append moof.bytes (header_bytes ++ more), length-append header_bytes more)) low fit

pub text_bytes : (cut : Cut) (s : Stream) → IsSoundStream cut s → IsBytes (stream_text cut s)
text_bytes cut s is =
    let e = ending_bytes s.ending in
    let len = length-append (joined s.items) e in
    let front = bytes_front (joined s.items) e is.bytes in
    let back = bytes_back (joined s.items) e is.bytes in
    let fine = all_can_be_recut cut first_context s.items is.sound front (omega (arith, is.near, len)) (omega arith) tt in
    let good = after_good cut first_context s.items is.sound front (omega (arith, is.near, len)) (omega arith) tt in
    bytes_both _ _ (items_bytes cut first_context s.items is.sound fine front).is
    (end_bytes cut (ending_context cut s) s.ending is.ending back (omega (arith, is.near, len, after_at (splitting cut) first_context s.items)) good.0 good.1).is
