-- Each sidx of a recut text, as it is read, is true of the items directly after it.
use Rattle.std.proofs.Common.{◌≡◌, ◌∙◌, ℕ, ◌+◌, ◌<◌, ◌≤◌, ◌^◌, Bool, true, false, List, [], ◌∷◌, ◌++◌, length, length-append, append-nil, append_assoc, Option, Some, None, inl, inr, refl, sym, ap, arith, subst, map}
use Rattle.std.specs.Prelude.{codes, drop, option_map}
use Rattle.std.specs.List.{AllByRecursion, sum_by}
use Rattle.std.proofs.lemmas.Bool.{false≢true}
use Rattle.std.proofs.lemmas.List.{length-drop}
use Rattle.mp4_box.specs.Headers.{IsBytes, IsWhole}
use Rattle.mp4_box.specs.declared.headers.Header.{Header}
use Rattle.mp4_init.specs.declared.table.Track.{Track}
use Rattle.mp4_init.proofs.MoovLemmas.{first_none}
use Rattle.mp4_traf.specs.CompositionTimes.{least_of}
use Rattle.mp4_traf.specs.declared.run.Run.{Run}
use Rattle.mp4_traf.specs.declared.rows.Row.{Row}
use Rattle.mp4_frag.specs.Moofs.{moof_runs, moof_trafs}
use Rattle.mp4_frag.specs.Places.{place_fault}
use Rattle.mp4_frag.specs.RunLists.{taken_runs}
use Rattle.mp4_traf.specs.Rules.{track_with}
use Rattle.mp4_traf.specs.Runs.{moof_at}
use Rattle.mp4_pieces.specs.declared.cut.Cut.{Cut}
use Rattle.mp4_pieces.specs.declared.piece.Piece.{Piece}
use Rattle.mp4_pieces.specs.Cutting.{join}
use Rattle.mp4_pieces.specs.Fits.{FitsIndex}
use Rattle.mp4_pieces.specs.Groups.{groups}
use Rattle.mp4_pieces.specs.Pieces.{pieces_of}
use Rattle.mp4_pieces.specs.Rooms.{room_fault}
use Rattle.mp4_pieces.proofs.GroupLemmas.{groups_are}
use Rattle.mp4_cut.specs.Reads.{FitsTrack}
use Rattle.mp4_grammar.specs.Contexts.{Context, context, first_context}
use Rattle.mp4_grammar.specs.Joined.{AreSound, IsSound, Item, Movie, MovieFragment, OneBox, PassedOver, context_after, context_after_all, bytes_of, fragment_in, fragment_here, joined, listed, tracks_in}
use Rattle.mp4_recut.specs.Splitting as splits
use Rattle.mp4_recut.specs.Splitting.{is_dropped, scale_of, splitting, timescale_of}
use Rattle.mp4_recut_laws.specs.PieceItems.{IsOnePiece, PieceWithMedia, piece_item, piece_samples, piece_with_media, pieces_items, without_end, without_ends}
use Rattle.mp4_recut_laws.specs.Premises.{CanAllBeRecut, CanBeRecut, IsRunIn}
use Rattle.mp4_recut_laws.specs.RecutItems.{groups_items, index_as_box, index_items, item_recut, items_recut, copied_items, runs_items, without_index}
use Rattle.mp4_cut.specs.Indexes.{Reference, index_in}
use Rattle.mp4_recut_laws.specs.Indexes.{GroupsAreIndexed, IsIndexOf, references_of}
use Rattle.mp4_recut_laws.specs.MediaSamples.{MediaSample, item_samples, media_samples_from}
use Rattle.mp4_recut_laws.specs.Streams.{Ending, IsSoundEnding, IsSoundStream, NothingMore, OpenBox, OpenFragment, Stream, ending_context, ending_bytes, ending_items, recut}
use Rattle.mp4_recut_laws.specs.IndexTruth.{IndexesAreTrue, IndexIsTrue, first_references, samples_of_first}
use Rattle.mp4_recut_laws.proofs.CutLemmas.{run_pieces}
use Rattle.mp4_recut_laws.proofs.PremiseLemmas.{after_good, all_can_be_recut, bytes_back, bytes_front}
use Rattle.mp4_recut_laws.proofs.FragmentLemmas.{fragment_runs}
use Rattle.mp4_recut_laws.proofs.IndexLemmas.{run_indexed, scale_small}
use Rattle.mp4_recut_laws.proofs.ItemLemmas.{some_same}
use Rattle.mp4_recut_laws.proofs.PieceListLemmas.{still}
use Rattle.mp4_recut_laws.proofs.OnePieceLemmas.{one_samples}
use Rattle.mp4_recut_laws.proofs.OpenFragmentLemmas.{open_runs}
use Rattle.mp4_recut_laws.proofs.RunLemmas.{none_of}
use Rattle.mp4_recut_laws.proofs.StreamLemmas.{after_at}
use Rattle.mp4_recut_laws.proofs.TrackLemmas.{ends_settled, track_ends}
use Rattle.mp4_recut_laws.proofs.WrittenIndexLemmas.{AreScaled, all_index, item_scaled, items_indexed}

-- ---- what doesn't depend on where tracks ended

scale_ends : (o : Option Track) → scale_of (option_map without_end o) ≡ scale_of o
scale_ends None = refl
scale_ends (Some t) = refl

same_scale : (ts us : List Track) (id : ℕ) → without_ends us ≡ without_ends ts → timescale_of ts id ≡ timescale_of us id
same_scale ts us id e =
    sym (scale_ends (track_with id ts)) ∙ ap scale_of (track_ends id ts) ∙ ap (λ (x : List Track). scale_of (track_with id x)) (sym e) ∙ sym (ap scale_of (track_ends id us)) ∙ scale_ends (track_with id us)

sample_track : (track entry : ℕ) (rows : List Row) (time : ℕ) (media : List ℕ) → AllByRecursion (λ (s : MediaSample). s.track ≡ track) (media_samples_from track entry rows time media)
sample_track track entry [] time media = tt
sample_track track entry (row ∷ rows) time media = (refl, sample_track track entry rows (time + row.duration) (drop row.size media))

length_references : (number : ℕ) (qs : List PieceWithMedia) → length (references_of number qs) ≡ length qs
length_references number [] = refl
length_references number (q ∷ qs) = omega (arith, length_references (number + 1) qs)

all_first : {X : Type 0} (P : X → Type 0) (xs ys : List X) → AllByRecursion P (xs ++ ys) → AllByRecursion P xs
all_first P [] ys all = tt
all_first P (x ∷ xs) ys all = (all.0, all_first P xs ys all.1)

all_last : {X : Type 0} (P : X → Type 0) (xs ys : List X) → AllByRecursion P (xs ++ ys) → AllByRecursion P ys
all_last P [] ys all = all
all_last P (x ∷ xs) ys all = all_last P xs ys all.1

map_both : {X Y : Type 0} (f : X → Y) (xs ys : List X) → map f (xs ++ ys) ≡ map f xs ++ map f ys
map_both f [] ys = refl
map_both f (x ∷ xs) ys = ap (λ (zs : List _). f x ∷ zs) (map_both f xs ys)

module _ (cut : Cut) (tracks : List Track) where
  abbrev IsPieceHere : PieceWithMedia → Type 0
  IsPieceHere q = IsOnePiece (without_index cut) tracks q.written q.media

  -- after all tracks that differ only in their ends
  abbrev TrueAnywhere : List Item → Type 0
  TrueAnywhere is = (at n : ℕ) (us : List Track) → without_ends us ≡ without_ends tracks → IndexesAreTrue cut (context at (Some us) n) is

  -- ---- fragments of one piece each

  one_samples_here : (at n number : ℕ) (us : List Track) (q : PieceWithMedia) → without_ends us ≡ without_ends tracks → IsPieceHere q → item_samples (context at (Some us) n) (piece_item q.written number q.media) ≡ piece_samples q
  one_samples_here at n number us q e ok = one_samples (without_index cut) at number us q.written q.media (still (without_index cut) tracks us e (q ∷ []) (ok, tt)).0

  pieces_true : (number : ℕ) (qs : List PieceWithMedia) (more : List Item) → TrueAnywhere more → TrueAnywhere (pieces_items number qs ++ more)
  pieces_true number [] more any at n us e = any at n us e
  pieces_true number (q ∷ qs) more any at n us e =
      let fs = moof_trafs (moof_at (Rattle.mp4_cut.specs.Moof.moof_box q.written number) at) us in
      (tt, pieces_true (number + 1) qs more any _ _ _ (ends_settled us fs ∙ e))

  pieces_references : (number : ℕ) (qs : List PieceWithMedia) (more : List Item) (at n : ℕ) (us : List Track) → without_ends us ≡ without_ends tracks → AllByRecursion IsPieceHere qs → first_references cut (context at (Some us) n) (length qs) (pieces_items number qs ++ more) ≡ references_of number qs
  pieces_references number [] more at n us e all = refl
  pieces_references number (q ∷ qs) more at n us e all =
      let fs = moof_trafs (moof_at (Rattle.mp4_cut.specs.Moof.moof_box q.written number) at) us in
      let i = piece_item q.written number q.media in
      let rest = pieces_references (number + 1) qs more _ _ _ (ends_settled us fs ∙ e) all.1 in
      ap (λ (ss : List MediaSample). record { size = length (bytes_of i); duration = sum_by (λ (s : MediaSample). s.duration) ss; access = 0 } ∷ first_references cut (context_after (splitting cut) (context at (Some us) n) i) (length qs) (pieces_items (number + 1) qs ++ more)) (one_samples_here at n number us q e all.0)
      ∙ ap (λ (rs : List Reference). record { size = length (bytes_of i); duration = sum_by (λ (s : MediaSample). s.duration) (piece_samples q); access = 0 } ∷ rs) rest

  -- ---- an index

  index_true_here : (at n number : ℕ) (us : List Track) (run : Run) (p : List ℕ) (q : PieceWithMedia) (qs : List PieceWithMedia) (more : List Item) → without_ends us ≡ without_ends tracks → AllByRecursion IsPieceHere (q ∷ qs) → q.written.track ≡ run.track → IsIndexOf run.track (timescale_of tracks run.track) number p (q ∷ qs)
      → IndexIsTrue cut (context at (Some us) n) (index_in p) (pieces_items number (q ∷ qs) ++ more)
  index_true_here at n number us run p q qs more e all own_recut t =
      let c = context at (Some us) n in
      let is = pieces_items number (q ∷ qs) ++ more in
      let x = index_in p in
      let count : length x.references ≡ length (q ∷ qs) = ap length t.references ∙ length_references number (q ∷ qs) in
      let first : samples_of_first c is ≡ piece_samples q = one_samples_here at n number us q e all.0 in
      record {
        version = t.version;
        flags = t.flags;
        some = omega (arith, count);
        of = subst (λ (ss : List MediaSample). AllByRecursion (λ (s : MediaSample). s.track ≡ x.track) ss) (sym first)
            (subst (λ (id : ℕ). AllByRecursion (λ (s : MediaSample). s.track ≡ id) (piece_samples q)) (own_recut ∙ sym t.track) (sample_track q.written.track q.written.entry q.written.rows q.written.time q.media));
        timescale = t.timescale ∙ same_scale tracks us run.track e ∙ ap (timescale_of us) (sym t.track);
        earliest = t.earliest ∙ ap (λ (ss : List MediaSample). least_of (map (λ (s : MediaSample). s.composition) ss)) (sym first);
        offset = t.offset;
        reserved = t.reserved;
        references = t.references ∙ sym (pieces_references number (q ∷ qs) more at n us e all) ∙ ap (λ (k : ℕ). first_references cut c k is) (sym count);
        media = subst (λ (rs : List Reference). AllByRecursion (λ (r : Reference). r.size < 2 ^ 31) rs) (sym t.references) t.media;
      }

  module _ (moof_bytes : List ℕ) (start : ℕ) (payload : List ℕ) where
    abbrev media_pieces : Run → List Piece → List PieceWithMedia
    media_pieces run ps = map (piece_with_media moof_bytes start payload run) ps

    group_true_here : (t : Bool) (run : Run) (number : ℕ) (g : List Piece) (more : List Item) → 0 < length g → AllByRecursion IsPieceHere (media_pieces run g) → IsIndexOf run.track (timescale_of tracks run.track) number (drop 8 (index_as_box run (timescale_of tracks run.track) g).bytes) (media_pieces run g) → TrueAnywhere more
        → TrueAnywhere (index_items t run (timescale_of tracks run.track) g ++ (pieces_items number (media_pieces run g) ++ more))
    group_true_here false run number g more some all true_of any at n us e = pieces_true number (media_pieces run g) more any at n us e
    group_true_here true run number [] more some all true_of any at n us e = absurd (omega (arith, some))
    group_true_here true run number (p ∷ g) more some all true_of any at n us e = (
      λ kind. index_true_here _ n number us run _ (piece_with_media moof_bytes start payload run p) (media_pieces run g) more e all refl true_of,
      pieces_true number (media_pieces run (p ∷ g)) more any _ n us e,
    )

    groups_true_here : (run : Run) (number : ℕ) (gs : List (List Piece)) (more : List Item) → AllByRecursion (λ (g : List Piece). 0 < length g) gs → AllByRecursion IsPieceHere (media_pieces run (join gs)) → GroupsAreIndexed cut moof_bytes start payload run (timescale_of tracks run.track) number gs → TrueAnywhere more
        → TrueAnywhere (groups_items cut moof_bytes start payload run (timescale_of tracks run.track) number gs ++ more)
    groups_true_here run number [] more some all true_of any = any
    groups_true_here run number (g ∷ gs) more some all true_of any =
        let both = map_both (piece_with_media moof_bytes start payload run) g (join gs) in
        let ok = subst (λ (qs : List PieceWithMedia). AllByRecursion IsPieceHere qs) both all in
        let xs = index_items cut.index run (timescale_of tracks run.track) g in
        let ys = pieces_items number (media_pieces run g) in
        let zs = groups_items cut moof_bytes start payload run (timescale_of tracks run.track) (number + length g) gs in
        subst TrueAnywhere (sym (append_assoc xs (ys ++ zs) more ∙ ap (λ (is : List Item). xs ++ is) (append_assoc ys zs more)))
        (group_true_here cut.index run number g (zs ++ more) some.0 (all_first IsPieceHere (media_pieces run g) (media_pieces run (join gs)) ok) true_of.0
        (groups_true_here run (number + length g) gs more some.1 (all_last IsPieceHere (media_pieces run g) (media_pieces run (join gs)) ok) true_of.1 any))

    run_true_here : (run : Run) (number : ℕ) (more : List Item) → length payload ≤ 2 ^ 62 → AreScaled tracks → IsRunIn tracks start payload moof_bytes run → FitsIndex (pieces_of cut moof_bytes run) → TrueAnywhere more → TrueAnywhere (groups_items cut moof_bytes start payload run (timescale_of tracks run.track) number (groups (pieces_of cut moof_bytes run)) ++ more)
    run_true_here run number more small scaled g fit any =
        let ps = pieces_of cut moof_bytes run in
        let are = groups_are ps in
        let ok : AllByRecursion IsPieceHere (media_pieces run ps) = elim g.lies [
          | inl none ↦ subst (λ (qs : List Piece). AllByRecursion IsPieceHere (media_pieces run qs)) (sym (none_of cut moof_bytes start payload tracks run none)) tt
          | inr lies ↦ run_pieces cut tracks moof_bytes start payload run small g.sound g.of lies
        ] in
        groups_true_here run number (groups ps) more are.some (subst (λ (qs : List Piece). AllByRecursion IsPieceHere (media_pieces run qs)) (sym are.joined) ok)
        (run_indexed cut moof_bytes start payload tracks run (timescale_of tracks run.track) number (scale_small tracks run.track scaled) g fit) any

    pub runs_true_here : (number : ℕ) (runs : List Run) (more : List Item) → length payload ≤ 2 ^ 62 → AreScaled tracks → AllByRecursion (IsRunIn tracks start payload moof_bytes) runs → AllByRecursion (λ (run : Run). FitsIndex (pieces_of cut moof_bytes run)) runs → TrueAnywhere more → TrueAnywhere (runs_items cut moof_bytes start payload tracks number runs ++ more)
    runs_true_here number [] more small scaled given fit any = any
    runs_true_here number (run ∷ runs) more small scaled given fit any =
        let xs = groups_items cut moof_bytes start payload run (timescale_of tracks run.track) number (groups (pieces_of cut moof_bytes run)) in
        let ys = runs_items cut moof_bytes start payload tracks (number + length (pieces_of cut moof_bytes run)) runs in
        subst TrueAnywhere (sym (append_assoc xs ys more))
        (run_true_here run number (ys ++ more) small scaled given.0 fit.0 (runs_true_here (number + length (pieces_of cut moof_bytes run)) runs more small scaled given.1 fit.1 any))

-- ---- items

nothing_known : {X : Type 0} → ◌≡◌ {A = Option (List Track)} None (Some []) → X
nothing_known e = absurd cc

nothing_same : {X : Type 0} (ts : List Track) → ◌≡◌ {A = Option (List Track)} None (Some ts) → X
nothing_same ts e = absurd cc

sidx_dropped : is_dropped (codes "sidx") ≡ true
unfolding splits.is_dropped
sidx_dropped = refl

some_ends : (a b : List Track) → a ≡ b → ◌≡◌ {A = Option (List Track)} (Some a) (Some b)
some_ends a b e = ap (λ (ts : List Track). Some ts) e

module _ (cut : Cut) (index : cut.index ≡ true) where
  -- in each context with these tracks, up to their ends
  abbrev Later : Option (List Track) → List Item → Type 0
  Later o more = (d : Context) → option_map without_ends d.tracks ≡ option_map without_ends o → IndexesAreTrue cut d more

  kept_true : (o : Option (List Track)) (d : Context) (t : Bool) (b : OneBox) (more : List Item) → is_dropped b.header.kind.0 ≡ t → option_map without_ends d.tracks ≡ option_map without_ends o → Later o more → IndexesAreTrue cut d (copied_items t b ++ more)
  kept_true o d true b more t e later = later d e
  kept_true o d false b more t e later = (λ kind. absurd (false≢true (sym t ∙ (ap is_dropped kind ∙ sidx_dropped))), later (context_after (splitting cut) d (PassedOver b)) e)

  fragment_true_here : (at number : ℕ) (o : Option (List Track)) (to now : ℕ) (u : Option (List Track)) (moof mdat : OneBox) (more : List Item) → option_map without_ends u ≡ option_map without_ends o → AreScaled (listed o) → IsSound (splitting cut) (context at o number) (MovieFragment moof mdat) → CanBeRecut (context at o number) (MovieFragment moof mdat)
      → Later (context_after (splitting cut) (context at o number) (MovieFragment moof mdat)).tracks more → IndexesAreTrue cut (context to u now) (item_recut cut (context at o number) (MovieFragment moof mdat) ++ more)
  fragment_true_here at number None to now u moof mdat more e scaled s fine later = nothing_known s.0.known
  fragment_true_here at number (Some tracks) to now None moof mdat more e scaled s fine later = nothing_same (without_ends tracks) e
  fragment_true_here at number (Some tracks) to now (Some us) moof mdat more e scaled s fine later =
      let f = fragment_in (context at (Some tracks) number) moof mdat in
      let h = moof_at moof.bytes at in
      let fs = moof_trafs h tracks in
      let payload = drop mdat.header.header_len mdat.bytes in
      let good = first_none (place_fault f.payload (moof_runs h tracks)) (room_fault cut h (moof_runs h tracks) number) s.3 in
      runs_true_here cut tracks moof.bytes f.payload.start payload number (taken_runs h tracks) more (omega (arith, fine.1, length-drop mdat.header.header_len mdat.bytes)) scaled
      (fragment_runs cut at number tracks moof mdat s fine.0 fine.1 fine.2 fine.3) (all_index cut h tracks number index good.1)
      (λ x n vs k. later (context x (Some vs) n) (some_ends _ _ (k ∙ sym (ends_settled tracks fs)))) to now us (some_same (without_ends us) (without_ends tracks) e)

  item_true_here : (c d : Context) (i : Item) (more : List Item) → option_map without_ends d.tracks ≡ option_map without_ends c.tracks → AreScaled (tracks_in c) → IsSound (splitting cut) c i → CanBeRecut c i → Later (context_after (splitting cut) c i).tracks more → IndexesAreTrue cut d (item_recut cut c i ++ more)
  item_true_here c d (PassedOver b) more e scaled s fine later = kept_true c.tracks d (is_dropped b.header.kind.0) b more refl e later
  item_true_here c d (Movie b) more e scaled s fine later = (tt, later (context_after (splitting cut) d (Movie b)) (some_ends _ _ (fine d.at).1))
  item_true_here c d (MovieFragment moof mdat) more e scaled s fine later = fragment_true_here c.at c.number c.tracks d.at d.number d.tracks moof mdat more e scaled s fine later

  items_true_here : (c d : Context) (is more : List Item) → option_map without_ends d.tracks ≡ option_map without_ends c.tracks → AreScaled (tracks_in c) → AreSound (splitting cut) c is → CanAllBeRecut cut c is → IsBytes (joined is) → Later (context_after_all (splitting cut) c is).tracks more → IndexesAreTrue cut d (items_recut cut c is ++ more)
  items_true_here c d [] more e scaled s fine moof_bytes later = later d e
  items_true_here c d (i ∷ is) more e scaled s fine moof_bytes later =
      let next = context_after (splitting cut) c i in
      subst (IndexesAreTrue cut d) (sym (append_assoc (item_recut cut c i) (items_recut cut next is) more))
      (item_true_here c d i (items_recut cut next is ++ more) e scaled s.0 fine.0
      (λ x k. items_true_here next x is more k (item_scaled cut index c i scaled s.0 (bytes_front (bytes_of i) (joined is) moof_bytes)) s.1 fine.1 (bytes_back (bytes_of i) (joined is) moof_bytes) later))

  -- ---- the end

  open_true_here : (at number : ℕ) (o : Option (List Track)) (to now : ℕ) (u : Option (List Track)) (moof : OneBox) (h : Header) (header_bytes more : List ℕ) → option_map without_ends u ≡ option_map without_ends o → AreScaled (listed o) → IsSoundEnding (splitting cut) (context at o number) (OpenFragment moof h header_bytes more) → IsBytes moof.bytes → at + length moof.bytes + length more ≤ 2 ^ 62 → number ≤ 2 ^ 32 → AllByRecursion FitsTrack (listed o)
      → IndexesAreTrue cut (context to u now) (ending_items cut (context at o number) (OpenFragment moof h header_bytes more))
  open_true_here at number None to now u moof h header_bytes more e scaled s moof_bytes room low fit = nothing_known s.2.known
  open_true_here at number (Some tracks) to now None moof h header_bytes more e scaled s moof_bytes room low fit = nothing_same (without_ends tracks) e
  open_true_here at number (Some tracks) to now (Some us) moof h header_bytes more e scaled s moof_bytes room low fit =
      let f = fragment_here (context at (Some tracks) number) moof.bytes h in
      let m = moof_at moof.bytes at in
      let whole : IsWhole moof.bytes = (moof.header, s.2.one.payload, s.2.one.is) in
      let good = first_none (place_fault f.payload (moof_runs m tracks)) (room_fault cut m (moof_runs m tracks) number) s.4 in
      subst (IndexesAreTrue cut (context to (Some us) now)) (append-nil _)
      (runs_true_here cut tracks moof.bytes f.payload.start more number (taken_runs m tracks) [] (omega (arith, room)) scaled
      (open_runs cut at number tracks moof.bytes more h s.1.1 whole moof_bytes room fit low s.3 s.4 s.5) (all_index cut m tracks number index good.1)
      (λ x n vs k. tt) to now us (some_same (without_ends us) (without_ends tracks) e))

  ending_true_here : (c d : Context) (e : Ending) → option_map without_ends d.tracks ≡ option_map without_ends c.tracks → AreScaled (tracks_in c) → IsSoundEnding (splitting cut) c e → IsBytes (ending_bytes e) → c.at + length (ending_bytes e) ≤ 2 ^ 62 → c.number ≤ 2 ^ 32 → AllByRecursion FitsTrack (tracks_in c) → IndexesAreTrue cut d (ending_items cut c e)
  ending_true_here c d NothingMore k scaled s moof_bytes room low fit = tt
  ending_true_here c d (OpenBox h header_bytes more) k scaled s moof_bytes room low fit = tt
  ending_true_here c d (OpenFragment moof h header_bytes more) k scaled s moof_bytes room low fit =
      open_true_here c.at c.number c.tracks d.at d.number d.tracks moof h header_bytes more k scaled s (bytes_front moof.bytes (header_bytes ++ more) moof_bytes) (omega (arith, room, length-append moof.bytes (header_bytes ++ more), length-append header_bytes more)) low fit

  pub recut_indexes_true : (s : Stream) → IsSoundStream cut s → IndexesAreTrue cut first_context (recut cut s).items
  recut_indexes_true s is =
      let e = ending_bytes s.ending in
      let len = length-append (joined s.items) e in
      let front = bytes_front (joined s.items) e is.bytes in
      let back = bytes_back (joined s.items) e is.bytes in
      let fine = all_can_be_recut cut first_context s.items is.sound front (omega (arith, is.near, len)) (omega arith) tt in
      let good = after_good cut first_context s.items is.sound front (omega (arith, is.near, len)) (omega arith) tt in
      let scaled = (items_indexed cut index first_context s.items tt is.sound fine front).1 in
      items_true_here first_context first_context s.items (ending_items cut (ending_context cut s) s.ending) refl tt is.sound fine front
      (λ d k. ending_true_here (ending_context cut s) d s.ending k scaled is.ending back (omega (arith, is.near, len, after_at (splitting cut) first_context s.items)) good.0 good.1)
