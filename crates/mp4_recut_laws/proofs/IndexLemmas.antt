-- An index that is written is true of the fragments after it.
use Rattle.std.proofs.Common.{◌≡◌, ◌∙◌, ℕ, ℤ, zero, suc, pos, negsuc, ◌+◌, ◌<◌, ◌≤◌, ◌^◌, ◌+ℤ◌, List, [], ◌∷◌, ◌++◌, length, length-append, Option, Some, None, inl, inr, refl, sym, ap, arith, subst, map}
use Rattle.std.specs.Prelude.{◌==◌, drop, slice_get, take}
use Rattle.std.specs.List.{AllByRecursion, flat_map, position, sum_by}
use Rattle.std.specs.Option.{option_and_then}
use Rattle.std.proofs.lemmas.Int.{ints}
use Rattle.std.proofs.lemmas.List.Sums.{sum_by-cons}
use Rattle.byteorder.specs.Endian.{big_bytes}
use Rattle.byteorder.specs.Numbers.{big_number-reads_back}
use Rattle.mp4_init.specs.declared.table.Track.{Track}
use Rattle.mp4_traf.specs.CompositionTimes.{composition_times, least_of}
use Rattle.mp4_traf.specs.declared.run.Run.{Run}
use Rattle.mp4_traf.specs.declared.rows.Row.{Row}
use Rattle.mp4_traf.specs.Rows.{durations}
use Rattle.mp4_pieces.specs.declared.cut.Cut.{Cut}
use Rattle.mp4_pieces.specs.declared.piece.Piece.{Piece}
use Rattle.mp4_pieces.specs.Cutting.{join}
use Rattle.mp4_pieces.specs.Fits.{BeginsInTime, FitsIndex, FitsReference, FitsTime}
use Rattle.mp4_pieces.specs.Groups.{groups}
use Rattle.mp4_pieces.specs.Groups as group_specs
use Rattle.mp4_pieces.specs.Pieces.{IsPieceOf, cursor_at, pieces_of, rows_in}
use Rattle.mp4_pieces.specs.Pieces as piece_specs
use Rattle.mp4_pieces.specs.Sizes.{fragment_size, mdat_header_size}
use Rattle.mp4_pieces.proofs.GroupLemmas.{groups_are}
use Rattle.mp4_pieces.proofs.PieceLemmas.{pieces_are_of}
use Rattle.mp4_cut.specs.Boxes.{version_and_flags}
use Rattle.mp4_cut.specs.Moof.{written_fragment, moof_box}
use Rattle.mp4_cut.specs.Sidx.{earliest, natural, reference_bytes}
use Rattle.mp4_cut.specs.Sidx as sidx_specs
use Rattle.mp4_cut.proofs.FieldLemmas.{long_number_back, number_back}
use Rattle.mp4_cut.proofs.MoofLemmas.{length_moof}
use Rattle.mp4_cut.proofs.PieceLemmas.{count_is}
use Rattle.mp4_grammar.specs.Joined.{bytes_of}
use Rattle.mp4_recut.specs.Splitting.{scale_of, timescale_of}
use Rattle.mp4_recut.specs.Texts.{media_of}
use Rattle.mp4_recut_laws.specs.PieceItems.{PieceWithMedia, mdat_as_box, piece_item, piece_samples, piece_with_media}
use Rattle.mp4_recut_laws.specs.Premises.{IsRunIn}
use Rattle.mp4_recut_laws.specs.RecutItems.{index_as_box}
use Rattle.mp4_cut.specs.Indexes.{Reference, references_in}
use Rattle.mp4_recut_laws.specs.Indexes.{GroupsAreIndexed, IsIndexOf, RunsAreIndexed, first_samples, references_of}
use Rattle.mp4_recut_laws.specs.MediaSamples.{MediaSample, media_samples_from}
use Rattle.mp4_recut_laws.proofs.CutLemmas.{run_long}
use Rattle.mp4_cut.proofs.ReadLemmas.{length_media}
use Rattle.mp4_recut_laws.proofs.RunLemmas.{none_of}

-- ---- sums over samples

sample_durations : (track entry : ℕ) (rows : List Row) (time : ℕ) (media : List ℕ) → sum_by (λ (s : MediaSample). s.duration) (media_samples_from track entry rows time media) ≡ durations rows
sample_durations track entry [] time media = refl
sample_durations track entry (row ∷ rows) time media =
    sum_by-cons (λ (s : MediaSample). s.duration)
    (record { track = track; time = time; composition = pos time +ℤ row.offset; duration = row.duration; flags = row.flags; entry = entry; bytes = take row.size media })
    (media_samples_from track entry rows (time + row.duration) (drop row.size media))
    ∙ ap (λ (n : ℕ). row.duration + n) (sample_durations track entry rows (time + row.duration) (drop row.size media)) ∙ sym (sum_by-cons (λ (r : Row). r.duration) row rows)

sample_times : (track entry : ℕ) (rows : List Row) (time : ℕ) (media : List ℕ) → map (λ (s : MediaSample). s.composition) (media_samples_from track entry rows time media) ≡ composition_times time rows
unfolding composition_times
sample_times track entry [] time media = refl
sample_times track entry (row ∷ rows) time media = ap (λ (zs : List ℤ). (pos time +ℤ row.offset) ∷ zs) (sample_times track entry rows (time + row.duration) (drop row.size media))

-- ---- a piece

-- what is known of a piece that follows an index
record Good (moof_bytes : List ℕ) (start : ℕ) (payload : List ℕ) (run : Run) (p : Piece) : Type 0 where
  is : IsPieceOf moof_bytes run p
  long : length (media_of start payload p) ≡ p.plain.bytes
  fits : FitsReference p

same_references : (a b c d e f : ℕ) (rs ss : List Reference) → a ≡ b → c ≡ d → e ≡ f → rs ≡ ss → ◌≡◌ {A = List Reference} (record { size = a; duration = c; access = e } ∷ rs) (record { size = b; duration = d; access = f } ∷ ss)
same_references a b c d e f rs ss p q r s = cc

module _ (moof_bytes : List ℕ) (start : ℕ) (payload : List ℕ) (run : Run) where
  abbrev media_piece : Piece → PieceWithMedia
  media_piece p = piece_with_media moof_bytes start payload run p

  piece_size : (p : Piece) (number : ℕ) → Good moof_bytes start payload run p → fragment_size p ≡ length (bytes_of (piece_item (media_piece p).written number (media_piece p).media))
  piece_size p number good =
      let media = media_of start payload p in
      let f = written_fragment moof_bytes run p in
      let header : mdat_header_size (length media) ≡ mdat_header_size p.plain.bytes = ap mdat_header_size good.long in
      omega (arith, length-append (moof_box f number) (mdat_as_box media).bytes, length_moof f number, count_is moof_bytes run p good.is, length_media media, header, good.long)

  piece_duration : (p : Piece) → Good moof_bytes start payload run p → p.plain.duration ≡ sum_by (λ (s : MediaSample). s.duration) (piece_samples (media_piece p))
  unfolding piece_specs.piece_at
  piece_duration p good =
      ap (λ (q : Piece). q.plain.duration) good.is.is ∙ sym (sample_durations run.track run.entry (rows_in moof_bytes run p) p.plain.time (media_of start payload p))

  piece_least : (p : Piece) → Good moof_bytes start payload run p → p.least ≡ least_of (map (λ (s : MediaSample). s.composition) (piece_samples (media_piece p)))
  unfolding piece_specs.piece_at
  piece_least p good =
      let rows = rows_in moof_bytes run p in
      let time : (cursor_at moof_bytes run p.plain.first).time ≡ p.plain.time = sym (ap (λ (q : Piece). q.plain.time) good.is.is) in
      ap (λ (q : Piece). q.least) good.is.is
      ∙ ap (λ (t : ℕ). least_of (composition_times t rows)) time
      ∙ sym (ap least_of (sample_times run.track run.entry rows p.plain.time (media_of start payload p)))

  references_back : (number : ℕ) (g : List Piece) → AllByRecursion (Good moof_bytes start payload run) g → references_in (length g) (flat_map reference_bytes g) ≡ references_of number (map media_piece g)
  references_back number [] all = refl
  references_back number (p ∷ g) all =
      let good = all.0 in
      let rest = flat_map reference_bytes g in
      let size = fragment_size p in
      same_references _ _ _ _ _ _ _ _
      (big_number-reads_back 4 size ((big_bytes 4 p.plain.duration ++ big_bytes 4 0) ++ rest) (omega (arith, good.fits.size)) ∙ piece_size p number good)
      (big_number-reads_back 4 p.plain.duration (big_bytes 4 0 ++ rest) (omega (arith, good.fits.duration)) ∙ piece_duration p good)
      (big_number-reads_back 4 0 rest (omega arith))
      (references_back (number + 1) g all.1)

  small_sizes : (number : ℕ) (g : List Piece) → AllByRecursion (Good moof_bytes start payload run) g → AllByRecursion (λ (r : Reference). r.size < 2 ^ 31) (references_of number (map media_piece g))
  small_sizes number [] all = tt
  small_sizes number (p ∷ g) all = (omega (arith, piece_size p number all.0, all.0.fits.size), small_sizes (number + 1) g all.1)

  -- ---- an index

  natural_is : (z : ℤ) → FitsTime z → (pos (natural z) ≡ z) × (natural z < 2 ^ 64)
  natural_is (pos n) h = (refl, omega (arith, ints, h.high))
  natural_is (negsuc n) h = absurd (omega (arith, ints, h.low))

  earliest_is : (g : List Piece) → BeginsInTime g → AllByRecursion (Good moof_bytes start payload run) g → (pos (earliest g) ≡ least_of (map (λ (s : MediaSample). s.composition) (first_samples (map media_piece g)))) × (earliest g < 2 ^ 64)
  earliest_is [] time all = (refl, omega arith)
  earliest_is (p ∷ g) time all = let n = natural_is p.least time in (n.0 ∙ piece_least p all.0, n.1)

  index_states : (timescale number : ℕ) (g : List Piece) → run.track < 2 ^ 32 → timescale < 2 ^ 32 → length g ≤ 65535 → BeginsInTime g → AllByRecursion (Good moof_bytes start payload run) g → IsIndexOf run.track timescale number (drop 8 (index_as_box run timescale g).bytes) (map media_piece g)
  unfolding sidx_specs.written_index
  index_states timescale number g small scale few time all =
      let v = version_and_flags 1 0 in
      let refs = flat_map reference_bytes g in
      let count = big_bytes 2 0 ++ (big_bytes 2 (length g) ++ refs) in
      let begin = earliest_is g time all in
      let early = long_number_back (v ++ (big_bytes 4 run.track ++ big_bytes 4 timescale)) (big_bytes 8 0 ++ count) 12 (earliest g) refl begin.1 in
      record {
        version = refl;
        flags = big_number-reads_back 3 0 (big_bytes 4 run.track ++ (big_bytes 4 timescale ++ (big_bytes 8 (earliest g) ++ (big_bytes 8 0 ++ count)))) (omega arith);
        track = number_back v (big_bytes 4 timescale ++ (big_bytes 8 (earliest g) ++ (big_bytes 8 0 ++ count))) 4 run.track refl small;
        timescale = number_back (v ++ big_bytes 4 run.track) (big_bytes 8 (earliest g) ++ (big_bytes 8 0 ++ count)) 8 timescale refl scale;
        earliest = ap (λ (n : ℕ). pos n) early ∙ begin.0;
        offset = long_number_back (v ++ (big_bytes 4 run.track ++ (big_bytes 4 timescale ++ big_bytes 8 (earliest g)))) count 20 0 refl (omega arith);
        reserved = big_number-reads_back 2 0 (big_bytes 2 (length g) ++ refs) (omega arith);
        references = ap (λ (n : ℕ). references_in n refs) (big_number-reads_back 2 (length g) refs (omega (arith, few))) ∙ references_back number g all;
        media = small_sizes number g all;
      }

-- ---- runs

all_first : {X : Type 0} (P : X → Type 0) (xs ys : List X) → AllByRecursion P (xs ++ ys) → AllByRecursion P xs
all_first P [] ys all = tt
all_first P (x ∷ xs) ys all = (all.0, all_first P xs ys all.1)

all_last : {X : Type 0} (P : X → Type 0) (xs ys : List X) → AllByRecursion P (xs ++ ys) → AllByRecursion P ys
all_last P [] ys all = all
all_last P (x ∷ xs) ys all = all_last P xs ys all.1

at_small : (ts : List Track) (i : ℕ) → AllByRecursion (λ (t : Track). t.timescale < 2 ^ 32) ts → scale_of (slice_get ts i) < 2 ^ 32
at_small [] i all = omega arith
at_small (t ∷ ts) zero all = all.0
at_small (t ∷ ts) (suc i) all = at_small ts i all.1

scale_by : (ts : List Track) (o : Option ℕ) → AllByRecursion (λ (t : Track). t.timescale < 2 ^ 32) ts → scale_of (option_and_then (slice_get ts) o) < 2 ^ 32
scale_by ts None all = omega arith
scale_by ts (Some i) all = at_small ts i all

pub scale_small : (ts : List Track) (id : ℕ) → AllByRecursion (λ (t : Track). t.timescale < 2 ^ 32) ts → timescale_of ts id < 2 ^ 32
scale_small ts id all = scale_by ts (position (λ (t : Track). t.id == id) ts) all

module _ (cut : Cut) (moof_bytes : List ℕ) (start : ℕ) (payload : List ℕ) (tracks : List Track) where
  all_good : (run : Run) (ps : List Piece) → AllByRecursion (IsPieceOf moof_bytes run) ps → AllByRecursion (λ (p : Piece). length (media_of start payload p) ≡ p.plain.bytes) ps → AllByRecursion FitsReference ps → AllByRecursion (Good moof_bytes start payload run) ps
  all_good run [] is long fit = tt
  all_good run (p ∷ ps) is long fit = (record { is = is.0; long = long.0; fits = fit.0 }, all_good run ps is.1 long.1 fit.1)

  groups_indexed : (run : Run) (timescale number : ℕ) (gs : List (List Piece)) → run.track < 2 ^ 32 → timescale < 2 ^ 32 → AllByRecursion (λ (g : List Piece). length g ≤ 65535) gs → AllByRecursion BeginsInTime gs → AllByRecursion (Good moof_bytes start payload run) (join gs)
      → GroupsAreIndexed cut moof_bytes start payload run timescale number gs
  groups_indexed run timescale number [] small scale few time all = tt
  groups_indexed run timescale number (g ∷ gs) small scale few time all = (
    index_states moof_bytes start payload run timescale number g small scale few.0 time.0 (all_first (Good moof_bytes start payload run) g (join gs) all),
    groups_indexed run timescale (number + length g) gs small scale few.1 time.1 (all_last (Good moof_bytes start payload run) g (join gs) all),
  )

  no_groups : (run : Run) (timescale number : ℕ) → GroupsAreIndexed cut moof_bytes start payload run timescale number (groups [])
  unfolding group_specs.groups_from
  no_groups run timescale number = tt

  pub run_indexed : (run : Run) (timescale number : ℕ) → timescale < 2 ^ 32 → IsRunIn tracks start payload moof_bytes run → FitsIndex (pieces_of cut moof_bytes run) → GroupsAreIndexed cut moof_bytes start payload run timescale number (groups (pieces_of cut moof_bytes run))
  run_indexed run timescale number scale g fit = elim g.lies [
    | inl none ↦ subst (λ (ps : List Piece). GroupsAreIndexed cut moof_bytes start payload run timescale number (groups ps)) (sym (none_of cut moof_bytes start payload tracks run none)) (no_groups run timescale number)
    | inr lies ↦
        let ps = pieces_of cut moof_bytes run in
        let are = groups_are ps in
        groups_indexed run timescale number (groups ps) g.sound.track scale are.most fit.times
        (subst (λ (qs : List Piece). AllByRecursion (Good moof_bytes start payload run) qs) (sym are.joined) (all_good run ps (pieces_are_of cut moof_bytes run) (run_long cut moof_bytes start payload run lies) fit.references))
  ]

  pub runs_indexed : (number : ℕ) (runs : List Run) → AllByRecursion (λ (t : Track). t.timescale < 2 ^ 32) tracks → AllByRecursion (IsRunIn tracks start payload moof_bytes) runs → AllByRecursion (λ (run : Run). FitsIndex (pieces_of cut moof_bytes run)) runs → RunsAreIndexed cut moof_bytes start payload tracks number runs
  runs_indexed number [] scaled given fit = tt
  runs_indexed number (run ∷ runs) scaled given fit = (
    run_indexed run (timescale_of tracks run.track) number (scale_small tracks run.track scaled) given.0 fit.0,
    runs_indexed (number + length (pieces_of cut moof_bytes run)) runs scaled given.1 fit.1,
  )
