-- A fragment of one piece is listed in one line, and in one record.
use Rattle.std.proofs.Common.{◌≡◌, ◌∙◌, ℕ, ◌+◌, ◌<◌, ◌^◌, List, [], ◌∷◌, ◌++◌, length, length-append, append-nil, Option, Some, refl, sym, ap, subst, arith, map}
use Rattle.std.specs.Prelude.{Bool, ◌-◌, drop, option_map}
use Rattle.std.specs.List.{flat_map, sum_by}
use Rattle.mp4_box.specs.Fields.{number_in}
use Rattle.mp4_box.specs.Paths.{at_path, of_kind}
use Rattle.mp4_box.specs.Trees.{Box, children, first_of}
use Rattle.mp4_init.specs.declared.table.Track.{Track}
use Rattle.mp4_traf.specs.Fields.{payload_of}
use Rattle.mp4_traf.specs.Kinds.{mfhd}
use Rattle.mp4_traf.specs.Rows.{durations, rows_of}
use Rattle.mp4_traf.specs.Runs.{MoofBytes, TrackFragment, known_track, last_end, runs_of}
use Rattle.mp4_traf.specs.TrafTotals.{are_sync}
use Rattle.mp4_traf.specs.declared.rows.Row.{Row}
use Rattle.mp4_traf.specs.declared.run.Run.{Run}
use Rattle.mp4_traf.proofs.FirstSampleLemmas.{first_is}
use Rattle.mp4_frag.specs.Mfhd.{sequence_number}
use Rattle.mp4_frag.specs.Moofs.{moof_of, moof_trafs, sequence_of}
use Rattle.mp4_pieces.specs.declared.cut.Cut.{Cut}
use Rattle.mp4_cut.specs.Mdat.{mdat_header}
use Rattle.mp4_cut.specs.Moof.{WrittenFragment, moof_box}
use Rattle.mp4_cut.specs.Reads.{Describes, FitsFields, held_moof}
use Rattle.mp4_cut.proofs.ReadIndexLemmas.{number_read}
use Rattle.mp4_cut.proofs.ReadLemmas.{length_media}
use Rattle.mp4_cut.proofs.RunLemmas.{describes, one_run_back, run_in, traf_in, trafs_back}
use Rattle.mp4_grammar.specs.Contexts.{Context, context}
use Rattle.mp4_grammar.specs.FragmentLines.{listed_traf, traf_line}
use Rattle.mp4_grammar.specs.Joined.{Item, Movie, MovieFragment, PassedOver, context_after, fragment_in, tracks_in}
use Rattle.mp4_grammar.specs.LinesByRows.{first_is_sync}
use Rattle.mp4_grammar.specs.Meanings.{Fragment}
use Rattle.mp4_grammar.specs.Presented.{all_rows, presented_in}
use Rattle.mp4_grammar.specs.TrafRecords.{record_bytes, record_with, traf_record}
use Rattle.mp4_grammar.specs.declared.command.Command.TheVariants.{Fragments, Records}
use Rattle.mp4_grammar.specs.declared.listed_traf.ListedTraf.{ListedTraf}
use Rattle.mp4_grammar.specs.declared.presented.Presented.{Presented}
use Rattle.mp4_recut.specs.Splitting.{splitting}
use Rattle.mp4_recut_laws.specs.MediaSamples.{MediaSample, media_samples_from}
use Rattle.mp4_recut_laws.specs.PieceItems.{IsOnePiece, IsPieceHere, mdat_as_box, moof_as_box, piece_item}
use Rattle.mp4_recut_laws.specs.EachFragment.{EachFragment, IfFragment}
use Rattle.mp4_recut_laws.specs.Listings.{item_listing}
use Rattle.mp4_recut_laws.specs.PieceLines.{IsOneLine}
use Rattle.mp4_recut_laws.specs.PieceRecords.{IsOneRecord, piece_record, piece_traf}
use Rattle.mp4_recut_laws.proofs.OnePieceLemmas.{one_samples}

same_first : (a b : ℕ) (xs : List ℕ) → a ∷ xs ≡ b ∷ [] → a ≡ b
same_first a b xs e = cc

first_number : (bs : List Box) (n : ℕ) → map (λ (b : Box). number_in b.payload 4) bs ≡ n ∷ [] → sequence_number (payload_of (first_of (flat_map (at_path []) bs))) ≡ n
unfolding at_path
first_number [] n e = absurd cc
first_number (b ∷ bs) n e = same_first (number_in b.payload 4) n _ e

sequence_is : (f : WrittenFragment) (number at : ℕ) → FitsFields f → number < 2 ^ 32 → sequence_of (held_moof f number at) ≡ number
unfolding at_path
sequence_is f number at fits small = first_number (of_kind mfhd (children (moof_of (held_moof f number at)))) number (number_read f number at fits small)

one_alone : {X Y : Type 0} (g : X → List Y) (xs : List X) (x : X) → xs ≡ x ∷ [] → flat_map g xs ≡ g x
one_alone g xs x e = ap (flat_map g) e ∙ append-nil (g x)

one_count : (run : Run) → sum_by (λ (r : Run). r.count) (run ∷ []) ≡ run.count
one_count run = omega arith

one_sum : (run : Run) → sum_by (λ (r : Run). r.bytes) (run ∷ []) ≡ run.bytes
one_sum run = omega arith

how_many : (track entry : ℕ) (rows : List Row) (time : ℕ) (media : List ℕ) → length (media_samples_from track entry rows time media) ≡ length rows
how_many track entry [] time media = refl
how_many track entry (row ∷ rows) time media = omega (arith, how_many track entry rows (time + row.duration) (drop row.size media))

same_size : (a b : ℕ) → a ≡ b → ◌≡◌ {A = Option ℕ} (Some a) (Some b)
same_size a b e = cc

-- ---- the traf that is listed

first_sync : (rows : List Row) → are_sync (option_map (λ (row : Row). row.flags) (first_of rows)) ≡ first_is_sync rows
first_sync [] = refl
first_sync (row ∷ rows) = refl

same_listed : (a b : ℕ) (c : Option ℕ) (d e f g : ℕ) (h : Bool) (i : ℕ) (p : Presented) (n : ℕ) (a' : ℕ) (c' : Option ℕ) (f' g' : ℕ) (h' : Bool) (i' : ℕ) (p' : Presented)
    → a ≡ a' → c ≡ c' → f ≡ f' → g ≡ g' → h ≡ h' → i ≡ i' → p ≡ p'
    → ◌≡◌ {A = ListedTraf} (record { sequence = a; at = b; size = c; track = d; time = e; duration = f; samples = g; sync = h; media = i; presented = p; ended = n })
    (record { sequence = a'; at = b; size = c'; track = d; time = e; duration = f'; samples = g'; sync = h'; media = i'; presented = p'; ended = n })
same_listed a b c d e f g h i p n a' c' f' g' h' i' p' sequence size duration samples sync media presented = cc

module _ (cut : Cut) (at number : ℕ) (tracks : List Track) (f : WrittenFragment) (media : List ℕ) (small : number < 2 ^ 32) (one : IsOnePiece cut tracks f media) where
  -- the moof that is written, as it is held
  abbrev held : MoofBytes
  held = held_moof f number at

  -- its one traf
  abbrev traf : TrackFragment
  traf = traf_in held one.can.track f

  abbrev fragment : Fragment
  fragment = fragment_in (context at (Some tracks) number) (moof_as_box f number) (mdat_as_box media)

  only : moof_trafs held tracks ≡ traf ∷ []
  only = trafs_back f number at tracks one.can.track one.can.fits one.can.known

  runs : runs_of traf ≡ run_in held one.can.track f ∷ []
  runs = one_run_back f number at one.can.track

  its : Describes f held (run_in held one.can.track f)
  its = describes f number at one.can.track one.can.fits

  rows : all_rows held.bytes (runs_of traf) ≡ f.rows
  rows = ap (all_rows held.bytes) runs ∙ (append-nil (rows_of (run_in held one.can.track f) held.bytes) ∙ its.rows)

  ends : last_end f.time (runs_of traf) ≡ f.time + durations f.rows
  ends = ap (last_end f.time) runs ∙ its.end

  lasts : last_end f.time (runs_of traf) - f.time ≡ durations f.rows
  lasts = omega (arith, ends)

  -- it is listed by what is written of the piece
  listed_is : listed_traf fragment traf ≡ piece_traf tracks at number f media
  listed_is =
      same_listed _ _ _ _ _ _ _ _ _ _ _ _ _ _ _ _ _ _
      (sequence_is f number at one.can.fits small)
      (same_size _ _ (omega (arith, length-append (moof_box f number) (mdat_header (length media) ++ media), length_media media)))
      lasts
      (ap (sum_by (λ (run : Run). run.count)) runs ∙ (one_count (run_in held one.can.track f) ∙ its.count))
      (ap are_sync (first_is held.bytes (runs_of traf)) ∙ (first_sync (all_rows held.bytes (runs_of traf)) ∙ ap first_is_sync rows))
      (ap (sum_by (λ (run : Run). run.bytes)) runs ∙ (one_sum (run_in held one.can.track f) ∙ (its.bytes ∙ sym one.all)))
      (ap presented_in rows)

  -- ---- its line and its record

  pub piece_line : item_listing Fragments (context at (Some tracks) number) (piece_item f number media) ≡ traf_line (piece_traf tracks at number f media)
  piece_line = one_alone (λ (t : TrackFragment). traf_line (listed_traf fragment t)) (moof_trafs held tracks) traf only ∙ ap traf_line listed_is

  pub one_line : IfFragment IsOneLine (context at (Some tracks) number) (piece_item f number media)
  one_line = record {
    traf = traf;
    only = only;
    line = one_alone (λ (t : TrackFragment). traf_line (listed_traf fragment t)) (moof_trafs held tracks) traf only;
    sequence = ap (λ (t : ListedTraf). t.sequence) listed_is;
    at = refl;
    size = ap (λ (t : ListedTraf). t.size) listed_is;
    samples =
        ap (λ (t : ListedTraf). t.samples) listed_is
        ∙ sym (ap (λ (s : List MediaSample). length s) (one_samples cut at number tracks f media one) ∙ how_many f.track f.entry f.rows f.time media);
  }

  pub its_record : item_listing Records (context at (Some tracks) number) (piece_item f number media) ≡ record_bytes (piece_record tracks at number f media)
  its_record =
      one_alone (λ (t : TrackFragment). record_bytes (traf_record fragment t)) (moof_trafs held tracks) traf only
      ∙ ap (λ (t : ListedTraf). record_bytes (record_with (known_track f.track tracks) t)) listed_is

  pub one_record : IfFragment (IsOneRecord cut) (context at (Some tracks) number) (piece_item f number media)
  one_record = record {
    piece = record { known = refl; small = small; written = f; media = media; one = one; item = refl };
    samples = one_samples cut at number tracks f media one;
    text = its_record;
  }

-- ---- all fragments that are pieces

module _ (cut : Cut) (P : Context → Item → Fragment → Type 0)
    (holds : (at number : ℕ) (tracks : List Track) (f : WrittenFragment) (media : List ℕ) → number < 2 ^ 32 → IsOnePiece cut tracks f media → IfFragment P (context at (Some tracks) number) (piece_item f number media)) where
  of_piece : (c : Context) (i : Item) → IfFragment (IsPieceHere cut) c i → IfFragment P c i
  of_piece c (PassedOver b) p = tt
  of_piece c (Movie b) p = tt
  of_piece c (MovieFragment moof mdat) p =
      let i = piece_item p.written c.number p.media in
      let here : IfFragment P (context c.at c.tracks c.number) i = subst (λ (o : Option (List Track)). IfFragment P (context c.at o c.number) i) (sym p.known) (holds c.at c.number (tracks_in c) p.written p.media p.small p.one) in
      subst (IfFragment P c) (sym p.item) here

  -- what holds of each piece holds of each fragment, where all are pieces
  pub of_pieces : (d : Cut) (c : Context) (is : List Item) → EachFragment (IsPieceHere cut) d c is → EachFragment P d c is
  of_pieces d c [] all = tt
  of_pieces d c (i ∷ is) all = (of_piece c i all.0, of_pieces d (context_after (splitting d) c i) is all.1)
