-- An index that was written is read again, and so is the sequence number of a moof.
use Rattle.std.proofs.Common.{◌≡◌, ◌∙◌, ℕ, ℤ, pos, negsuc, ◌+◌, ◌<◌, ◌^◌, List, [], ◌∷◌, ◌++◌, length, refl, sym, ap, arith, map}
use Rattle.std.specs.Prelude.{drop}
use Rattle.std.specs.List.{AllByRecursion, flat_map}
use Rattle.std.proofs.lemmas.Int.{ints}
use Rattle.byteorder.specs.Endian.{big_bytes}
use Rattle.byteorder.specs.Numbers.{big_number-reads_back}
use Rattle.mp4_box.specs.Fields.{number_in}
use Rattle.mp4_box.specs.Paths.{of_kind}
use Rattle.mp4_box.specs.Trees.{Box, children}
use Rattle.mp4_traf.specs.CompositionTimes.{composition_times, least_of}
use Rattle.mp4_traf.specs.declared.run.Run.{Run}
use Rattle.mp4_traf.specs.Kinds.{mfhd}
use Rattle.mp4_frag.specs.Moofs.{moof_of}
use Rattle.mp4_traf.specs.Rows.{durations, sizes}
use Rattle.mp4_pieces.specs.declared.piece.Piece.{Piece}
use Rattle.mp4_pieces.specs.Fits.{FitsReference, FitsTime}
use Rattle.mp4_pieces.specs.Pieces.{IsPieceOf, cursor_at, piece_at, rows_in}
use Rattle.mp4_pieces.specs.Sizes.{fragment_size, mdat_header_size}
use Rattle.mp4_cut.specs.Boxes.{version_and_flags}
use Rattle.mp4_cut.specs.Indexes.{CanBeIndexed, IsIndexReadAs, Reference, index_in, reference_to, references_in}
use Rattle.mp4_cut.specs.Mdat.{mdat_header}
use Rattle.mp4_cut.specs.Moof.{WrittenFragment, written_fragment, written_moof}
use Rattle.mp4_cut.specs.Reads.{FitsFields, held_moof}
use Rattle.mp4_cut.specs.Sidx.{earliest, natural, reference_bytes, written_index}
use Rattle.mp4_cut.proofs.FieldLemmas.{long_number_back, number_back}
use Rattle.mp4_cut.proofs.MoofLemmas.{length_moof, moof_children}
use Rattle.mp4_cut.proofs.PieceLemmas.{bytes_are, count_is}
use Rattle.mp4_cut.proofs.ReadLemmas.{length_mdat}
use Rattle.mp4_cut.proofs.RunLemmas.{moof_back}

same_references : (a b c d e f : ℕ) (rs ss : List Reference) → a ≡ b → c ≡ d → e ≡ f → rs ≡ ss → ◌≡◌ {A = List Reference} (record { size = a; duration = c; access = e } ∷ rs) (record { size = b; duration = d; access = f } ∷ ss)
same_references a b c d e f rs ss p q r s = cc

pub natural_is : (z : ℤ) → FitsTime z → (pos (natural z) ≡ z) × (natural z < 2 ^ 64)
natural_is (pos n) h = (refl, omega (arith, ints, h.high))
natural_is (negsuc n) h = absurd (omega (arith, ints, h.low))

module _ (moof_bytes : List ℕ) (run : Run) where
  size_is : (p : Piece) (number : ℕ) → IsPieceOf moof_bytes run p → fragment_size p ≡ length (written_moof p run moof_bytes number) + (length (mdat_header (sizes (rows_in moof_bytes run p))) + sizes (rows_in moof_bytes run p))
  size_is p number is =
      let bytes = bytes_are moof_bytes run p is in
      omega (arith, length_moof (written_fragment moof_bytes run p) number, count_is moof_bytes run p is, length_mdat (sizes (rows_in moof_bytes run p)), bytes, ap mdat_header_size bytes)

  duration_is : (p : Piece) → IsPieceOf moof_bytes run p → p.plain.duration ≡ durations (rows_in moof_bytes run p)
  unfolding piece_at
  duration_is p is = ap (λ (q : Piece). q.plain.duration) is.is

  least_is : (p : Piece) → IsPieceOf moof_bytes run p → p.least ≡ least_of (composition_times p.plain.time (rows_in moof_bytes run p))
  unfolding piece_at
  least_is p is =
      let time : (cursor_at moof_bytes run p.plain.first).time ≡ p.plain.time = sym (ap (λ (q : Piece). q.plain.time) is.is) in
      ap (λ (q : Piece). q.least) is.is ∙ ap (λ (t : ℕ). least_of (composition_times t (rows_in moof_bytes run p))) time

  references_back : (number : ℕ) (ps : List Piece) → AllByRecursion (IsPieceOf moof_bytes run) ps → AllByRecursion FitsReference ps → references_in (length ps) (flat_map reference_bytes ps) ≡ map (reference_to moof_bytes run number) ps
  references_back number [] is fits = refl
  references_back number (p ∷ ps) is fits =
      let rest = flat_map reference_bytes ps in
      let size = fragment_size p in
      same_references _ _ _ _ _ _ _ _
      (big_number-reads_back 4 size ((big_bytes 4 p.plain.duration ++ big_bytes 4 0) ++ rest) (omega (arith, fits.0.size)) ∙ size_is p number is.0)
      (big_number-reads_back 4 p.plain.duration (big_bytes 4 0 ++ rest) (omega (arith, fits.0.duration)) ∙ duration_is p is.0)
      (big_number-reads_back 4 0 rest (omega arith))
      (references_back number ps is.1 fits.1)

  pub index_back : (timescale number : ℕ) (p : Piece) (ps : List Piece) → run.track < 2 ^ 32 → timescale < 2 ^ 32 → CanBeIndexed moof_bytes run p ps → IsIndexReadAs moof_bytes run timescale number p ps (index_in (drop 8 (written_index run timescale (p ∷ ps))))
  unfolding written_index
  index_back timescale number p ps small scale can =
      let g = p ∷ ps in
      let v = version_and_flags 1 0 in
      let refs = flat_map reference_bytes g in
      let count = big_bytes 2 0 ++ (big_bytes 2 (length g) ++ refs) in
      let begin = natural_is p.least can.time in
      let early = long_number_back (v ++ (big_bytes 4 run.track ++ big_bytes 4 timescale)) (big_bytes 8 0 ++ count) 12 (earliest g) refl begin.1 in
      record {
        version = refl;
        flags = big_number-reads_back 3 0 (big_bytes 4 run.track ++ (big_bytes 4 timescale ++ (big_bytes 8 (earliest g) ++ (big_bytes 8 0 ++ count)))) (omega arith);
        track = number_back v (big_bytes 4 timescale ++ (big_bytes 8 (earliest g) ++ (big_bytes 8 0 ++ count))) 4 run.track refl small;
        timescale = number_back (v ++ big_bytes 4 run.track) (big_bytes 8 (earliest g) ++ (big_bytes 8 0 ++ count)) 8 timescale refl scale;
        earliest = ap (λ (n : ℕ). pos n) early ∙ (begin.0 ∙ least_is p can.pieces.0);
        offset = long_number_back (v ++ (big_bytes 4 run.track ++ (big_bytes 4 timescale ++ big_bytes 8 (earliest g)))) count 20 0 refl (omega arith);
        reserved = big_number-reads_back 2 0 (big_bytes 2 (length g) ++ refs) (omega arith);
        references = ap (λ (n : ℕ). references_in n refs) (big_number-reads_back 2 (length g) refs (omega (arith, can.few))) ∙ references_back number g can.pieces can.references;
      }

-- ---- a moof

pub number_read : (f : WrittenFragment) (number offset : ℕ) → FitsFields f → number < 2 ^ 32 → map (λ (b : Box). number_in b.payload 4) (of_kind mfhd (children (moof_of (held_moof f number offset)))) ≡ number ∷ []
number_read f number offset fits small = rw (moof_back f number offset fits, moof_children f number offset fits) (ap (λ (n : ℕ). n ∷ []) (number_back (version_and_flags 0 0) [] 4 number refl small))
