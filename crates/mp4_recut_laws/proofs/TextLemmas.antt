-- The items of the recut text are its parts, one after the other.
use Rattle.std.proofs.Common.{◌≡◌, ◌∙◌, ℕ, ◌+◌, Bool, true, false, cond, List, [], ◌∷◌, ◌++◌, inl, inr, length, append-nil, append_assoc, refl, sym, ap, arith, subst, map}
use Rattle.std.specs.List.{AllByRecursion}
use Rattle.mp4_init.specs.declared.table.Track.{Track}
use Rattle.mp4_traf.specs.declared.run.Run.{Run}
use Rattle.mp4_pieces.specs.declared.cut.Cut.{Cut}
use Rattle.mp4_pieces.specs.declared.piece.Piece.{Piece}
use Rattle.mp4_pieces.specs.Cutting.{join}
use Rattle.mp4_pieces.specs.Groups.{groups}
use Rattle.mp4_pieces.specs.Pieces.{pieces_of}
use Rattle.mp4_pieces.proofs.GroupLemmas.{groups_are}
use Rattle.mp4_cut.specs.Mdat.{mdat_header}
use Rattle.mp4_cut.specs.Moof.{written_moof}
use Rattle.mp4_cut.specs.Sidx.{written_index}
use Rattle.mp4_grammar.specs.Joined.{Item, bytes_of, joined}
use Rattle.mp4_recut_laws.specs.PieceItems.{piece_with_media, pieces_items}
use Rattle.mp4_recut_laws.specs.Premises.{IsRunIn}
use Rattle.mp4_recut_laws.specs.RecutItems.{groups_items, index_items, runs_items, without_index}
use Rattle.mp4_recut.specs.Splitting.{timescale_of}
use Rattle.mp4_recut.specs.Texts.{groups_text, media_of, pieces_text, runs_text}
use Rattle.mp4_recut_laws.proofs.CutLemmas.{run_long}
use Rattle.mp4_recut_laws.proofs.RunLemmas.{none_of, runs_out}

same_join : (a b c d : List ℕ) → a ≡ b → c ≡ d → a ++ c ≡ b ++ d
same_join a b c d p q = ap (λ (x : List ℕ). x ++ c) p ∙ ap (λ (y : List ℕ). b ++ y) q

regroup : (a b m r : List ℕ) → (a ++ (b ++ m)) ++ r ≡ (a ++ b) ++ (m ++ r)
regroup a b m r = append_assoc a (b ++ m) r ∙ (ap (λ (x : List ℕ). a ++ x) (append_assoc b m r) ∙ sym (append_assoc a b (m ++ r)))

pub joined_append : (xs ys : List Item) → joined (xs ++ ys) ≡ joined xs ++ joined ys
joined_append [] ys = refl
joined_append (x ∷ xs) ys = ap (λ (z : List ℕ). bytes_of x ++ z) (joined_append xs ys) ∙ sym (append_assoc (bytes_of x) (joined xs) (joined ys))

index_by : (t : Bool) (run : Run) (timescale : ℕ) (g : List Piece) → joined (index_items t run timescale g) ≡ cond t (written_index run timescale g) []
index_by true run timescale g = append-nil (written_index run timescale g)
index_by false run timescale g = refl

module _ (cut : Cut) (moof_bytes : List ℕ) (start : ℕ) (payload : List ℕ) where
  abbrev Long : Piece → Type 0
  Long p = length (media_of start payload p) ≡ p.plain.bytes

  pieces_joined : (run : Run) (number : ℕ) (ps : List Piece) → AllByRecursion Long ps → joined (pieces_items number (map (piece_with_media moof_bytes start payload run) ps)) ≡ pieces_text cut moof_bytes start payload run number ps
  pieces_joined run number [] long = refl
  pieces_joined run number (p ∷ ps) long =
      let m = media_of start payload p in
      ap (λ (n : ℕ). (written_moof p run moof_bytes number ++ (mdat_header n ++ m)) ++ joined (pieces_items (number + 1) (map (piece_with_media moof_bytes start payload run) ps))) long.0
      ∙ (regroup (written_moof p run moof_bytes number) (mdat_header p.plain.bytes) m _
      ∙ ap (λ (z : List ℕ). (written_moof p run moof_bytes number ++ mdat_header p.plain.bytes) ++ (m ++ z)) (pieces_joined run (number + 1) ps long.1))

  all_first : (xs ys : List Piece) → AllByRecursion Long (xs ++ ys) → AllByRecursion Long xs
  all_first [] ys all = tt
  all_first (x ∷ xs) ys all = (all.0, all_first xs ys all.1)

  all_last : (xs ys : List Piece) → AllByRecursion Long (xs ++ ys) → AllByRecursion Long ys
  all_last [] ys all = all
  all_last (x ∷ xs) ys all = all_last xs ys all.1

  groups_joined : (run : Run) (timescale number : ℕ) (gs : List (List Piece)) → AllByRecursion Long (join gs) → joined (groups_items cut moof_bytes start payload run timescale number gs) ≡ groups_text cut moof_bytes start payload run timescale number gs
  groups_joined run timescale number [] long = refl
  groups_joined run timescale number (g ∷ gs) long =
      joined_append (index_items cut.index run timescale g) _
      ∙ same_join _ _ _ _ (index_by cut.index run timescale g)
      (joined_append (pieces_items number (map (piece_with_media moof_bytes start payload run) g)) _
      ∙ same_join _ _ _ _ (pieces_joined run number g (all_first g (join gs) long)) (groups_joined run timescale (number + length g) gs (all_last g (join gs) long)))

  pieces_append : (run : Run) (number k : ℕ) (xs ys : List Piece) → k ≡ number + length xs → pieces_text cut moof_bytes start payload run number (xs ++ ys) ≡ pieces_text cut moof_bytes start payload run number xs ++ pieces_text cut moof_bytes start payload run k ys
  pieces_append run number k [] ys e = ap (λ (n : ℕ). pieces_text cut moof_bytes start payload run n ys) (omega (arith, e))
  pieces_append run number k (p ∷ xs) ys e =
      let m = media_of start payload p in
      let head = written_moof p run moof_bytes number ++ mdat_header p.plain.bytes in
      ap (λ (z : List ℕ). head ++ (m ++ z)) (pieces_append run (number + 1) k xs ys (omega (arith, e)))
      ∙ (ap (λ (z : List ℕ). head ++ z) (sym (append_assoc m (pieces_text cut moof_bytes start payload run (number + 1) xs) (pieces_text cut moof_bytes start payload run k ys)))
      ∙ sym (append_assoc head (m ++ pieces_text cut moof_bytes start payload run (number + 1) xs) (pieces_text cut moof_bytes start payload run k ys)))

  -- without an index the groups don't matter
  groups_without_index : (run : Run) (timescale number : ℕ) (gs : List (List Piece)) → groups_text (without_index cut) moof_bytes start payload run timescale number gs ≡ pieces_text cut moof_bytes start payload run number (join gs)
  groups_without_index run timescale number [] = refl
  groups_without_index run timescale number (g ∷ gs) =
      ap (λ (z : List ℕ). pieces_text cut moof_bytes start payload run number g ++ z) (groups_without_index run timescale (number + length g) gs)
      ∙ sym (pieces_append run number (number + length g) g (join gs) refl)

  module _ (tracks : List Track) where
    pub long_run : (run : Run) → (IsRunIn tracks start payload moof_bytes run) → AllByRecursion Long (pieces_of cut moof_bytes run)
    long_run run g = elim g.lies [
      | inl none ↦ subst (λ (ps : List Piece). AllByRecursion Long ps) (sym (none_of cut moof_bytes start payload tracks run none)) tt
      | inr lies ↦ run_long cut moof_bytes start payload run lies
    ]

    pub runs_joined : (of : List Track) (number : ℕ) (runs : List Run) → AllByRecursion (IsRunIn tracks start payload moof_bytes) runs → joined (runs_items cut moof_bytes start payload of number runs) ≡ runs_text cut moof_bytes start payload of number runs
    runs_joined of number [] all = refl
    runs_joined of number (run ∷ runs) all =
        joined_append (groups_items cut moof_bytes start payload run (timescale_of of run.track) number (groups (pieces_of cut moof_bytes run))) _
        ∙ same_join _ _ _ _
        (groups_joined run (timescale_of of run.track) number (groups (pieces_of cut moof_bytes run)) (subst (λ (ps : List Piece). AllByRecursion Long ps) (sym (groups_are (pieces_of cut moof_bytes run)).joined) (long_run run all.0)))
        (runs_joined of (number + length (pieces_of cut moof_bytes run)) runs all.1)

    pub out_is : (of : List Track) (number : ℕ) (runs : List Run) → AllByRecursion (IsRunIn tracks start payload moof_bytes) runs → runs_out cut moof_bytes start payload tracks number runs ≡ runs_text (without_index cut) moof_bytes start payload of number runs
    out_is of number [] all = refl
    out_is of number (run ∷ runs) all =
        same_join _ _ _ _
        (pieces_joined run number (pieces_of cut moof_bytes run) (long_run run all.0)
        ∙ (sym (ap (pieces_text cut moof_bytes start payload run number) (groups_are (pieces_of cut moof_bytes run)).joined) ∙ sym (groups_without_index run (timescale_of of run.track) number (groups (pieces_of cut moof_bytes run)))))
        (out_is of (number + length (pieces_of cut moof_bytes run)) runs all.1)
