-- The groups of a run, and the runs of a fragment.
use Rattle.std.proofs.Common.{◌≡◌, ◌∙◌, ℕ, ◌+◌, ◌≤◌, ◌^◌, Bool, true, false, List, [], ◌∷◌, ◌++◌, inl, inr, length, append_assoc, Some, refl, sym, ap, arith, subst, map}
use Rattle.std.specs.Prelude.{drop, ◌-◌}
use Rattle.std.specs.List.{AllByRecursion, flat_map}
use Rattle.std.proofs.lemmas.List.Concat.{flat_map-append}
use Rattle.mp4_init.specs.declared.table.Track.{Track}
use Rattle.mp4_traf.specs.declared.run.Run.{Run}
use Rattle.mp4_traf.specs.declared.rows.Row.{Row}
use Rattle.mp4_traf.specs.Cursors.{first_cursor}
use Rattle.mp4_traf.specs.Rows.{rows_of}
use Rattle.mp4_pieces.specs.declared.cut.Cut.{Cut}
use Rattle.mp4_pieces.specs.declared.piece.Piece.{Piece}
use Rattle.mp4_pieces.specs.Cutting.{cut_by, join}
use Rattle.mp4_pieces.specs.Groups.{groups}
use Rattle.mp4_pieces.specs.Fitting.{cut_for}
use Rattle.mp4_pieces.specs.Pieces.{cut_rows, pieces_at, pieces_of}
use Rattle.mp4_pieces.proofs.GroupLemmas.{groups_are}
use Rattle.mp4_cut.specs.Sidx.{natural, sidx, sidx_payload, written_index}
use Rattle.mp4_cut.proofs.BoxLemmas.{is_box, length_box}
use Rattle.mp4_cut.proofs.IndexLemmas.{length_index}
use Rattle.mp4_grammar.specs.Contexts.{Context, context}
use Rattle.mp4_grammar.specs.Joined.{IsOne, bytes_of, joined}
use Rattle.mp4_grammar.specs.Kinds.{kind_in}
use Rattle.mp4_grammar.specs.declared.kinds.Kind.TheVariants.{Other}
use Rattle.mp4_recut_laws.specs.PieceItems.{IsOnePiece, PieceWithMedia, piece_item, piece_samples, piece_with_media, pieces_items, pieces_with_media}
use Rattle.mp4_recut_laws.specs.Premises.{IsRunIn}
use Rattle.mp4_recut_laws.specs.RecutItems.{AreRecutAnywhere, groups_items, index_as_box, index_items, runs_items, without_index}
use Rattle.mp4_recut_laws.specs.MediaSamples.{media_samples_from, media_samples_of_run}
use Rattle.mp4_recut.specs.Splitting.{is_dropped, timescale_of}
use Rattle.mp4_recut_laws.proofs.CutLemmas.{run_pieces, run_samples}
use Rattle.mp4_recut_laws.proofs.PieceListLemmas.{recut_is, append_recut, cons_recut, none_recut, pieces_own_recut}

-- ---- an index

index_box : (run : Run) (timescale : ℕ) (g : List Piece) → length g ≤ 65535 → IsOne Other (index_as_box run timescale g)
unfolding kind_in written_index
index_box run timescale g few =
    let p = sidx_payload run.track timescale g in
    record { type = refl; payload = p; is = is_box sidx p (record { four = refl; other = refl; small = omega (arith, length_index run timescale g, length_box sidx p refl, few) }) }

make_context : ℕ → List Track → ℕ → Context
make_context at tracks number = context at (Some tracks) number

same_context : (a b m n : ℕ) (s : List Track) → a ≡ b → m ≡ n → make_context a s m ≡ make_context b s n
same_context a b m n s p r = cc

index_recut : (cut : Cut) (number : ℕ) (tracks : List Track) (b : Bool) (run : Run) (timescale : ℕ) (g : List Piece) → length g ≤ 65535 → AreRecutAnywhere cut number tracks (index_items b run timescale g) [] 0 []
unfolding is_dropped make_context
index_recut cut number tracks false run timescale g few at us e = none_recut cut number tracks at us e
index_recut cut number tracks true run timescale g few at us e =
    cons_recut cut at number us us _ [] [] [] 0 0 0 [] [] refl (index_box run timescale g few) refl (same_context _ _ number (number + 0) us refl (omega arith)) refl refl tt (none_recut cut (number + 0) tracks (at + length (written_index run timescale g)) us e)

-- ---- groups

all_first : {X : Type 0} (P : X → Type 0) (xs ys : List X) → AllByRecursion P (xs ++ ys) → AllByRecursion P xs
all_first P [] ys all = tt
all_first P (x ∷ xs) ys all = (all.0, all_first P xs ys all.1)

all_last : {X : Type 0} (P : X → Type 0) (xs ys : List X) → AllByRecursion P (xs ++ ys) → AllByRecursion P ys
all_last P [] ys all = all
all_last P (x ∷ xs) ys all = all_last P xs ys all.1

pub map_both : {X Y : Type 0} (f : X → Y) (xs ys : List X) → map f (xs ++ ys) ≡ map f xs ++ map f ys
map_both f [] ys = refl
map_both f (x ∷ xs) ys = ap (λ (zs : List _). f x ∷ zs) (map_both f xs ys)

map_long : {X Y : Type 0} (f : X → Y) (xs : List X) → length (map f xs) ≡ length xs
map_long f [] = refl
map_long f (x ∷ xs) = omega (arith, map_long f xs)

long_both : {X : Type 0} (xs ys : List X) → length (xs ++ ys) ≡ length xs + length ys
long_both [] ys = omega arith
long_both (x ∷ xs) ys = omega (arith, long_both xs ys)

joined_both : (number k : ℕ) (xs ys : List PieceWithMedia) → k ≡ number + length xs → joined (pieces_items number (xs ++ ys)) ≡ joined (pieces_items number xs) ++ joined (pieces_items k ys)
joined_both number k [] ys e = ap (λ (n : ℕ). joined (pieces_items n ys)) (omega (arith, e))
joined_both number k (x ∷ xs) ys e = ap (λ (z : List ℕ). bytes_of (piece_item x.written number x.media) ++ z) (joined_both (number + 1) k xs ys (omega (arith, e))) ∙ sym (append_assoc (bytes_of (piece_item x.written number x.media)) (joined (pieces_items (number + 1) xs)) (joined (pieces_items k ys)))

module _ (cut : Cut) (moof_bytes : List ℕ) (start : ℕ) (payload : List ℕ) (tracks : List Track) where
  abbrev IsPieceHere : PieceWithMedia → Type 0
  IsPieceHere q = IsOnePiece (without_index cut) tracks q.written q.media

  abbrev media_pieces : Run → List Piece → List PieceWithMedia
  media_pieces run ps = map (piece_with_media moof_bytes start payload run) ps

  groups_recut : (run : Run) (timescale number : ℕ) (gs : List (List Piece)) → AllByRecursion (λ (g : List Piece). length g ≤ 65535) gs → AllByRecursion IsPieceHere (media_pieces run (join gs)) → number + length (join gs) ≤ 2 ^ 32
      → AreRecutAnywhere (without_index cut) number tracks (groups_items cut moof_bytes start payload run timescale number gs) (joined (pieces_items number (media_pieces run (join gs)))) (length (join gs)) (flat_map piece_samples (media_pieces run (join gs)))
  groups_recut run timescale number [] most all room = none_recut (without_index cut) number tracks
  groups_recut run timescale number (g ∷ gs) most all room =
      let xs = media_pieces run g in
      let ys = media_pieces run (join gs) in
      let both = map_both (piece_with_media moof_bytes start payload run) g (join gs) in
      let long = map_long (piece_with_media moof_bytes start payload run) g in
      let sum = long_both g (join gs) in
      let ok = subst (λ (qs : List PieceWithMedia). AllByRecursion IsPieceHere qs) both all in
      let index = index_recut (without_index cut) number tracks cut.index run timescale g most.0 in
      let mine = recut_is (without_index cut) number (number + 0) tracks (pieces_items number xs) _ _ _ _ _ _ (pieces_own_recut (without_index cut) number tracks xs refl (omega (arith, room, sum, long)) (all_first IsPieceHere xs ys ok)) (omega arith) refl refl refl in
      let rest = recut_is (without_index cut) (number + length g) (number + 0 + length xs) tracks (groups_items cut moof_bytes start payload run timescale (number + length g) gs) _ _ _ _ _ _ (groups_recut run timescale (number + length g) gs most.1 (all_last IsPieceHere xs ys ok) (omega (arith, room, sum))) (omega (arith, long)) refl refl refl in
      recut_is (without_index cut) number number tracks _ _ _ _ _ _ _
      (append_recut (without_index cut) number tracks _ _ _ _ _ _ _ _ index (append_recut (without_index cut) (number + 0) tracks _ _ _ _ _ _ _ _ mine rest))
      refl
      (sym (joined_both number (number + length g) xs ys (omega (arith, long))) ∙ ap (λ (qs : List PieceWithMedia). joined (pieces_items number qs)) (sym both))
      (omega (arith, long, sum))
      (sym (flat_map-append piece_samples xs ys) ∙ ap (flat_map piece_samples) (sym both))

  -- ---- runs

  record Given (run : Run) : Type 0 where
    ok : AllByRecursion IsPieceHere (pieces_with_media cut moof_bytes start payload run)
    samples_are : flat_map piece_samples (pieces_with_media cut moof_bytes start payload run) ≡ media_samples_of_run moof_bytes start payload run

  pub none_of : (run : Run) → rows_of run moof_bytes ≡ [] → pieces_of cut moof_bytes run ≡ []
  unfolding cut_by pieces_at
  none_of run e = ap (λ (rows : List Row). pieces_at (first_cursor run) (cut_rows (cut_for run.timescale cut) rows)) e

  no_samples_reported : (run : Run) (rows : List Row) (media : List ℕ) → rows ≡ [] → media_samples_from run.track run.entry rows run.time media ≡ []
  no_samples_reported run rows media e = ap (λ (rs : List Row). media_samples_from run.track run.entry rs run.time media) e

  given : length payload ≤ 2 ^ 62 → (run : Run) → IsRunIn tracks start payload moof_bytes run → Given run
  given small run g = elim g.lies [
    | inl none ↦ record {
      ok = subst (λ (ps : List Piece). AllByRecursion IsPieceHere (media_pieces run ps)) (sym (none_of run none)) tt;
      samples_are = ap (λ (ps : List Piece). flat_map piece_samples (media_pieces run ps)) (none_of run none) ∙ sym (no_samples_reported run (rows_of run moof_bytes) (drop (natural run.place - start) payload) none);
    }
    | inr lies ↦ record { ok = run_pieces cut tracks moof_bytes start payload run small g.sound g.of lies; samples_are = run_samples cut moof_bytes start payload run lies }
  ]

  -- the recut text of runs, without an index
  abbrev pub runs_out : ℕ → List Run → List ℕ
  runs_out number [] = []
  runs_out number (run ∷ runs) = joined (pieces_items number (pieces_with_media cut moof_bytes start payload run)) ++ runs_out (number + length (pieces_of cut moof_bytes run)) runs

  abbrev pub runs_count : List Run → ℕ
  runs_count [] = 0
  runs_count (run ∷ runs) = length (pieces_of cut moof_bytes run) + runs_count runs

  run_recut : (run : Run) (timescale number : ℕ) → Given run → number + length (pieces_of cut moof_bytes run) ≤ 2 ^ 32
      → AreRecutAnywhere (without_index cut) number tracks (groups_items cut moof_bytes start payload run timescale number (groups (pieces_of cut moof_bytes run))) (joined (pieces_items number (pieces_with_media cut moof_bytes start payload run))) (length (pieces_of cut moof_bytes run)) (media_samples_of_run moof_bytes start payload run)
  run_recut run timescale number g room =
      let gs = groups (pieces_of cut moof_bytes run) in
      let are = groups_are (pieces_of cut moof_bytes run) in
      let back : join gs ≡ pieces_of cut moof_bytes run = are.joined in
      recut_is (without_index cut) number number tracks _ _ _ _ _ _ _
      (groups_recut run timescale number gs are.most (subst (λ (ps : List Piece). AllByRecursion IsPieceHere (media_pieces run ps)) (sym back) g.ok) (omega (arith, room, ap (λ (ps : List Piece). length ps) back)))
      refl
      (ap (λ (ps : List Piece). joined (pieces_items number (media_pieces run ps))) back)
      (ap (λ (ps : List Piece). length ps) back)
      (ap (λ (ps : List Piece). flat_map piece_samples (media_pieces run ps)) back ∙ g.samples_are)

  pub runs_recut : length payload ≤ 2 ^ 62 → (number : ℕ) (of : List Track) (runs : List Run) → AllByRecursion (IsRunIn tracks start payload moof_bytes) runs → number + runs_count runs ≤ 2 ^ 32
      → AreRecutAnywhere (without_index cut) number tracks (runs_items cut moof_bytes start payload of number runs) (runs_out number runs) (runs_count runs) (flat_map (media_samples_of_run moof_bytes start payload) runs)
  runs_recut small number of [] all room = none_recut (without_index cut) number tracks
  runs_recut small number of (run ∷ runs) all room =
      append_recut (without_index cut) number tracks _ _ _ _ _ _ _ _
      (run_recut run (timescale_of of run.track) number (given small run all.0) (omega (arith, room)))
      (runs_recut small (number + length (pieces_of cut moof_bytes run)) of runs all.1 (omega (arith, room)))
