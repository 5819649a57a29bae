-- A fragment of one piece is its own recut text.
use Rattle.std.proofs.Common.{◌≡◌, ◌∙◌, ℕ, ◌+◌, ◌-◌, ◌<◌, ◌≤◌, ◌^◌, true, false, List, [], ◌∷◌, ◌++◌, length, Option, Some, None, refl, sym, ap, subst, arith, append-nil, append_assoc, length-append, pos}
use Rattle.std.specs.Prelude.{take, drop}
use Rattle.std.specs.List.{AllByRecursion}
use Rattle.std.specs.Option.{option_or}
use Rattle.std.proofs.lemmas.Bool.{false≢true}
use Rattle.std.proofs.lemmas.List.{drop_at, take_all}
use Rattle.mp4_box.specs.Headers.{IsBox}
use Rattle.mp4_box.specs.declared.rules.Fault.{Fault}
use Rattle.mp4_init.specs.declared.table.Track.{Track}
use Rattle.mp4_traf.specs.declared.run.Run.{Run}
use Rattle.mp4_traf.specs.declared.rows.Row.{Row}
use Rattle.mp4_traf.specs.Cursors.{first_cursor}
use Rattle.mp4_frag.specs.Moofs.{moof_runs}
use Rattle.mp4_traf.specs.Rows.{rows_of, durations, sizes}
use Rattle.mp4_frag.specs.Places.{place_fault}
use Rattle.mp4_traf.specs.Runs.{MoofBytes}
use Rattle.mp4_traf.specs.Settling.{with_end}
use Rattle.mp4_run_order.specs.declared.runs.Payload.{Payload}
use Rattle.mp4_pieces.specs.declared.cut.Cut.{Cut}
use Rattle.mp4_pieces.specs.declared.piece.Piece.{Piece}
use Rattle.mp4_pieces.specs.Fitting.{cut_for, fits}
use Rattle.mp4_pieces.specs.Groups.{groups, groups_from}
use Rattle.mp4_pieces.specs.Pieces.{cut_rows, piece_at, piece_count, pieces_at, pieces_of}
use Rattle.mp4_pieces.specs.Rooms.{moof, numbers, room_fault}
use Rattle.mp4_pieces.specs.Sizes.{mdat_header_size}
use Rattle.mp4_pieces.proofs.CutLemmas.{piece_again}
use Rattle.mp4_pieces.proofs.FitLemmas.{is_limit}
use Rattle.mp4_pieces.proofs.FitsLemmas.{room_to}
use Rattle.mp4_box.specs.Order.{least}
use Rattle.mp4_box.specs.Order as order
use Rattle.mp4_cut.specs.Mdat.{mdat_header}
use Rattle.mp4_cut.specs.Moof.{WrittenFragment, data_offset, in_moof, moof_box, written_fragment}
use Rattle.mp4_cut.specs.Reads.{Describes, FitsFields, IsReadAs, header_of, held_moof, media_of}
use Rattle.mp4_cut.specs.Sidx.{natural}
use Rattle.mp4_cut.proofs.BoxLemmas.{is_box}
use Rattle.mp4_cut.proofs.MoofLemmas.{length_in_moof, length_moof, short_moof}
use Rattle.mp4_cut.proofs.ReadLemmas.{fragment_again, is_read_as, length_mdat, mdat_is_box}
use Rattle.mp4_grammar.specs.Contexts.{Context, context}
use Rattle.mp4_grammar.specs.declared.kinds.Kind.TheVariants.{Moof, Mdat}
use Rattle.mp4_grammar.specs.Joined.{IsOne, bytes_of, fragment_in}
use Rattle.mp4_grammar.specs.Kinds.{kind_in}
use Rattle.mp4_grammar.specs.Meanings.{fragment_fault, runs_in}
use Rattle.mp4_recut_laws.specs.PieceItems.{IsOnePiece, IsOwnRecut, mdat_as_box, moof_as_box, piece_item}
use Rattle.std.specs.List.{flat_map}
use Rattle.mp4_recut_laws.specs.MediaSamples.{item_samples, media_samples_from, media_samples_in, media_samples_of_run}
use Rattle.mp4_recut.specs.Splitting.{splitting, timescale_of}
use Rattle.mp4_recut.specs.Texts as texts
use Rattle.mp4_recut.specs.Texts.{fragment_text}

-- ---- the boxes

pub moof_is : (f : WrittenFragment) (number : ℕ) → FitsFields f → IsOne Moof (moof_as_box f number)
unfolding kind_in moof_box
moof_is f number fits = record {
  type = refl;
  payload = in_moof f number;
  is = subst (λ (n : ℕ). IsBox (header_of moof n 8) (in_moof f number) (moof_box f number)) (omega (arith, length_in_moof f number)) (is_box moof (in_moof f number) (short_moof f number fits));
}

pub mdat_is : (media : List ℕ) → length media ≤ 2 ^ 62 → IsOne Mdat (mdat_as_box media)
unfolding kind_in
mdat_is media small = record { type = refl; payload = media; is = mdat_is_box media small }

-- ---- the pieces of its run

one_piece : (cut : Cut) (rows : List Row) → 0 < length rows → fits cut rows ≡ true → cut_rows cut rows ≡ rows ∷ []
one_piece cut [] some e = absurd (omega arith)
one_piece cut (x ∷ rows) some e = piece_again (fits cut) x rows (is_limit cut) e

-- the run of a moof that was written has one piece
pub its_piece : (cut : Cut) (f : WrittenFragment) (h : MoofBytes) (run : Run) → Describes f h run → 0 < length f.rows → fits (cut_for run.timescale cut) f.rows ≡ true → pieces_of cut h.bytes run ≡ piece_at (first_cursor run) f.rows ∷ []
unfolding pieces_at
its_piece cut f h run t some e =
    let own : Cut = cut_for run.timescale cut in
    ap (λ (rows : List Row). pieces_at (first_cursor run) (cut_rows own rows)) t.rows ∙ ap (pieces_at (first_cursor run)) (one_piece own f.rows some e)

-- its samples fit in a piece by the timescale of the run that is read
pub its_fit : (cut : Cut) (tracks : List Track) (f : WrittenFragment) (media : List ℕ) (h : MoofBytes) (one : IsOnePiece cut tracks f media) (r : IsReadAs tracks f h) → fits (cut_for r.run.timescale cut) f.rows ≡ true
its_fit cut tracks f media h one r = ap (λ (n : ℕ). fits (cut_for n cut) f.rows) (r.timescale one.can.track one.can.known) ∙ one.fits

pub its_count : (cut : Cut) (moof_bytes : List ℕ) (run : Run) (p : Piece) → pieces_of cut moof_bytes run ≡ p ∷ [] → piece_count cut moof_bytes (run ∷ []) ≡ 1
its_count cut moof_bytes run p e = omega (arith, ap (λ (ps : List Piece). length ps) e)

-- it has room for its number
pub has_room : (cut : Cut) (h : MoofBytes) (run : Run) (p : Piece) (number : ℕ) → cut.index ≡ false → number < 2 ^ 32 → pieces_of cut h.bytes run ≡ p ∷ [] → room_fault cut h (run ∷ []) number ≡ None
unfolding order.least_from
has_room cut h run p number none small e =
    ap least (room_to cut h (run ∷ []) number (record {
      indexes = λ t. absurd (false≢true (sym none ∙ t));
      numbers = subst (λ (n : ℕ). AllByRecursion (λ (k : ℕ). k < 2 ^ 32) (numbers number n)) (sym (its_count cut h.bytes run p e)) (small, tt);
    }))

-- ---- what is at fault

copy_media : ℕ → Option ℕ → Payload
copy_media start end = record { start = start; end = end }

same_copy : (a b c d : ℕ) → a ≡ b → c ≡ d → copy_media a (Some c) ≡ copy_media b (Some d)
same_copy a b c d p q = cc

payload_is : (at number : ℕ) (tracks : List Track) (f : WrittenFragment) (media : List ℕ) → length media ≡ sizes f.rows
    → (fragment_in (context at (Some tracks) number) (moof_as_box f number) (mdat_as_box media)).payload ≡ media_of f (held_moof f number at)
unfolding copy_media
payload_is at number tracks f media all =
    let header : mdat_header_size (length media) ≡ mdat_header_size (sizes f.rows) = ap mdat_header_size all in
    same_copy _ _ _ _ (omega (arith, length_moof f number, header)) (omega (arith, length_moof f number, header, all))

good_by : (a b : Option Fault) → a ≡ None → b ≡ None → option_or a b ≡ None
good_by a b p q = rw (p, q) refl

is_good : (cut : Cut) (at number : ℕ) (tracks : List Track) (f : WrittenFragment) (media : List ℕ) → cut.index ≡ false → number < 2 ^ 32 → IsOnePiece cut tracks f media → (r : IsReadAs tracks f (held_moof f number at))
    → fragment_fault (splitting cut) (fragment_in (context at (Some tracks) number) (moof_as_box f number) (mdat_as_box media)) ≡ None
is_good cut at number tracks f media none small one r =
    let h = held_moof f number at in
    let payload = (fragment_in (context at (Some tracks) number) (moof_as_box f number) (mdat_as_box media)).payload in
    good_by (place_fault payload (moof_runs h tracks)) (room_fault cut h (moof_runs h tracks) number)
    (ap (place_fault payload) r.all ∙ (ap (λ (p : Payload). place_fault p (r.run ∷ [])) (payload_is at number tracks f media one.all) ∙ r.placed))
    (ap (λ (rs : List Run). room_fault cut h rs number) r.all ∙ has_room cut h r.run (piece_at (first_cursor r.run) f.rows) number none small (its_piece cut f h r.run r.describes one.some (its_fit cut tracks f media h one r)))

-- ---- the text

pub one_group : (p : Piece) → groups (p ∷ []) ≡ (p ∷ []) ∷ []
unfolding groups_from
one_group p = refl

place_back : (run : Run) (rows : List Row) (n start : ℕ) → run.place ≡ pos n → start ≡ n → natural run.place - start ≡ 0
place_back run rows n start e s = omega (arith, ap natural e, s)

tidy : (a b c : List ℕ) → (((a ++ b) ++ (c ++ [])) ++ []) ++ [] ≡ a ++ (b ++ c)
tidy a b c = append-nil (((a ++ b) ++ (c ++ [])) ++ []) ∙ (append-nil ((a ++ b) ++ (c ++ [])) ∙ (ap (λ (x : List ℕ). (a ++ b) ++ x) (append-nil c) ∙ append_assoc a b c))

-- the text of one piece
piece_text : (cut : Cut) (f : WrittenFragment) (h : MoofBytes) (run : Run) (start number timescale : ℕ) (media : List ℕ) → cut.index ≡ false → Describes f h run → start ≡ h.offset + data_offset f.rows → length media ≡ sizes f.rows → pieces_of cut h.bytes run ≡ piece_at (first_cursor run) f.rows ∷ []
    → texts.groups_text cut h.bytes start media run timescale number (groups (pieces_of cut h.bytes run)) ++ [] ≡ moof_box f number ++ (mdat_header (length media) ++ media)
unfolding piece_at
piece_text cut f h run start number timescale media none t s all e =
    let p = piece_at (first_cursor run) f.rows in
    let moof_same : moof_box (written_fragment h.bytes run p) number ≡ moof_box f number = ap (λ (g : WrittenFragment). moof_box g number) (fragment_again f h run t) in
    let here : natural run.place - start ≡ 0 = place_back run f.rows (h.offset + data_offset f.rows) start t.place s in
    let back : take (sizes f.rows) (drop (natural run.place - start) media) ≡ media = ap (λ (n : ℕ). take (sizes f.rows) (drop n media)) here ∙ take_all (sizes f.rows) media (omega (arith, all)) in
    ap (λ (ps : List Piece). texts.groups_text cut h.bytes start media run timescale number (groups ps) ++ []) e
    ∙ (ap (λ (gs : List (List Piece)). texts.groups_text cut h.bytes start media run timescale number gs ++ []) (one_group p)
    ∙ (rw none (rw back (rw moof_same (rw (sym all) (tidy (moof_box f number) (mdat_header (length media)) media))))))

-- ---- the item

at_same : (n a b : ℕ) → a ≡ b → n + a ≡ n + b
at_same n a b e = omega (arith, e)

make_context : ℕ → List Track → ℕ → Context
make_context at tracks number = context at (Some tracks) number

same_context : (a b m n : ℕ) (s t : List Track) → a ≡ b → s ≡ t → m ≡ n → make_context a s m ≡ make_context b t n
same_context a b m n s t p q r = cc

pub one_recut : (cut : Cut) (at number : ℕ) (tracks : List Track) (f : WrittenFragment) (media : List ℕ) → cut.index ≡ false → number < 2 ^ 32 → IsOnePiece cut tracks f media
    → IsOwnRecut cut (context at (Some tracks) number) (piece_item f number media) (context (at + length (bytes_of (piece_item f number media))) (Some (with_end f.track (f.time + durations f.rows) tracks)) (number + 1))
unfolding make_context
one_recut cut at number tracks f media none small one =
    let h = held_moof f number at in
    let fits = one.can.fits in
    let r = is_read_as f number at tracks one.can in
    let p = piece_at (first_cursor r.run) f.rows in
    let its = its_piece cut f h r.run r.describes one.some (its_fit cut tracks f media h one r) in
    let c = context at (Some tracks) number in
    let frag = fragment_in c (moof_as_box f number) (mdat_as_box media) in
    let start = frag.payload.start in
    let payload : drop (mdat_header_size (length media)) (mdat_header (length media) ++ media) ≡ media = drop_at (mdat_header (length media)) media (mdat_header_size (length media)) (length_mdat (length media)) in
    let header : mdat_header_size (length media) ≡ mdat_header_size (sizes f.rows) = ap mdat_header_size one.all in
    record {
      sound = (
        record { one = moof_is f number fits; known = refl; small = omega (arith, length_moof f number, fits.count) },
        r.read,
        mdat_is media one.small,
        is_good cut at number tracks f media none small one r,
      );
      text =
          ap (λ (m : List ℕ). fragment_text cut frag m) payload
          ∙ (ap (λ (rs : List Run). texts.runs_text cut h.bytes start media tracks number rs) r.taken
          ∙ piece_text cut f h r.run start number (timescale_of tracks r.run.track) media none r.describes (omega (arith, length_moof f number, header)) one.all its);
      after = same_context _ _ _ _ _ _
          (omega (arith, length-append (moof_box f number) (mdat_header (length media) ++ media)))
          r.settled
          (at_same number (piece_count cut h.bytes (runs_in frag)) 1 (ap (piece_count cut h.bytes) r.taken ∙ its_count cut h.bytes r.run p its));
    }

-- ---- its samples

pub one_samples : (cut : Cut) (at number : ℕ) (tracks : List Track) (f : WrittenFragment) (media : List ℕ) → IsOnePiece cut tracks f media
    → item_samples (context at (Some tracks) number) (piece_item f number media) ≡ media_samples_from f.track f.entry f.rows f.time media
one_samples cut at number tracks f media one =
    let h = held_moof f number at in
    let r = is_read_as f number at tracks one.can in
    let frag = fragment_in (context at (Some tracks) number) (moof_as_box f number) (mdat_as_box media) in
    let start = frag.payload.start in
    let payload : drop (mdat_header_size (length media)) (mdat_header (length media) ++ media) ≡ media = drop_at (mdat_header (length media)) media (mdat_header_size (length media)) (length_mdat (length media)) in
    let header : mdat_header_size (length media) ≡ mdat_header_size (sizes f.rows) = ap mdat_header_size one.all in
    let here : natural r.run.place - start ≡ 0 = place_back r.run f.rows (at + data_offset f.rows) start r.describes.place (omega (arith, length_moof f number, header)) in
    ap (λ (m : List ℕ). media_samples_in frag m) payload
    ∙ (ap (λ (rs : List Run). flat_map (media_samples_of_run h.bytes start media) rs) r.taken
    ∙ (append-nil (media_samples_of_run h.bytes start media r.run)
    ∙ (ap (λ (n : ℕ). media_samples_from r.run.track r.run.entry (rows_of r.run h.bytes) r.run.time (drop n media)) here
    ∙ (rw (r.describes.track, r.describes.entry, r.describes.rows, r.describes.time) refl))))
