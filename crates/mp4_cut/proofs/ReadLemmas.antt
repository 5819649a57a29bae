-- What is read of a moof that was written, and the headers that are.
use Rattle.std.proofs.Common.{◌≡◌, ◌∙◌, ◌+◌, ◌^◌, ◌≤◌, ℕ, pos, ◌+ℤ◌, Bool, true, false, cond, ltb, List, [], ◌∷◌, ◌++◌, length, Some, None, refl, sym, ap, arith, append-nil, append_assoc, length-append, inr, Option}
use Rattle.std.specs.Prelude.{take, ◌==◌}
use Rattle.std.specs.List.{flat_map}
use Rattle.std.specs.Int.Signed.{le_z}
use Rattle.std.proofs.lemmas.Bool.{le-ltb, ltb-true}
use Rattle.std.proofs.lemmas.Bool.{false≢true}
use Rattle.std.proofs.lemmas.Int.{ints}
use Rattle.std.proofs.lemmas.List.{take_all}
use Rattle.std.proofs.lemmas.Slice.Eq.{bytes_eq-Decides}
use Rattle.byteorder.specs.Endian.{big_bytes}
use Rattle.mp4_box.specs.declared.headers.FourCc.{FourCc}
use Rattle.mp4_box.specs.declared.headers.Size.TheVariants.{Exact}
use Rattle.mp4_box.specs.declared.headers.Step.TheVariants.{Whole}
use Rattle.mp4_box.specs.Headers.{Head, IsBox, IsWhole, header_at, uuid}
use Rattle.mp4_box.proofs.HeaderLemmas.{read_again}
use Rattle.mp4_init.specs.declared.table.Track.{Track}
use Rattle.mp4_traf.specs.declared.run.Run.{Run}
use Rattle.mp4_traf.specs.Rows.{rows_of, sizes}
use Rattle.mp4_traf.specs.declared.rows.Row.{Row}
use Rattle.mp4_traf.specs.Runs.{MoofBytes, TrackFragment, last_end, runs_of}
use Rattle.mp4_frag.specs.Places.{place_fault, listed_run}
use Rattle.mp4_traf.specs.Settling.{settled, with_end}
use Rattle.mp4_run_order.specs.Orders.{taken_by}
use Rattle.mp4_run_order.proofs.RunLemmas.{le_to}
use Rattle.mp4_frag.proofs.SoundLemmas.{rows_are_samples}
use Rattle.mp4_traf.specs.Cursors.{first_cursor}
use Rattle.mp4_pieces.specs.Pieces.{piece_at}
use Rattle.mp4_pieces.specs.Rooms.{moof}
use Rattle.mp4_pieces.specs.Sizes.{mdat_header_size, moof_size}
use Rattle.mp4_traf.specs.Rules.{track_with}
use Rattle.mp4_cut.specs.Boxes.{box_bytes}
use Rattle.mp4_cut.specs.Mdat.{mdat, mdat_header}
use Rattle.mp4_cut.specs.Moof.{written_fragment, WrittenFragment, data_offset, in_moof, moof_box}
use Rattle.mp4_cut.specs.Reads.{Describes, CanBeRead, FitsFields, IsHeaded, IsReadAs, header_of, held_moof}
use Rattle.mp4_cut.proofs.BoxLemmas.{IsShort, head_is, is_box}
use Rattle.mp4_cut.proofs.FaultLemmas.{moof_is_good}
use Rattle.mp4_cut.proofs.MoofLemmas.{length_in_moof, short_moof}
use Rattle.mp4_cut.proofs.RunLemmas.{describes, one_run_back, run_in, runs_back, traf_in, trafs_back, timescale_back}

-- ---- headers

pub header_read : (kind : FourCc) (payload : List ℕ) → IsShort kind payload → IsHeaded kind (8 + length payload) 8 (box_bytes kind payload)
header_read kind payload s rest =
    ap header_at (append_assoc (big_bytes 4 (8 + length payload)) (kind.0 ++ payload) rest
    ∙ (ap (λ (y : List ℕ). big_bytes 4 (8 + length payload) ++ y) (append_assoc kind.0 payload rest)
    ∙ sym (append_assoc (big_bytes 4 (8 + length payload)) kind.0 (payload ++ rest))))
    ∙ read_again (header_of kind (8 + length payload) 8) (big_bytes 4 (8 + length payload) ++ kind.0) (payload ++ rest) (head_is kind (8 + length payload) s.four s.other (omega arith) s.small)

pub moof_headed : (f : WrittenFragment) (seq : ℕ) → FitsFields f → IsHeaded moof (moof_size (length f.rows)) 8 (moof_box f seq)
unfolding moof_box
moof_headed f seq fits rest =
    header_read moof (in_moof f seq) (short_moof f seq fits) rest
    ∙ ap (λ (n : ℕ). Whole (header_of moof n 8)) (omega (arith, length_in_moof f seq))

pub moof_whole : (f : WrittenFragment) (seq : ℕ) → FitsFields f → IsWhole (moof_box f seq)
unfolding moof_box
moof_whole f seq fits = (header_of moof (8 + length (in_moof f seq)) 8, in_moof f seq, is_box moof (in_moof f seq) (short_moof f seq fits))

long_head : (bytes : ℕ) → bytes ≤ 2 ^ 62 → Head (header_of mdat (16 + bytes) 16) (big_bytes 4 1 ++ (mdat.0 ++ big_bytes 8 (16 + bytes)))
long_head bytes h = record {
  kind = refl;
  user = λ e. absurd (false≢true (sym refl ∙ (bytes_eq-Decides mdat.0 uuid).1 e));
  spelled = inr (sym (append-nil (big_bytes 4 1 ++ (mdat.0 ++ big_bytes 8 (16 + bytes)))), omega arith, omega arith);
  header_len = refl;
}

mdat_by : (t : Bool) (bytes : ℕ) → ltb (8 + bytes) (2 ^ 32) ≡ t → bytes ≤ 2 ^ 62 → IsHeaded mdat (cond t 8 16 + bytes) (cond t 8 16) (cond t (big_bytes 4 (8 + bytes) ++ mdat.0) (big_bytes 4 1 ++ (mdat.0 ++ big_bytes 8 (16 + bytes))))
mdat_by true bytes t h rest = read_again (header_of mdat (8 + bytes) 8) (big_bytes 4 (8 + bytes) ++ mdat.0) rest (head_is mdat (8 + bytes) refl refl (omega arith) (ltb-true _ _ t))
mdat_by false bytes t h rest = read_again (header_of mdat (16 + bytes) 16) (big_bytes 4 1 ++ (mdat.0 ++ big_bytes 8 (16 + bytes))) rest (long_head bytes h)

pub mdat_headed : (bytes : ℕ) → bytes ≤ 2 ^ 62 → IsHeaded mdat (mdat_header_size bytes + bytes) (mdat_header_size bytes) (mdat_header bytes)
unfolding mdat_header
mdat_headed bytes h = mdat_by (ltb (8 + bytes) (2 ^ 32)) bytes refl h

head_by : (t : Bool) (bytes : ℕ) → ltb (8 + bytes) (2 ^ 32) ≡ t → bytes ≤ 2 ^ 62 → Head (header_of mdat (cond t 8 16 + bytes) (cond t 8 16)) (cond t (big_bytes 4 (8 + bytes) ++ mdat.0) (big_bytes 4 1 ++ (mdat.0 ++ big_bytes 8 (16 + bytes))))
head_by true bytes t h = head_is mdat (8 + bytes) refl refl (omega arith) (ltb-true _ _ t)
head_by false bytes t h = long_head bytes h

mdat_head : (bytes : ℕ) → bytes ≤ 2 ^ 62 → Head (header_of mdat (mdat_header_size bytes + bytes) (mdat_header_size bytes)) (mdat_header bytes)
unfolding mdat_header
mdat_head bytes h = head_by (ltb (8 + bytes) (2 ^ 32)) bytes refl h

mdat_len_by : (t : Bool) (bytes : ℕ) → length (cond t (big_bytes 4 (8 + bytes) ++ mdat.0) (big_bytes 4 1 ++ (mdat.0 ++ big_bytes 8 (16 + bytes)))) ≡ cond t 8 16
mdat_len_by true bytes = refl
mdat_len_by false bytes = refl

pub length_mdat : (bytes : ℕ) → length (mdat_header bytes) ≡ mdat_header_size bytes
unfolding mdat_header
length_mdat bytes = mdat_len_by (ltb (8 + bytes) (2 ^ 32)) bytes

pub length_media : (media : List ℕ) → length (mdat_header (length media) ++ media) ≡ mdat_header_size (length media) + length media
length_media media = length-append (mdat_header (length media)) media ∙ ap (λ (n : ℕ). n + length media) (length_mdat (length media))

-- an mdat that is written is a whole box
pub mdat_is_box : (media : List ℕ) → length media ≤ 2 ^ 62 → IsBox (header_of mdat (mdat_header_size (length media) + length media) (mdat_header_size (length media))) media (mdat_header (length media) ++ media)
mdat_is_box media small = record {
  header_bytes = mdat_header (length media);
  spelled = mdat_head (length media) small;
  whole = refl;
  size = ap Exact (sym (length_media media));
}

-- ---- the moof

placed_one : (run : Run) (n end : ℕ) → run.place ≡ pos n → n + run.bytes ≡ end → place_fault (record { start = n; end = Some end }) (run ∷ []) ≡ None
placed_one run n end at last =
    let from : le_z (pos n) run.place ≡ true = le_to (pos n) run.place (omega (arith, ints, at)) in
    let to : le_z (run.place +ℤ pos run.bytes) (pos end) ≡ true = le_to (run.place +ℤ pos run.bytes) (pos end) (omega (arith, ints, at, last)) in
    let same : ltb run.offset run.offset ≡ false = le-ltb _ _ (omega arith) in
    by (run.count == 0) refl from to same
  where
    by : (t : Bool) → (run.count == 0) ≡ t → le_z (pos n) run.place ≡ true → le_z (run.place +ℤ pos run.bytes) (pos end) ≡ true → ltb run.offset run.offset ≡ false → place_fault (record { start = n; end = Some end }) (run ∷ []) ≡ None
    by true none from to same = rw none refl
    by false none from to same = rw (none, from, to, same) refl

settled_one : (tracks : List Track) (t : TrackFragment) (run : Run) → runs_of t ≡ run ∷ [] → settled tracks (t ∷ []) ≡ with_end t.shared.header.track run.end tracks
settled_one tracks t run e = ap (λ (rs : List Run). with_end t.shared.header.track (last_end t.time rs) tracks) e

same_timescale : (o : Option Track) (t u : Track) → o ≡ Some t → o ≡ Some u → t.timescale ≡ u.timescale
same_timescale o t u p q = let same : t ≡ u = cc in ap (λ (x : Track). x.timescale) same

pub is_read_as : (f : WrittenFragment) (seq o : ℕ) (tracks : List Track) → CanBeRead tracks f → IsReadAs tracks f (held_moof f seq o)
is_read_as f seq o tracks can =
    let h = held_moof f seq o in
    let t = can.track in
    let traf = traf_in h t f in
    let run = run_in h t f in
    let described = describes f seq o t can.fits in
    let trafs = trafs_back f seq o tracks t can.fits can.known in
    let runs = runs_back f seq o tracks t can.fits can.known in
    record {
      read = moof_is_good f seq o tracks t can.fits can.known can.low can.high;
      traf = traf;
      trafs = trafs;
      run = run;
      runs = one_run_back f seq o t;
      all = runs;
      taken = ap (taken_by listed_run) runs;
      describes = described;
      timescale = λ u there. timescale_back h t f ∙ same_timescale (track_with f.track tracks) t u can.known there;
      samples = sym (rows_are_samples h tracks) ∙ (ap (λ (rs : List Run). length (flat_map (λ (r : Run). rows_of r h.bytes) rs)) runs ∙ (ap length (append-nil (rows_of run h.bytes)) ∙ ap length described.rows));
      placed = placed_one run (o + data_offset f.rows) (o + data_offset f.rows + sizes f.rows) described.place (omega (arith, described.bytes));
      settled = ap (settled tracks) trafs ∙ (settled_one tracks traf run (one_run_back f seq o t) ∙ ap (λ (n : ℕ). with_end f.track n tracks) described.end);
    }

-- ---- the same fragment again

mk_fragment : ℕ → ℕ → ℕ → ℕ → List Row → WrittenFragment
mk_fragment track entry version time rows = record { track = track; entry = entry; version = version; time = time; rows = rows }

same_fragment : (a b c d k l m n : ℕ) (xs ys : List Row) → a ≡ k → b ≡ l → c ≡ m → d ≡ n → xs ≡ ys → mk_fragment a b c d xs ≡ mk_fragment k l m n ys
same_fragment a b c d k l m n xs ys p q r s t =
    ap (λ (x : ℕ). mk_fragment x b c d xs) p
    ∙ (ap (λ (x : ℕ). mk_fragment k x c d xs) q
    ∙ (ap (λ (x : ℕ). mk_fragment k l x d xs) r
    ∙ (ap (λ (x : ℕ). mk_fragment k l m x xs) s ∙ ap (mk_fragment k l m n) t)))

pub fragment_again : (f : WrittenFragment) (h : MoofBytes) (run : Run) → Describes f h run → written_fragment h.bytes run (piece_at (first_cursor run) f.rows) ≡ f
unfolding piece_at mk_fragment
fragment_again f h run t =
    same_fragment run.track run.entry run.version run.time f.track f.entry f.version f.time (take (length f.rows) (rows_of run h.bytes)) f.rows
    t.track t.entry t.version t.time (ap (take (length f.rows)) t.rows ∙ take_all (length f.rows) f.rows (omega arith))
