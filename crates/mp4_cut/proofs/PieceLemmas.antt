-- The moof of a piece is its front and the fields of its samples.
use Rattle.std.proofs.Common.{◌≡◌, ℕ, ◌+◌, ◌*◌, List, ◌∷◌, ◌++◌, append-nil, length, drop, sym, ap, ◌∙◌, arith}
use Rattle.std.specs.Prelude.{take}
use Rattle.std.specs.List.{flat_map}
use Rattle.byteorder.specs.Endian.{big_bytes}
use Rattle.mp4_traf.specs.declared.run.Run.{Run}
use Rattle.mp4_traf.specs.declared.rows.Row.{Row}
use Rattle.mp4_traf.specs.declared.rows.Cursor.{Cursor}
use Rattle.mp4_traf.specs.Kinds.{mfhd, traf, tfhd, tfdt, trun}
use Rattle.mp4_traf.specs.Rows.{IsCursor, row_of, rows_after, rows_of, sizes}
use Rattle.mp4_traf.proofs.RowLemmas.{rows_dropped, rows_next}
use Rattle.mp4_pieces.specs.declared.piece.Piece.{Piece}
use Rattle.mp4_pieces.specs.declared.plain.PlainPiece.{PlainPiece}
use Rattle.mp4_pieces.specs.Pieces.{IsPieceOf, piece_at, rows_in}
use Rattle.mp4_pieces.specs.PlainPieces.{piece_of, plain_start}
use Rattle.mp4_pieces.specs.Rooms.{moof}
use Rattle.mp4_pieces.specs.Sizes.{mdat_header_size, moof_size}
use Rattle.mp4_cut.specs.Boxes.{box_bytes, version_and_flags}
use Rattle.mp4_cut.specs.Mfhd.{mfhd_payload}
use Rattle.mp4_cut.specs.Tfhd.{tfhd_payload}
use Rattle.mp4_cut.specs.Tfdt.{tfdt_payload}
use Rattle.mp4_cut.specs.Trun.{sample_bytes, trun_flags}
use Rattle.mp4_cut.specs.Implementation.Fronts.{moof_front}
use Rattle.mp4_cut.specs.Moof.{data_offset, written_fragment, in_moof, in_traf, written_moof}
use Rattle.mp4_cut.proofs.MoofLemmas.{length_in_moof, length_traf, length_trun, trun_of}
use Rattle.mp4_cut.proofs.RunLemmas.{moof_is_front}

pub start_is : (moof_bytes : List ℕ) (run : Run) (p : Piece) → IsPieceOf moof_bytes run p → IsCursor run moof_bytes (plain_start p.plain)
unfolding piece_at
start_is moof_bytes run p is = record {
  row = omega (arith, is.within);
  time = ap (λ (q : Piece). q.plain.time) is.is;
  place = ap (λ (q : Piece). q.plain.place) is.is;
}

pub count_is : (moof_bytes : List ℕ) (run : Run) (p : Piece) → IsPieceOf moof_bytes run p → length (rows_in moof_bytes run p) ≡ p.plain.count
unfolding piece_at
count_is moof_bytes run p is = sym (ap (λ (q : Piece). q.plain.count) is.is)

pub bytes_are : (moof_bytes : List ℕ) (run : Run) (p : Piece) → IsPieceOf moof_bytes run p → sizes (rows_in moof_bytes run p) ≡ p.plain.bytes
unfolding piece_at
bytes_are moof_bytes run p is = sym (ap (λ (q : Piece). q.plain.bytes) is.is)

-- a front by the numbers in it
abbrev front_by : Run → PlainPiece → ℕ → ℕ → ℕ → ℕ → ℕ → ℕ → List ℕ
front_by run piece seq moof_box_bytes traf_bytes trun_bytes count offset =
    big_bytes 4 moof_box_bytes ++ (moof.0 ++ (box_bytes mfhd (mfhd_payload seq)
    ++ (big_bytes 4 traf_bytes ++ (traf.0 ++ (box_bytes tfhd (tfhd_payload run.track run.entry)
    ++ (box_bytes tfdt (tfdt_payload piece.time)
    ++ (big_bytes 4 trun_bytes ++ (trun.0 ++ (version_and_flags run.version trun_flags ++ (big_bytes 4 count ++ big_bytes 4 offset))))))))))

same_front : (run : Run) (piece : PlainPiece) (seq a b c d e k l m n o : ℕ) → a ≡ k → b ≡ l → c ≡ m → d ≡ n → e ≡ o → front_by run piece seq a b c d e ≡ front_by run piece seq k l m n o
same_front run piece seq a b c d e k l m n o p q r s t =
    ap (λ (x : ℕ). front_by run piece seq x b c d e) p
    ∙ (ap (λ (x : ℕ). front_by run piece seq k x c d e) q
    ∙ (ap (λ (x : ℕ). front_by run piece seq k l x d e) r
    ∙ (ap (λ (x : ℕ). front_by run piece seq k l m x e) s ∙ ap (λ (x : ℕ). front_by run piece seq k l m n x) t)))

pub front_is : (moof_bytes : List ℕ) (run : Run) (p : PlainPiece) (seq : ℕ) → IsPieceOf moof_bytes run (piece_of moof_bytes run p) → written_moof (piece_of moof_bytes run p) run moof_bytes seq ≡ moof_front run p seq ++ flat_map sample_bytes (rows_in moof_bytes run (piece_of moof_bytes run p))
unfolding moof_front
front_is moof_bytes run p seq is =
    let whole : Piece = piece_of moof_bytes run p in
    let f = written_fragment moof_bytes run whole in
    let count : length (rows_in moof_bytes run whole) ≡ p.count = count_is moof_bytes run whole is in
    moof_is_front f seq
    ∙ ap (λ (x : List ℕ). x ++ flat_map sample_bytes (rows_in moof_bytes run whole))
    (same_front run p seq (8 + length (in_moof f seq)) (8 + length (in_traf f)) (8 + length (trun_of f)) (length f.rows) (data_offset f.rows)
    (moof_size p.count) (68 + 16 * p.count) (20 + 16 * p.count) p.count (moof_size p.count + mdat_header_size p.bytes)
    (omega (arith, length_in_moof f seq, count)) (omega (arith, length_traf f, count)) (omega (arith, length_trun f, count)) count
    (ap (λ (n : ℕ). moof_size n + mdat_header_size (sizes f.rows)) count ∙ ap (λ (n : ℕ). moof_size p.count + mdat_header_size n) (bytes_are moof_bytes run whole is)))

-- what is put for a piece, one after the other
pub moof_is_put : (moof_bytes : List ℕ) (run : Run) (p : PlainPiece) (seq : ℕ) (slice front : List ℕ) (at : Cursor) (rows : List Row) → IsPieceOf moof_bytes run (piece_of moof_bytes run p) → slice ≡ front → front ≡ moof_front run p seq → at ≡ plain_start p → rows ≡ drop at.row (rows_of run moof_bytes)
    → slice ++ flat_map sample_bytes (take p.count rows) ≡ written_moof (piece_of moof_bytes run p) run moof_bytes seq
moof_is_put moof_bytes run p seq slice front at rows is a b c d =
    let same : rows ≡ drop p.first (rows_of run moof_bytes) = d ∙ ap (λ (k : Cursor). drop k.row (rows_of run moof_bytes)) c in
    ap (λ (x : List ℕ). x ++ flat_map sample_bytes (take p.count rows)) (a ∙ b)
    ∙ (ap (λ (rs : List Row). moof_front run p seq ++ flat_map sample_bytes (take p.count rs)) same ∙ sym (front_is moof_bytes run p seq is))

-- a piece of one sample has its fields alone
pub one_sample : (moof_bytes : List ℕ) (run : Run) (p : PlainPiece) (row : Row) → IsPieceOf moof_bytes run (piece_of moof_bytes run p) → p.count ≡ 1 → row ≡ row_of run moof_bytes p.first → sample_bytes row ≡ flat_map sample_bytes (rows_in moof_bytes run (piece_of moof_bytes run p))
one_sample moof_bytes run p row is one e =
    let within = is.within in
    let some = is.some in
    let first : drop p.first (rows_of run moof_bytes) ≡ row_of run moof_bytes p.first ∷ rows_after run moof_bytes (p.first + 1) =
    sym (rows_dropped run moof_bytes p.first (omega (arith, within))) ∙ rows_next run moof_bytes p.first (omega (arith, within, some)) in
    ap sample_bytes e
    ∙ sym (append-nil (sample_bytes (row_of run moof_bytes p.first)))
    ∙ ap (λ (rows : List Row). flat_map sample_bytes (take 1 rows)) (sym first)
    ∙ ap (λ (n : ℕ). flat_map sample_bytes (take n (drop p.first (rows_of run moof_bytes)))) (sym one)
