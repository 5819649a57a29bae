-- Only the code's own way; no public clause needs this.
-- The bytes of a moof and of an index before the fields of their samples or pieces.
use Rattle.std.specs.Prelude.{ℕ, List, ◌+◌, ◌*◌, ◌++◌}
use Rattle.byteorder.specs.Endian.{big_bytes}
use Rattle.mp4_traf.specs.declared.run.Run.{Run}
use Rattle.mp4_traf.specs.Kinds.{mfhd, traf, tfhd, tfdt, trun}
use Rattle.mp4_pieces.specs.declared.piece.Piece.{Piece}
use Rattle.mp4_pieces.specs.declared.plain.PlainPiece.{PlainPiece}
use Rattle.mp4_pieces.specs.Rooms.{moof}
use Rattle.mp4_pieces.specs.Sizes.{mdat_header_size, moof_size}
use Rattle.mp4_cut.specs.Boxes.{box_bytes, version_and_flags}
use Rattle.mp4_cut.specs.Mfhd.{mfhd_payload}
use Rattle.mp4_cut.specs.Tfhd.{tfhd_payload}
use Rattle.mp4_cut.specs.Tfdt.{tfdt_payload}
use Rattle.mp4_cut.specs.Trun.{trun_flags}
use Rattle.mp4_cut.specs.Sidx.{natural, sidx}

-- a trun of so many samples, before its samples
abbrev pub trun_front : ℕ → ℕ → ℕ → List ℕ
trun_front version samples data_offset =
    big_bytes 4 (20 + 16 * samples) ++ (trun.0 ++ (version_and_flags version trun_flags ++ (big_bytes 4 samples ++ big_bytes 4 data_offset)))

-- the moof of a piece, before its samples
unfoldable pub moof_front : Run → PlainPiece → ℕ → List ℕ
moof_front run piece sequence_number =
    big_bytes 4 (moof_size piece.count) ++ (moof.0 ++ (box_bytes mfhd (mfhd_payload sequence_number)
    ++ (big_bytes 4 (68 + 16 * piece.count) ++ (traf.0 ++ (box_bytes tfhd (tfhd_payload run.track run.entry)
    ++ (box_bytes tfdt (tfdt_payload piece.time)
    ++ trun_front run.version piece.count (moof_size piece.count + mdat_header_size piece.bytes)))))))

-- the index of so many pieces, of which this is the first, before its references
unfoldable pub index_front : Run → ℕ → Piece → ℕ → List ℕ
index_front run timescale first count =
    big_bytes 4 (40 + 12 * count) ++ (sidx.0 ++ (version_and_flags 1 0 ++ (big_bytes 4 run.track ++ (big_bytes 4 timescale
    ++ (big_bytes 8 (natural first.least) ++ (big_bytes 8 0
    ++ (big_bytes 2 0 ++ big_bytes 2 count)))))))
