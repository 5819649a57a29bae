-- A movie fragment that is written, moof (ISO/IEC 14496-12, 8.8.4): mfhd, and one traf with tfhd, tfdt and trun.
use Rattle.std.specs.Prelude.{ℕ, List, ◌+◌, ◌++◌, length}
use Rattle.mp4_traf.specs.declared.rows.Row.{Row}
use Rattle.mp4_traf.specs.Kinds.{mfhd, traf, tfhd, tfdt, trun}
use Rattle.mp4_traf.specs.Rows.{sizes}
use Rattle.mp4_cut.specs.Boxes.{box_bytes}
use Rattle.mp4_cut.specs.Mfhd.{mfhd_payload}
use Rattle.mp4_cut.specs.Tfhd.{tfhd_payload}
use Rattle.mp4_cut.specs.Tfdt.{tfdt_payload}
use Rattle.mp4_cut.specs.Trun.{trun_payload}
use Rattle.mp4_traf.specs.declared.run.Run.{Run}
use Rattle.mp4_pieces.specs.declared.piece.Piece.{Piece}
use Rattle.mp4_pieces.specs.Pieces.{rows_in}
use Rattle.mp4_pieces.specs.Rooms.{moof}
use Rattle.mp4_pieces.specs.Sizes.{mdat_header_size, moof_size}

-- what a fragment is written from: its track_ID, the index of its sample entry, the version of its trun, the decode time of its first sample, and its rows
pub record WrittenFragment : Type 0 where
  pub track : ℕ
  pub entry : ℕ
  pub version : ℕ
  pub time : ℕ
  pub rows : List Row

-- the media follow the moof and the header of its mdat
abbrev pub data_offset : List Row → ℕ
data_offset rows = moof_size (length rows) + mdat_header_size (sizes rows)

abbrev pub in_traf : WrittenFragment → List ℕ
in_traf f =
    box_bytes tfhd (tfhd_payload f.track f.entry)
    ++ (box_bytes tfdt (tfdt_payload f.time) ++ box_bytes trun (trun_payload f.version (data_offset f.rows) f.rows))

-- in it an mfhd, and a traf
abbrev pub in_moof : WrittenFragment → ℕ → List ℕ
in_moof f sequence_number = box_bytes mfhd (mfhd_payload sequence_number) ++ box_bytes traf (in_traf f)

-- the moof of a fragment with this number
unfoldable pub moof_box : WrittenFragment → ℕ → List ℕ
moof_box f sequence_number = box_bytes moof (in_moof f sequence_number)

-- ---- what is written for a piece of a run

-- the fragment of a piece has its rows, and what all rows of its run share
abbrev pub written_fragment : List ℕ → Run → Piece → WrittenFragment
written_fragment moof_bytes run piece = record { track = run.track; entry = run.entry; version = run.version; time = piece.plain.time; rows = rows_in moof_bytes run piece }

-- the moof of a piece
abbrev pub written_moof : Piece → Run → List ℕ → ℕ → List ℕ
written_moof piece run moof_bytes sequence_number = moof_box (written_fragment moof_bytes run piece) sequence_number
