-- Pieces without the least composition time of their samples, which only an index needs.
use Rattle.std.specs.Prelude.{◌+◌, ◌<◌, ◌^◌, ◌+ℤ◌, ◌<ℤ◌, ℕ, pos, List, take, drop}
use Rattle.mp4_traf.specs.CompositionTimes.{composition_times, least_of}
use Rattle.mp4_traf.specs.declared.run.Run.{Run}
use Rattle.mp4_traf.specs.declared.rows.Cursor.{Cursor}
use Rattle.mp4_traf.specs.Rows.{rows_of}
use Rattle.mp4_pieces.specs.declared.piece.Piece.{Piece}
use Rattle.mp4_pieces.specs.declared.plain.PlainPiece.{PlainPiece}

-- the piece of a run with these numbers
abbrev pub piece_of : List ℕ → Run → PlainPiece → Piece
piece_of moof_bytes run p = record { plain = p; least = least_of (composition_times p.time (take p.count (drop p.first (rows_of run moof_bytes)))) }

-- the cursors before its first sample, and after its last
abbrev pub plain_start : PlainPiece → Cursor
plain_start p = record { row = p.first; time = p.time; place = p.place }

abbrev pub plain_end : PlainPiece → Cursor
plain_end p = record { row = p.first + p.count; time = p.time + p.duration; place = p.place +ℤ pos p.bytes }

-- the numbers of the cursor after it fit their types
pub record EndsInRange (p : PlainPiece) : Type 0 where
  pub row : p.first + p.count < 2 ^ 32
  pub time : p.time + p.duration < 2 ^ 64
  pub place : (p.place +ℤ pos p.bytes) <ℤ pos (2 ^ 63)

-- the piece from a cursor on that has so many samples, with these sums
abbrev pub plain_at : Cursor → (count bytes duration : ℕ) → PlainPiece
plain_at c count bytes duration = record { first = c.row; count = count; time = c.time; place = c.place; bytes = bytes; duration = duration }
