-- The pieces of a run, with the sums over their samples.
use Rattle.std.specs.Prelude.{◌≡◌, ◌<◌, ◌≤◌, ◌+◌, ◌+ℤ◌, ℕ, pos, List, [], ◌∷◌, length, take, drop}
use Rattle.std.specs.List.{sum_by}
use Rattle.mp4_traf.specs.declared.run.Run.{Run}
use Rattle.mp4_traf.specs.declared.rows.Row.{Row}
use Rattle.mp4_traf.specs.declared.rows.Cursor.{Cursor}
use Rattle.mp4_traf.specs.CompositionTimes.{composition_times, least_of}
use Rattle.mp4_traf.specs.Cursors.{first_cursor}
use Rattle.mp4_traf.specs.Rows.{durations, rows_of, sizes}
use Rattle.mp4_pieces.specs.declared.cut.Cut.{Cut}
use Rattle.mp4_pieces.specs.declared.piece.Piece.{Piece}
use Rattle.mp4_pieces.specs.Cutting.{cut_by}
use Rattle.mp4_pieces.specs.Fitting.{cut_for, fits}
use Rattle.mp4_pieces.specs.PlainPieces.{plain_at}

-- the piece with these samples, from a cursor on
unfoldable pub piece_at : Cursor → List Row → Piece
piece_at c rows = record { plain = plain_at c (length rows) (sizes rows) (durations rows); least = least_of (composition_times c.time rows) }

-- the cursor after these samples
abbrev pub past_rows : Cursor → List Row → Cursor
past_rows c rows = record { row = c.row + length rows; time = c.time + durations rows; place = c.place +ℤ pos (sizes rows) }

-- the pieces with these lists of samples, one after the other
unfoldable pub pieces_at : Cursor → List (List Row) → List Piece
pieces_at c [] = []
pieces_at c (rows ∷ rest) = piece_at c rows ∷ pieces_at (past_rows c rows) rest

-- how samples are cut
abbrev pub cut_rows : Cut → List Row → List (List Row)
cut_rows cut rows = cut_by (fits cut) rows

-- the pieces of a run from a cursor on, by the cut for its timescale
abbrev pub pieces_from : Cut → List ℕ → Run → Cursor → List Piece
pieces_from cut moof_bytes run c = pieces_at c (cut_rows (cut_for run.timescale cut) (drop c.row (rows_of run moof_bytes)))

-- the pieces of a run
abbrev pub pieces_of : Cut → List ℕ → Run → List Piece
pieces_of cut moof_bytes run = pieces_from cut moof_bytes run (first_cursor run)

-- how many pieces these runs have
abbrev pub piece_count : Cut → List ℕ → List Run → ℕ
piece_count cut moof_bytes runs = sum_by (λ run. length (pieces_of cut moof_bytes run)) runs

-- ---- a piece of a run, however it is cut

-- the cursor before row i of a run
abbrev pub cursor_at : List ℕ → Run → ℕ → Cursor
cursor_at moof_bytes run i = past_rows (first_cursor run) (take i (rows_of run moof_bytes))

-- the samples of a piece
abbrev pub rows_in : List ℕ → Run → Piece → List Row
rows_in moof_bytes run p = take p.plain.count (drop p.plain.first (rows_of run moof_bytes))

-- the piece has samples of the run, and their sums
pub record IsPieceOf (moof_bytes : List ℕ) (run : Run) (p : Piece) : Type 0 where
  pub some : 0 < p.plain.count
  pub within : p.plain.first + p.plain.count ≤ run.count
  pub is : p ≡ piece_at (cursor_at moof_bytes run p.plain.first) (rows_in moof_bytes run p)
