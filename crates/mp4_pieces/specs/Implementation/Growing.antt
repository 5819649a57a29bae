-- Only the code's own way; no public clause needs this.
-- Pieces of some rows, row by row: a piece grows until a row doesn't fit in it.
use Rattle.std.specs.Prelude.{◌<◌, ◌+◌, ◌^◌, ◌+ℤ◌, ◌≤ℤ◌, ◌<ℤ◌, ℕ, pos, Bool, true, not, ◌&&◌, ◌||◌, nat_lt, nat_le, if◌then◌else◌, List, [], ◌∷◌, length, Option, Some, None}
use Rattle.std.specs.Int.{int_min}
use Rattle.mp4_traf.specs.declared.rows.Row.{Row}
use Rattle.mp4_traf.specs.declared.rows.Cursor.{Cursor}
use Rattle.mp4_traf.specs.Rows.{durations, sizes}
use Rattle.mp4_pieces.specs.declared.cut.Cut.{Cut}
use Rattle.mp4_pieces.specs.declared.piece.Piece.{Piece}
use Rattle.mp4_traf.specs.SyncSamples.{is_sync}
use Rattle.mp4_pieces.specs.PlainPieces.{plain_at, plain_end}

-- the piece of one row, from a cursor on
unfoldable pub opened : Cursor → Row → Piece
opened c row = record { plain = plain_at c 1 row.size row.duration; least = pos c.time +ℤ row.offset }

-- the piece with one row more
unfoldable pub with_row : Piece → Row → Piece
with_row p row = record {
  plain = record p.plain { count = p.plain.count + 1; bytes = p.plain.bytes + row.size; duration = p.plain.duration + row.duration };
  least = int_min p.least (pos (p.plain.time + p.plain.duration) +ℤ row.offset);
}

-- the bytes of one more row fit in it
abbrev pub has_bytes : Option ℕ → Piece → Row → Bool
has_bytes None p row = true
has_bytes (Some most) p row = nat_le (p.plain.bytes + row.size) most

-- the ticks of one more row fit in it
abbrev pub has_ticks : Option ℕ → Piece → Row → Bool
has_ticks None p row = true
has_ticks (Some most) p row = nat_le (p.plain.duration + row.duration) most

-- one more row fits in it; `last` says whether its last row is a sync sample
unfoldable pub takes : Cut → Piece → (last : Bool) → Row → Bool
takes cut p last row = nat_lt p.plain.count cut.samples && (has_bytes cut.bytes p row && (has_ticks cut.ticks p row && ((not cut.sync || not (is_sync row.flags)) && (not cut.keyframes || (last || not (is_sync row.flags))))))

-- pieces of these rows, if the next piece so far is this one
unfoldable pub grown : Cut → Piece → (last : Bool) → List Row → List Piece
grown cut p last [] = p ∷ []
grown cut p last (row ∷ rows) =
    if takes cut p last row then grown cut (with_row p row) (is_sync row.flags) rows else p ∷ grown cut (opened (plain_end p.plain) row) (is_sync row.flags) rows

-- the pieces of these rows, from a cursor on
unfoldable pub pieces_left : Cut → Cursor → List Row → List Piece
pieces_left cut c [] = []
pieces_left cut c (row ∷ rows) = grown cut (opened c row) (is_sync row.flags) rows

-- the numbers of these rows fit their types, from a piece on
pub record Grows (p : Piece) (rows : List Row) : Type 0 where
  pub row : p.plain.first + p.plain.count + length rows < 2 ^ 32
  pub time : p.plain.time + p.plain.duration + durations rows < 2 ^ 64
  pub low : pos 0 ≤ℤ (p.plain.place +ℤ pos (2 ^ 31))
  pub high : (p.plain.place +ℤ pos (p.plain.bytes + sizes rows)) <ℤ pos (2 ^ 63)
