-- Definitions that only the laws need.
use Rattle.std.specs.Prelude.{◌≡◌, ◌⊎◌, ◌≤◌, ℕ, List, [], ◌∷◌, Some, drop, false, length, true}
use Rattle.std.specs.List.{AllByRecursion}
use Rattle.mp4_traf.specs.declared.run.Run.{Run}
use Rattle.mp4_traf.specs.Rows.{IsCursor, durations, sizes}
use Rattle.mp4_traf.specs.SyncSamples.{is_sync}
use Rattle.mp4_traf.specs.declared.rows.Row.{Row}
use Rattle.mp4_pieces.specs.declared.cut.Cut.{Cut}
use Rattle.mp4_pieces.specs.declared.piece.Piece.{Piece}
use Rattle.mp4_pieces.specs.Pieces.{IsPieceOf, pieces_from}
use Rattle.mp4_pieces.specs.PlainPieces.{plain_end}

-- p is a piece of the run, and after it there is a cursor, from which on the run has the pieces ps
pub record IsFollowedBy (cut : Cut) (moof_bytes : List ℕ) (run : Run) (p : Piece) (ps : List Piece) : Type 0 where
  pub piece : IsPieceOf moof_bytes run p
  pub cursor : IsCursor run moof_bytes (plain_end p.plain)
  pub rest : pieces_from cut moof_bytes run (plain_end p.plain) ≡ ps

-- each sync sample but the first of these follows one
abbrev pub EachFollowsSync : List Row → Type 0
EachFollowsSync [] = Unit {0}
EachFollowsSync (a ∷ []) = Unit {0}
EachFollowsSync (a ∷ b ∷ rows) = (is_sync b.flags ≡ true → is_sync a.flags ≡ true) × EachFollowsSync (b ∷ rows)

-- samples may be one piece: they are at most as many as are allowed, they have at most so many bytes and last at most so many
-- ticks or are one sample, none but the first is a sync sample where a piece ends before each, and each sync sample but the
-- first follows one where a piece ends before each that doesn't
pub record MayBeOnePiece (cut : Cut) (rows : List Row) : Type 0 where
  pub samples : length rows ≤ cut.samples
  pub bytes : (most : ℕ) → cut.bytes ≡ Some most → (length rows ≤ 1) ⊎ (sizes rows ≤ most)
  pub ticks : (most : ℕ) → cut.ticks ≡ Some most → (length rows ≤ 1) ⊎ (durations rows ≤ most)
  pub sync : cut.sync ≡ true → AllByRecursion (λ row. is_sync row.flags ≡ false) (drop 1 rows)
  pub keyframes : cut.keyframes ≡ true → EachFollowsSync rows
