-- A group of pieces for which an index is written, by its first piece and its length.
use Rattle.std.specs.Prelude.{◌≡◌, ℕ, List, length, take, Some}
use Rattle.std.specs.List.{AllByRecursion}
use Rattle.mp4_box.specs.Trees.{first_of}
use Rattle.mp4_traf.specs.declared.run.Run.{Run}
use Rattle.mp4_traf.specs.Rows.{IsCursor}
use Rattle.mp4_pieces.specs.declared.cut.Cut.{Cut}
use Rattle.mp4_pieces.specs.declared.piece.Piece.{Piece}
use Rattle.mp4_pieces.specs.Pieces.{pieces_from}
use Rattle.mp4_pieces.specs.PlainPieces.{plain_start}
use Rattle.mp4_pieces.specs.Fits.{FitsReference, FitsTime}

-- so many pieces of a run as it is cut, from this one on
abbrev pub group_from : Cut → List ℕ → Run → Piece → ℕ → List Piece
group_from cut moof_bytes run first count = take count (pieces_from cut moof_bytes run (plain_start first.plain))

-- there are so many, this is the first of them, and an index has room for them
pub record IsGroup (cut : Cut) (moof_bytes : List ℕ) (run : Run) (first : Piece) (count : ℕ) : Type 0 where
  pub cursor : IsCursor run moof_bytes (plain_start first.plain)
  pub begins : first_of (group_from cut moof_bytes run first count) ≡ Some first
  pub all : length (group_from cut moof_bytes run first count) ≡ count
  pub time : FitsTime first.least
  pub references : AllByRecursion FitsReference (group_from cut moof_bytes run first count)

-- these pieces are such a group
pub record IsGroupOf (cut : Cut) (moof_bytes : List ℕ) (run : Run) (group : List Piece) : Type 0 where
  pub first : Piece
  pub begins : first_of group ≡ Some first
  pub is : IsGroup cut moof_bytes run first (length group)
  pub same : group_from cut moof_bytes run first (length group) ≡ group
