-- When there is room for the numbers of the pieces of a moof, without faults: exactly where there is no fault of specs/Rooms.antt.
use Rattle.std.specs.Prelude.{◌≡◌, ◌<◌, ◌^◌, ◌≤ℤ◌, ◌<ℤ◌, ℕ, ℤ, pos, true, List, [], ◌∷◌}
use Rattle.std.specs.List.{AllByRecursion}
use Rattle.mp4_traf.specs.declared.run.Run.{Run}
use Rattle.mp4_traf.specs.Runs.{MoofBytes}
use Rattle.mp4_pieces.specs.declared.cut.Cut.{Cut}
use Rattle.mp4_pieces.specs.declared.piece.Piece.{Piece}
use Rattle.mp4_pieces.specs.Groups.{groups}
use Rattle.mp4_pieces.specs.Pieces.{piece_count, pieces_of}
use Rattle.mp4_pieces.specs.Rooms.{numbers}
use Rattle.mp4_pieces.specs.Sizes.{fragment_size}

-- a reference has room for a piece: its moof and its mdat, and its duration
pub record FitsReference (p : Piece) : Type 0 where
  pub size : fragment_size p < 2 ^ 31
  pub duration : p.plain.duration < 2 ^ 32

-- an index has room for an earliest time
pub record FitsTime (z : ℤ) : Type 0 where
  pub low : pos 0 ≤ℤ z
  pub high : z <ℤ pos (2 ^ 64)

-- an index has room for the time of a group: the least of its first piece
abbrev pub BeginsInTime : List Piece → Type 0
BeginsInTime [] = Unit {0}
BeginsInTime (p ∷ ps) = FitsTime p.least

-- the indexes of a run have room for its pieces
pub record FitsIndex (ps : List Piece) : Type 0 where
  pub times : AllByRecursion BeginsInTime (groups ps)
  pub references : AllByRecursion FitsReference ps

-- the indexes of all runs have room, where they are asked for; and each piece has a number of 32 bits
pub record HasRoomFor (cut : Cut) (h : MoofBytes) (runs : List Run) (seq : ℕ) : Type 0 where
  pub indexes : cut.index ≡ true → AllByRecursion (λ run. FitsIndex (pieces_of cut h.bytes run)) runs
  pub numbers : AllByRecursion (λ n. n < 2 ^ 32) (numbers seq (piece_count cut h.bytes runs))
