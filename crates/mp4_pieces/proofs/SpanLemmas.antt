-- The bytes of a piece lie among those of its run.
use Rattle.std.proofs.Common.{◌≡◌, ◌+ℤ◌, ◌≤ℤ◌, ℕ, List, pos, ap, arith}
use Rattle.std.specs.Prelude.{drop, take}
use Rattle.std.proofs.lemmas.Int.{ints}
use Rattle.std.proofs.lemmas.List.Sums.{sum_by-take-drop, sum_by-take-le}
use Rattle.mp4_traf.specs.declared.rows.Row.{Row}
use Rattle.mp4_traf.specs.declared.run.Run.{Run}
use Rattle.mp4_traf.specs.Rows.{rows_of, sizes}
use Rattle.mp4_traf.specs.Runs.{end_place}
use Rattle.mp4_pieces.specs.declared.piece.Piece.{Piece}
use Rattle.mp4_pieces.specs.Pieces.{IsPieceOf, piece_at, rows_in}
use Rattle.mp4_traf.specs.Ranges.{IsRunOf}

module _ (moof_bytes : List ℕ) (run : Run) (p : Piece) (is : IsRunOf moof_bytes run) (of : IsPieceOf moof_bytes run p) where
  place_is : p.plain.place ≡ run.place +ℤ pos (sizes (take p.plain.first (rows_of run moof_bytes)))
  unfolding piece_at
  place_is = ap (λ (q : Piece). q.plain.place) of.is

  bytes_are : p.plain.bytes ≡ sizes (rows_in moof_bytes run p)
  unfolding piece_at
  bytes_are = ap (λ (q : Piece). q.plain.bytes) of.is

  pub piece_from : run.place ≤ℤ p.plain.place
  piece_from = omega (arith, ints, place_is)

  pub piece_to : (p.plain.place +ℤ pos p.plain.bytes) ≤ℤ end_place run
  piece_to =
      let first = sum_by-take-drop (λ (r : Row). r.size) (rows_of run moof_bytes) p.plain.first in
      let next = sum_by-take-le (λ (r : Row). r.size) (drop p.plain.first (rows_of run moof_bytes)) p.plain.count in
      omega (arith, ints, place_is, bytes_are, first, next, is.bytes)
