-- How many bytes a piece has when it is written: its moof (ISO/IEC 14496-12, 8.8.4) and its mdat (8.1.1).
use Rattle.std.specs.Prelude.{◌+◌, ◌*◌, ◌^◌, ℕ, nat_lt, if◌then◌else◌}
use Rattle.mp4_pieces.specs.declared.piece.Piece.{Piece}

-- a moof of n samples: 92 bytes, and for each sample four fields of 4
abbrev pub moof_size : ℕ → ℕ
moof_size n = 92 + 16 * n

-- the header of an mdat with so many bytes of media: with a size of 64 bits where 32 have no room for it
abbrev pub mdat_header_size : ℕ → ℕ
mdat_header_size bytes = if nat_lt (8 + bytes) (2 ^ 32) then 8 else 16

-- the moof and the mdat of a piece
abbrev pub fragment_size : Piece → ℕ
fragment_size p = moof_size p.plain.count + (mdat_header_size p.plain.bytes + p.plain.bytes)
