-- The index of segments, sidx (ISO/IEC 14496-12, 8.16.3): one for a group of pieces of a run.
use Rattle.std.specs.Prelude.{ℕ, ℤ, pos, negsuc, List, [], ◌∷◌, ◌++◌, codes, length}
use Rattle.std.specs.List.{flat_map}
use Rattle.byteorder.specs.Endian.{big_bytes}
use Rattle.mp4_box.specs.declared.headers.FourCc.{FourCc}
use Rattle.mp4_init.specs.Kinds.{kind}
use Rattle.mp4_traf.specs.declared.run.Run.{Run}
use Rattle.mp4_pieces.specs.declared.piece.Piece.{Piece}
use Rattle.mp4_pieces.specs.Sizes.{fragment_size}
use Rattle.mp4_cut.specs.Boxes.{box_bytes, version_and_flags}

abbrev pub sidx : FourCc
sidx = kind (codes "sidx")

-- a number that isn't below 0
abbrev pub natural : ℤ → ℕ
natural (pos n) = n
natural (negsuc n) = 0

-- earliest_presentation_time: the least composition time of the first piece
abbrev pub earliest : List Piece → ℕ
earliest [] = 0
earliest (piece ∷ pieces) = natural piece.least

-- a reference to a piece: reference_type 0 (1 bit) with referenced_size (31 bits), that of its moof and its mdat;
-- subsegment_duration (32 bits), its durations added up; starts_with_SAP, SAP_type and SAP_delta_time 0 (1, 3, 28
-- bits)
abbrev pub reference_bytes : Piece → List ℕ
reference_bytes piece = big_bytes 4 (fragment_size piece) ++ (big_bytes 4 piece.plain.duration ++ big_bytes 4 0)

-- reference_ID and timescale (32 bits each), earliest_presentation_time and first_offset 0 (64 bits each at version
-- 1), reserved 0 and reference_count (16 bits each), and the references
abbrev pub sidx_payload : ℕ → ℕ → List Piece → List ℕ
sidx_payload reference_id timescale pieces =
    version_and_flags 1 0 ++ (big_bytes 4 reference_id ++ (big_bytes 4 timescale
    ++ (big_bytes 8 (earliest pieces) ++ (big_bytes 8 0
    ++ (big_bytes 2 0 ++ (big_bytes 2 (length pieces) ++ flat_map reference_bytes pieces))))))

-- the index of a group of pieces of a run
unfoldable pub written_index : Run → ℕ → List Piece → List ℕ
written_index run timescale pieces = box_bytes sidx (sidx_payload run.track timescale pieces)
