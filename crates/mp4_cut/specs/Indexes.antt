-- What is read in a segment index, sidx (ISO/IEC 14496-12, 8.16.3), and what it must say of the pieces that it is written for.
use Rattle.std.specs.Prelude.{◌≡◌, ◌+◌, ◌≤◌, ℕ, zero, suc, pos, List, [], ◌∷◌, length, map, drop}
use Rattle.std.specs.List.{AllByRecursion}
use Rattle.byteorder.specs.Endian.{big_number}
use Rattle.mp4_box.specs.Fields.{long_number_in, number_in, version_in}
use Rattle.mp4_traf.specs.CompositionTimes.{composition_times, least_of}
use Rattle.mp4_traf.specs.declared.run.Run.{Run}
use Rattle.mp4_traf.specs.Rows.{durations, sizes}
use Rattle.mp4_pieces.specs.declared.piece.Piece.{Piece}
use Rattle.mp4_pieces.specs.Fits.{FitsReference, FitsTime}
use Rattle.mp4_pieces.specs.Groups.{group_length}
use Rattle.mp4_pieces.specs.Pieces.{IsPieceOf, rows_in}
use Rattle.mp4_cut.specs.Mdat.{mdat_header}
use Rattle.mp4_cut.specs.Moof.{written_moof}

-- ---- the fields of a sidx of version 1

-- one reference of an index: referenced_size, which has 31 bits after the bit reference_type (0: media),
-- subsegment_duration, and the 32 bits about access points
pub record Reference : Type 0 where
  pub size : ℕ
  pub duration : ℕ
  pub access : ℕ

-- the fields of an index: version, flags, reference_ID, timescale, earliest_presentation_time, first_offset, the reserved 16
-- bits and references
pub record Index : Type 0 where
  pub version : ℕ
  pub flags : ℕ
  pub track : ℕ
  pub timescale : ℕ
  pub earliest : ℕ
  pub first_offset : ℕ
  pub reserved : ℕ
  pub references : List Reference

-- so many references of 12 bytes each
abbrev pub references_in : ℕ → List ℕ → List Reference
references_in zero b = []
references_in (suc n) b = record { size = big_number 4 b; duration = big_number 4 (drop 4 b); access = big_number 4 (drop 8 b) } ∷ references_in n (drop 12 b)

-- the fields in the payload of a sidx of version 1: flags at 1, reference_ID at 4, timescale at 8,
-- earliest_presentation_time at 12, first_offset at 20, reserved at 28, reference_count at 30, and the references from 32 on
abbrev pub index_in : List ℕ → Index
index_in p = record {
  version = version_in p;
  flags = big_number 3 (drop 1 p);
  track = number_in p 4;
  timescale = number_in p 8;
  earliest = long_number_in p 12;
  first_offset = long_number_in p 20;
  reserved = big_number 2 (drop 28 p);
  references = references_in (big_number 2 (drop 30 p)) (drop 32 p);
}

-- ---- requirements of an index

-- an index has room for these pieces of a run
pub record CanBeIndexed (moof_bytes : List ℕ) (run : Run) (p : Piece) (ps : List Piece) : Type 0 where
  pub few : length (p ∷ ps) ≤ group_length
  pub time : FitsTime p.least
  pub pieces : AllByRecursion (IsPieceOf moof_bytes run) (p ∷ ps)
  pub references : AllByRecursion FitsReference (p ∷ ps)

-- requirements of a reference to a piece, whose moof has this sequence_number: how many bytes its moof and its mdat
-- have, and the sum of the durations of its samples
abbrev pub reference_to : List ℕ → Run → ℕ → Piece → Reference
reference_to moof_bytes run sequence_number p = record {
  size = length (written_moof p run moof_bytes sequence_number) + (length (mdat_header (sizes (rows_in moof_bytes run p))) + sizes (rows_in moof_bytes run p));
  duration = durations (rows_in moof_bytes run p);
  access = 0;
}

-- the index says so of these pieces, which directly follow it, with the timescale that was given.
-- Its earliest time is the least composition time of the samples of the first
pub record IsIndexReadAs (moof_bytes : List ℕ) (run : Run) (given sequence_number : ℕ) (p : Piece) (ps : List Piece) (x : Index) : Type 0 where
  pub version : x.version ≡ 1
  pub flags : x.flags ≡ 0
  pub track : x.track ≡ run.track
  pub timescale : x.timescale ≡ given
  pub earliest : pos x.earliest ≡ least_of (composition_times p.plain.time (rows_in moof_bytes run p))
  pub offset : x.first_offset ≡ 0
  pub reserved : x.reserved ≡ 0
  pub references : x.references ≡ map (reference_to moof_bytes run sequence_number) (p ∷ ps)
