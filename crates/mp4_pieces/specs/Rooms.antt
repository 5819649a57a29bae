-- Numbers for which there is no room: in the fields of an index (the rule IndexRange), and the sequence number of a moof (the rule SequenceEnd).
use Rattle.std.specs.Prelude.{◌-◌, ◌^◌, ℕ, pos, Bool, false, ◌&&◌, ◌||◌, nat_lt, if◌then◌else◌, List, [], ◌∷◌, ◌++◌, codes, Option, Some}
use Rattle.std.specs.List.{flat_map, list_any, range_with_len}
use Rattle.std.specs.Int.Signed.{lt_z}
use Rattle.mp4_box.specs.declared.headers.FourCc.{FourCc}
use Rattle.mp4_box.specs.Order.{least}
use Rattle.mp4_box.specs.declared.rules.Fault.{Fault}
use Rattle.mp4_box.specs.declared.rules.Rule.TheVariants.{IndexRange, SequenceEnd}
use Rattle.mp4_init.specs.Kinds.{kind}
use Rattle.mp4_traf.specs.declared.run.Run.{Run}
use Rattle.mp4_traf.specs.Kinds.{trun}
use Rattle.mp4_traf.specs.Runs.{MoofBytes}
use Rattle.mp4_pieces.specs.declared.cut.Cut.{Cut}
use Rattle.mp4_pieces.specs.declared.piece.Piece.{Piece}
use Rattle.mp4_pieces.specs.Groups.{groups}
use Rattle.mp4_pieces.specs.Pieces.{piece_count, pieces_of}
use Rattle.mp4_pieces.specs.Sizes.{fragment_size}

abbrev pub moof : FourCc
moof = kind (codes "moof")

-- ---- an index (sidx, ISO/IEC 14496-12, 8.16.3)

-- a reference has no room for a piece: 31 bits for the bytes of its moof and its mdat, 32 bits for its duration
abbrev pub passes_reference : Piece → Bool
passes_reference p = nat_lt (2 ^ 31 - 1) (fragment_size p) || nat_lt (2 ^ 32 - 1) p.plain.duration

-- an index has no room for the earliest time of a group, which is that of its first piece: 64 bits without a sign
abbrev pub passes_time : List Piece → Bool
passes_time [] = false
passes_time (p ∷ ps) = lt_z p.least (pos 0) || lt_z (pos (2 ^ 64 - 1)) p.least

-- the indexes of a run have no room for its pieces
abbrev pub passes_index : List Piece → Bool
passes_index ps = list_any passes_time (groups ps) || list_any passes_reference ps

-- the fault of such a run: its trun
abbrev pub index_fault : Run → Fault
index_fault run = record { rule = IndexRange; kind = Some trun; offset = run.offset }

-- where an index is asked for
abbrev pub index_faults_of : Cut → List ℕ → Run → List Fault
index_faults_of cut moof_bytes run = if cut.index && passes_index (pieces_of cut moof_bytes run) then index_fault run ∷ [] else []

abbrev pub index_faults : Cut → List ℕ → List Run → List Fault
index_faults cut moof_bytes runs = flat_map (index_faults_of cut moof_bytes) runs

-- ---- the sequence number of a moof (mfhd, 8.8.5)

-- the numbers of so many pieces, from seq on
abbrev pub numbers : ℕ → ℕ → List ℕ
numbers seq count = range_with_len seq count

-- fault of a moof with a piece whose number would be past 32 bits: the moof begins at this offset
abbrev pub sequence_fault : ℕ → Fault
sequence_fault offset = record { rule = SequenceEnd; kind = Some moof; offset = offset }

abbrev pub sequence_faults : ℕ → List ℕ → List Fault
sequence_faults offset ns = if list_any (nat_lt (2 ^ 32 - 1)) ns then sequence_fault offset ∷ [] else []

-- ---- both, for some runs of a moof, the first piece of which has the number seq

unfoldable pub room_faults : Cut → MoofBytes → List Run → ℕ → List Fault
room_faults cut h runs seq = index_faults cut h.bytes runs ++ sequence_faults h.offset (numbers seq (piece_count cut h.bytes runs))

-- the fault that is reported
abbrev pub room_fault : Cut → MoofBytes → List Run → ℕ → Option Fault
room_fault cut h runs seq = least (room_faults cut h runs seq)
