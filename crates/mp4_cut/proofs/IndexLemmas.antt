-- The index of a group is its front and the references to its pieces.
use Rattle.std.proofs.Common.{◌≡◌, ℕ, zero, suc, ◌+◌, ◌-◌, ◌*◌, ◌<◌, ◌≤◌, List, [], ◌∷◌, ◌++◌, length, Some, refl, sym, ap, subst, ◌∙◌, arith}
use Rattle.std.specs.Prelude.{take}
use Rattle.std.specs.List.{AllByRecursion, flat_map}
use Rattle.byteorder.specs.Endian.{big_bytes}
use Rattle.mp4_box.specs.Trees.{first_of}
use Rattle.mp4_traf.specs.declared.run.Run.{Run}
use Rattle.mp4_traf.specs.declared.rows.Cursor.{Cursor}
use Rattle.mp4_pieces.specs.declared.cut.Cut.{Cut}
use Rattle.mp4_pieces.specs.declared.piece.Piece.{Piece}
use Rattle.mp4_pieces.specs.Pieces.{pieces_from}
use Rattle.mp4_pieces.specs.PlainPieces.{plain_start}
use Rattle.mp4_pieces.specs.Fits.{FitsReference}
use Rattle.mp4_box.specs.declared.headers.Step.TheVariants.{Whole}
use Rattle.mp4_cut.specs.Boxes.{version_and_flags}
use Rattle.mp4_cut.specs.Reads.{IsHeaded, header_of}
use Rattle.mp4_cut.proofs.ReadLemmas.{header_read}
use Rattle.mp4_cut.specs.Sidx.{earliest, natural, reference_bytes, sidx, sidx_payload, written_index}
use Rattle.mp4_cut.specs.IndexGroups.{IsGroup, group_from}
use Rattle.mp4_cut.specs.Implementation.Fronts.{index_front}

-- a reference has room for the first of some pieces, and references have room for the others
pub record FirstFits (p : Piece) (left : ℕ) (ps : List Piece) : Type 0 where
  pub first : FitsReference p
  pub others : AllByRecursion FitsReference (take (left - 1) ps)

pub first_fits : (left : ℕ) (p : Piece) (ps all : List Piece) → 0 < left → all ≡ p ∷ ps → AllByRecursion FitsReference (take left all) → FirstFits p left ps
first_fits zero p ps all h e fit = absurd (omega arith)
first_fits (suc n) p ps all h e fit =
    let both : FitsReference p × AllByRecursion FitsReference (take n ps) = subst (λ (qs : List Piece). AllByRecursion FitsReference (take (suc n) qs)) e fit in
    let one : n ≡ suc n - 1 = omega arith in
    record { first = both.0; others = subst (λ (m : ℕ). AllByRecursion FitsReference (take m ps)) one both.1 }

pub length_references : (ps : List Piece) → length (flat_map reference_bytes ps) ≡ 12 * length ps
length_references [] = refl
length_references (p ∷ ps) = let e = length_references ps in omega (arith, e)

pub length_index : (run : Run) (timescale : ℕ) (ps : List Piece) → length (written_index run timescale ps) ≡ 40 + 12 * length ps
unfolding written_index
length_index run timescale ps = omega (arith, length_references ps)

length_payload : (id timescale : ℕ) (ps : List Piece) → length (sidx_payload id timescale ps) ≡ 32 + 12 * length ps
length_payload id timescale ps = omega (arith, length_references ps)

some_is : (a b : Piece) → Some a ≡ Some b → a ≡ b
some_is a b e = cc

earliest_is : (ps : List Piece) (first : Piece) → first_of ps ≡ Some first → earliest ps ≡ natural first.least
earliest_is [] first e = absurd cc
earliest_is (p ∷ ps) first e = ap (λ (q : Piece). natural q.least) (some_is p first e)

abbrev front_by : Run → ℕ → ℕ → ℕ → ℕ → List ℕ
front_by run timescale size time count =
    big_bytes 4 size ++ (sidx.0 ++ (version_and_flags 1 0 ++ (big_bytes 4 run.track ++ (big_bytes 4 timescale
    ++ (big_bytes 8 time ++ (big_bytes 8 0 ++ (big_bytes 2 0 ++ big_bytes 2 count)))))))

pub index_is : (run : Run) (timescale : ℕ) (first : Piece) (count : ℕ) (ps : List Piece) → first_of ps ≡ Some first → length ps ≡ count → written_index run timescale ps ≡ index_front run timescale first count ++ flat_map reference_bytes ps
unfolding written_index index_front
index_is run timescale first count ps begins all =
    let size : 8 + length (sidx_payload run.track timescale ps) ≡ 40 + 12 * count = omega (arith, length_payload run.track timescale ps, all) in
    ap (λ (n : ℕ). front_by run timescale n (earliest ps) (length ps) ++ flat_map reference_bytes ps) size
    ∙ (ap (λ (n : ℕ). front_by run timescale (40 + 12 * count) n (length ps) ++ flat_map reference_bytes ps) (earliest_is ps first begins)
    ∙ ap (λ (n : ℕ). front_by run timescale (40 + 12 * count) (natural first.least) n ++ flat_map reference_bytes ps) all)

-- what is put for a group, one after the other
pub index_is_put : (cut : Cut) (moof_bytes : List ℕ) (run : Run) (timescale : ℕ) (first : Piece) (count : ℕ) (slice front : List ℕ) (at : Cursor) (ps : List Piece) → IsGroup cut moof_bytes run first count → slice ≡ front → front ≡ index_front run timescale first count
    → at ≡ plain_start first.plain → ps ≡ pieces_from cut moof_bytes run at → slice ++ flat_map reference_bytes (take count ps) ≡ written_index run timescale (group_from cut moof_bytes run first count)
index_is_put cut moof_bytes run timescale first count slice front at ps is a b c d =
    let group = group_from cut moof_bytes run first count in
    let same : ps ≡ pieces_from cut moof_bytes run (plain_start first.plain) = d ∙ ap (pieces_from cut moof_bytes run) c in
    ap (λ (x : List ℕ). x ++ flat_map reference_bytes (take count ps)) (a ∙ b)
    ∙ (ap (λ (qs : List Piece). index_front run timescale first count ++ flat_map reference_bytes (take count qs)) same
    ∙ sym (index_is run timescale first count group is.begins is.all))

pub room_is : (cut : Cut) (moof_bytes : List ℕ) (run : Run) (first : Piece) (count : ℕ) (at : Cursor) (ps : List Piece) → IsGroup cut moof_bytes run first count → at ≡ plain_start first.plain → ps ≡ pieces_from cut moof_bytes run at → AllByRecursion FitsReference (take count ps)
room_is cut moof_bytes run first count at ps is c d =
    subst (λ (qs : List Piece). AllByRecursion FitsReference (take count qs)) (sym (d ∙ ap (pieces_from cut moof_bytes run) c)) is.references

pub index_headed : (run : Run) (timescale : ℕ) (ps : List Piece) → length ps ≤ 65535 → IsHeaded sidx (40 + 12 * length ps) 8 (written_index run timescale ps)
unfolding written_index
index_headed run timescale ps few rest =
    let len = length_payload run.track timescale ps in
    header_read sidx (sidx_payload run.track timescale ps) (record { four = refl; other = refl; small = omega (arith, len) }) rest
    ∙ ap (λ (n : ℕ). Whole (header_of sidx n 8)) (omega (arith, len))
