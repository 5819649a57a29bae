-- Groups with all fields are the bytes of their rows.
use Rattle.std.proofs.Common.{◌≡◌, ◌∙◌, ◌+◌, ◌-◌, ◌*◌, ◌<◌, ◌≤◌, ◌^◌, ◌==◌, ℕ, zero, suc, pos, Bool, true, false, cond, ltb, List, ◌++◌, length, map, take, drop, refl, sym, ap, arith, inl, inr}
use Rattle.std.specs.Int.{w64}
use Rattle.std.specs.List.{flat_map, range_with_len}
use Rattle.std.proofs.lemmas.Bool.{cases_lt, le-ltb, lt-ltb}
use Rattle.std.proofs.lemmas.Int.{ints}
use Rattle.std.proofs.lemmas.List.{drop-drop, length-drop, length-take}
use Rattle.std.proofs.lemmas.List.FromFn.{take-map-range_with_len}
use Rattle.std.proofs.lemmas.Nat.{be_bytes_4}
use Rattle.std.proofs.Math.Nat.{mod-eq_of_lt}
use Rattle.std.proofs.Math.Seq.{take-add}
use Rattle.byteorder.specs.Endian.{big_bytes, big_number, low_bytes, twos_complement}
use Rattle.byteorder.specs.Numbers.{big_from-take}
use Rattle.mp4_box.specs.Fields.{number_in}
use Rattle.mp4_box.specs.Headers.{IsBytes}
use Rattle.mp4_box.proofs.ByteLemmas.{number_small}
use Rattle.mp4_box.proofs.HeaderLemmas.{IsBytes-drop, IsBytes-take}
use Rattle.mp4_traf.specs.declared.run.Run.{Run}
use Rattle.mp4_traf.specs.declared.rows.Row.{Row}
use Rattle.mp4_traf.specs.Rows.{HasWholeGroups, all_fields, group_at, offset_by, row_bytes, row_of, rows_of}
use Rattle.mp4_traf.proofs.RowLemmas.{rows_dropped}

-- ---- a field

-- the four bytes of the number at a place
field_bytes : (moof_bytes : List ℕ) (at : ℕ) → IsBytes moof_bytes → at + 4 ≤ length moof_bytes → big_bytes 4 (number_in moof_bytes at) ≡ take 4 (drop at moof_bytes)
field_bytes moof_bytes at fits room =
    let x = drop at moof_bytes in
    ap (λ (t : Bool). big_bytes 4 (cond t 0 (big_number 4 x))) (le-ltb (length moof_bytes) (at + 4) room)
    ∙ be_bytes_4 (take 4 x) (big_number 4 x) (omega (arith, length-take 4 x, length-drop at moof_bytes, room)) (IsBytes-take 4 x (IsBytes-drop at moof_bytes fits))
    (sym (big_from-take 0 4 4 x (omega arith)) ∙ omega arith)

-- the 32 bits of an offset are those of its field
twos_bits : (n : ℕ) → n < 2 ^ 32 → low_bytes w64 4 (twos_complement 4 n) ≡ n
twos_bits n small = elim (cases_lt n (2 ^ 31)) [
  | inl less ↦ let t : ltb n (2 ^ 31) ≡ true = lt-ltb _ _ less in rw t (mod-eq_of_lt small)
  | inr more ↦ let t : ltb n (2 ^ 31) ≡ false = le-ltb _ _ more in rw t (omega (arith, ints))
]

offset_bits : (version n : ℕ) → n < 2 ^ 32 → low_bytes w64 4 (offset_by version n) ≡ n
offset_bits version n small = by (version == 0)
  where
    by : (t : Bool) → low_bytes w64 4 (cond t (pos n) (twos_complement 4 n)) ≡ n
    by true = mod-eq_of_lt small
    by false = twos_bits n small

-- ---- a group

join : {a b c d k l m n : List ℕ} → a ≡ k → b ≡ l → c ≡ m → d ≡ n → a ++ (b ++ (c ++ d)) ≡ k ++ (l ++ (m ++ n))
join p q r s = cc

four_fields : (x : List ℕ) → take 16 x ≡ take 4 x ++ (take 4 (drop 4 x) ++ (take 4 (drop 8 x) ++ take 4 (drop 12 x)))
four_fields x =
    take-add 4 12 x
    ∙ ap (λ (y : List ℕ). take 4 x ++ y) (take-add 4 8 (drop 4 x) ∙ ap (λ (y : List ℕ). take 4 (drop 4 x) ++ take 8 y) (drop-drop 4 4 x))
    ∙ ap (λ (y : List ℕ). take 4 x ++ (take 4 (drop 4 x) ++ y)) (take-add 4 4 (drop 8 x) ∙ ap (λ (y : List ℕ). take 4 (drop 8 x) ++ take 4 y) (drop-drop 4 8 x))

-- the field so far after the beginning of a group
field_in_group : (moof_bytes : List ℕ) (g at : ℕ) → IsBytes moof_bytes → g + at + 4 ≤ length moof_bytes → big_bytes 4 (number_in moof_bytes (g + at)) ≡ take 4 (drop at (drop g moof_bytes))
field_in_group moof_bytes g at fits room = field_bytes moof_bytes (g + at) fits room ∙ ap (take 4) (sym (drop-drop at g moof_bytes))

fields_at : (moof_bytes : List ℕ) (g version : ℕ) → IsBytes moof_bytes → g + 16 ≤ length moof_bytes
    → big_bytes 4 (number_in moof_bytes (g + 0)) ++ (big_bytes 4 (number_in moof_bytes (g + 4)) ++ (big_bytes 4 (number_in moof_bytes (g + 8)) ++ big_bytes 4 (low_bytes w64 4 (offset_by version (number_in moof_bytes (g + 12))))))
    ≡ take 16 (drop g moof_bytes)
fields_at moof_bytes g version fits room =
    join (field_in_group moof_bytes g 0 fits (omega (arith, room))) (field_in_group moof_bytes g 4 fits (omega (arith, room))) (field_in_group moof_bytes g 8 fits (omega (arith, room)))
    (ap (big_bytes 4) (offset_bits version (number_in moof_bytes (g + 12)) (number_small moof_bytes (g + 12) fits)) ∙ field_in_group moof_bytes g 12 fits (omega (arith, room)))
    ∙ sym (four_fields (drop g moof_bytes))

row_is_group : (run : Run) (moof_bytes : List ℕ) (i : ℕ) → IsBytes moof_bytes → run.fields ≡ all_fields → run.samples_at + 16 * i + 16 ≤ length moof_bytes → row_bytes (row_of run moof_bytes i) ≡ take 16 (drop (run.samples_at + 16 * i) moof_bytes)
unfolding row_of group_at
row_is_group run moof_bytes i fits all room = rw all (fields_at moof_bytes (run.samples_at + 16 * i) run.version fits room)

-- ---- groups

rows_are_groups : (run : Run) (moof_bytes : List ℕ) (i n g : ℕ) → IsBytes moof_bytes → run.fields ≡ all_fields → g ≡ run.samples_at + 16 * i → g + 16 * n ≤ length moof_bytes → flat_map row_bytes (map (row_of run moof_bytes) (range_with_len i n)) ≡ take (16 * n) (drop g moof_bytes)
rows_are_groups run moof_bytes i zero g fits all at room = refl
rows_are_groups run moof_bytes i (suc n) g fits all at room =
    let first = row_is_group run moof_bytes i fits all (omega (arith, at, room)) ∙ ap (λ (k : ℕ). take 16 (drop k moof_bytes)) (sym at) in
    let rest = rows_are_groups run moof_bytes (i + 1) n (g + 16) fits all (omega (arith, at)) (omega (arith, room)) in
    let taken = take-add 16 (16 * n) (drop g moof_bytes) in
    let both : 16 + 16 * n ≡ 16 * suc n = omega arith in
    ap (λ (x : List ℕ). x ++ flat_map row_bytes (map (row_of run moof_bytes) (range_with_len (i + 1) n))) first
    ∙ ap (λ (x : List ℕ). take 16 (drop g moof_bytes) ++ x) (rest ∙ ap (take (16 * n)) (sym (drop-drop 16 g moof_bytes)))
    ∙ sym taken
    ∙ ap (λ (m : ℕ). take m (drop g moof_bytes)) both

-- where a group with all fields begins
begins : (run : Run) (i : ℕ) → run.fields ≡ all_fields → group_at run i ≡ run.samples_at + 16 * i
unfolding group_at
begins run i all = rw all refl

-- the groups of some rows are their fields
pub whole_groups : (run : Run) (moof_bytes : List ℕ) (first count : ℕ) → IsBytes moof_bytes → HasWholeGroups run moof_bytes first count → take (16 * count) (drop (group_at run first) moof_bytes) ≡ flat_map row_bytes (take count (drop first (rows_of run moof_bytes)))
whole_groups run moof_bytes first zero fits has = refl
whole_groups run moof_bytes first (suc n) fits has =
    let g = group_at run first in
    sym (rows_are_groups run moof_bytes first (suc n) g fits has.fields (begins run first has.fields) (omega (arith, has.bytes, length-drop g moof_bytes)))
    ∙ ap (flat_map row_bytes) (sym (take-map-range_with_len (row_of run moof_bytes) first (run.count - first) (suc n) (omega (arith, has.rows))))
    ∙ ap (λ (rows : List Row). flat_map row_bytes (take (suc n) rows)) (rows_dropped run moof_bytes first (omega (arith, has.rows)))
