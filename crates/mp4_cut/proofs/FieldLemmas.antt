-- The fields of what was written are read again.
use Rattle.std.proofs.Common.{◌≡◌, ℕ, zero, suc, ◌+◌, ◌-◌, ◌*◌, ◌<◌, ◌^◌, ◌==◌, Bool, true, false, cond, ltb, List, [], ◌∷◌, length, drop, ◌++◌, refl, sym, ap, ◌∙◌, arith, ℤ, pos, negsuc, map, length-append, append_assoc}
use Rattle.std.specs.List.{AllByRecursion, range_with_len, flat_map}
use Rattle.std.proofs.lemmas.Bool.{lt-ltb, le-ltb}
use Rattle.std.proofs.lemmas.Bool.Decides.{nat_tests}
use Rattle.std.proofs.lemmas.List.{drop_at}
use Rattle.std.proofs.lemmas.Int.{ints}
use Rattle.std.proofs.Math.Nat.{mod-eq_of_lt}
use Rattle.byteorder.specs.Endian.{big_bytes, big_number, twos_complement}
use Rattle.byteorder.specs.Numbers.{big_number-reads_back}
use Rattle.mp4_box.specs.Fields.{number_in, long_number_in}
use Rattle.mp4_traf.specs.declared.run.Run.{Run}
use Rattle.mp4_traf.specs.declared.rows.Row.{Row}
use Rattle.mp4_traf.specs.Fields.{flags_in}
use Rattle.mp4_traf.specs.Trun.{sample_fields}
use Rattle.mp4_traf.specs.Rows.{group_at, offset_by, row_of}
use Rattle.mp4_cut.specs.Boxes.{version_and_flags}
use Rattle.mp4_cut.specs.Trun.{offset_bits, sample_bytes, trun_flags}
use Rattle.mp4_cut.specs.Reads.{FitsOffset, FitsRow}

-- a number of 32 bits that follows so many bytes
pub number_back : (front rest : List ℕ) (at v : ℕ) → length front ≡ at → v < 2 ^ 32 → number_in (front ++ (big_bytes 4 v ++ rest)) at ≡ v
number_back front rest at v e small =
    let x : List ℕ = front ++ (big_bytes 4 v ++ rest) in
    let room : ltb (length x) (at + 4) ≡ false = le-ltb _ _ (omega (arith, length-append front (big_bytes 4 v ++ rest), e)) in
    let here : drop at x ≡ big_bytes 4 v ++ rest = drop_at front (big_bytes 4 v ++ rest) at e in
    ap (λ (t : Bool). cond t 0 (big_number 4 (drop at x))) room ∙ (ap (big_number 4) here ∙ big_number-reads_back 4 v rest (omega (arith, small)))

-- one of 64 bits
pub long_number_back : (front rest : List ℕ) (at v : ℕ) → length front ≡ at → v < 2 ^ 64 → long_number_in (front ++ (big_bytes 8 v ++ rest)) at ≡ v
long_number_back front rest at v e small =
    let x : List ℕ = front ++ (big_bytes 8 v ++ rest) in
    let room : ltb (length x) (at + 8) ≡ false = le-ltb _ _ (omega (arith, length-append front (big_bytes 8 v ++ rest), e)) in
    let here : drop at x ≡ big_bytes 8 v ++ rest = drop_at front (big_bytes 8 v ++ rest) at e in
    ap (λ (t : Bool). cond t 0 (big_number 8 (drop at x))) room ∙ (ap (big_number 8) here ∙ big_number-reads_back 8 v rest (omega (arith, small)))

-- ---- a composition time offset

twos_small : (n : ℕ) → n < 2 ^ 31 → twos_complement 4 n ≡ pos n
twos_small n h = let t : ltb n (2 ^ 31) ≡ true = lt-ltb _ _ h in rw t refl

twos_large : (n : ℕ) → n < 2 ^ 31 → twos_complement 4 (2 ^ 32 - suc n) ≡ negsuc n
twos_large n h =
    let t : ltb (2 ^ 32 - suc n) (2 ^ 31) ≡ false = le-ltb _ _ (omega arith) in
    rw t (omega (arith, ints))

pub small_twos : (n : ℕ) → n < 2 ^ 31 → twos_complement 4 n ≡ pos n
small_twos n h = twos_small n h

bits_pos : (n : ℕ) → n < 2 ^ 32 → offset_bits (pos n) ≡ n
bits_pos n h = mod-eq_of_lt h

bits_neg : (n : ℕ) → n < 2 ^ 31 → offset_bits (negsuc n) ≡ 2 ^ 32 - suc n
bits_neg n h = omega arith

pub bits_small : (v : ℕ) (z : ℤ) → FitsOffset v z → offset_bits z < 2 ^ 32
bits_small v z h = omega arith

not_zero : (v : ℕ) → (suc v == 0) ≡ false
not_zero v = grind (arith, nat_tests)

pub bits_read : (v : ℕ) (z : ℤ) → FitsOffset v z → offset_by v (offset_bits z) ≡ z
bits_read zero (pos n) h = ap pos (bits_pos n h)
bits_read zero (negsuc n) h = absurd h
bits_read (suc v) (pos n) h = rw (not_zero v) (ap (twos_complement 4) (bits_pos n (omega arith)) ∙ twos_small n h)
bits_read (suc v) (negsuc n) h = rw (not_zero v) (ap (twos_complement 4) (bits_neg n h) ∙ twos_large n h)

-- ---- the rows

abbrev mk_row : ℕ → ℕ → ℕ → ℤ → Row
mk_row a b c z = record { duration = a; size = b; flags = c; offset = z }

same_row : (a b c k l m : ℕ) (y z : ℤ) → a ≡ k → b ≡ l → c ≡ m → y ≡ z → mk_row a b c y ≡ mk_row k l m z
same_row a b c k l m y z p q r s = cc

-- a field of a group, so far after its front
field_back : (front moof_bytes rest : List ℕ) (group at v : ℕ) → moof_bytes ≡ front ++ (big_bytes 4 v ++ rest) → length front ≡ group + at → v < 2 ^ 32 → number_in moof_bytes (group + at) ≡ v
field_back front moof_bytes rest group at v e len small = ap (λ (x : List ℕ). number_in x (group + at)) e ∙ number_back front rest (group + at) v len small

-- group i of a run with all fields is a row
group : (run : Run) (moof_bytes front rest : List ℕ) (i : ℕ) (r : Row) → run.fields ≡ sample_fields trun_flags → FitsRow run.version r → moof_bytes ≡ front ++ (sample_bytes r ++ rest) → length front ≡ run.samples_at + 16 * i → row_of run moof_bytes i ≡ r
unfolding row_of group_at sample_fields
group run moof_bytes front rest i r all f e len =
    let g : ℕ = run.samples_at + 16 * i in
    let d : List ℕ = big_bytes 4 r.duration in
    let s : List ℕ = big_bytes 4 r.size in
    let fl : List ℕ = big_bytes 4 r.flags in
    let b : ℕ = offset_bits r.offset in
    let o : List ℕ = big_bytes 4 b ++ rest in
    let e4 : moof_bytes ≡ (front ++ d) ++ (s ++ (fl ++ o)) = e ∙ sym (append_assoc front d (s ++ (fl ++ o))) in
    let e8 : moof_bytes ≡ (front ++ (d ++ s)) ++ (fl ++ o) = e ∙ sym (append_assoc front (d ++ s) (fl ++ o)) in
    let e12 : moof_bytes ≡ (front ++ (d ++ (s ++ fl))) ++ o = e ∙ sym (append_assoc front (d ++ (s ++ fl)) o) in
    rw all (same_row (number_in moof_bytes (g + 0)) (number_in moof_bytes (g + 4)) (number_in moof_bytes (g + 8)) r.duration r.size r.flags (offset_by run.version (number_in moof_bytes (g + 12))) r.offset
    (field_back front moof_bytes (s ++ (fl ++ o)) g 0 r.duration e (omega (arith, len)) f.duration)
    (field_back (front ++ d) moof_bytes (fl ++ o) g 4 r.size e4 (omega (arith, len, length-append front d)) f.size)
    (field_back (front ++ (d ++ s)) moof_bytes o g 8 r.flags e8 (omega (arith, len, length-append front (d ++ s))) f.flags)
    (ap (offset_by run.version) (field_back (front ++ (d ++ (s ++ fl))) moof_bytes rest g 12 b e12 (omega (arith, len, length-append front (d ++ (s ++ fl)))) (bits_small run.version r.offset f.offset)) ∙ bits_read run.version r.offset f.offset))

pub groups : (run : Run) (moof_bytes front rest : List ℕ) (i : ℕ) (rows : List Row) → run.fields ≡ sample_fields trun_flags → AllByRecursion (FitsRow run.version) rows → moof_bytes ≡ front ++ (flat_map sample_bytes rows ++ rest) → length front ≡ run.samples_at + 16 * i
    → map (row_of run moof_bytes) (range_with_len i (length rows)) ≡ rows
groups run moof_bytes front rest i [] all f e len = refl
groups run moof_bytes front rest i (r ∷ rows) all f e len =
    let more : List ℕ = flat_map sample_bytes rows ++ rest in
    let head : row_of run moof_bytes i ≡ r = group run moof_bytes front more i r all f.0 e len in
    let tail = groups run moof_bytes (front ++ sample_bytes r) rest (i + 1) rows all f.1 (e ∙ sym (append_assoc front (sample_bytes r) more)) (omega (arith, len, length-append front (sample_bytes r))) in
    cc

pub length_samples : (rows : List Row) → length (flat_map sample_bytes rows) ≡ 16 * length rows
length_samples [] = refl
length_samples (r ∷ rows) = let e = length_samples rows in omega (arith, e)

-- the flags of a trun that was written, whatever follows them
pub trun_flags_back : (version : ℕ) (rest : List ℕ) → flags_in (version_and_flags version trun_flags ++ rest) ≡ trun_flags
trun_flags_back version rest = ap (λ (t : Bool). cond t 0 (big_number 3 (drop 1 (version_and_flags version trun_flags ++ rest)))) (le-ltb (length (version_and_flags version trun_flags ++ rest)) 4 (omega arith))
