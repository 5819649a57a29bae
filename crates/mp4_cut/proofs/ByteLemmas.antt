-- What is written are bytes.
use Rattle.std.proofs.Common.{ℕ, zero, suc, ◌+◌, ◌<◌, ◌≤◌, List, [], ◌∷◌, ◌++◌, length, arith}
use Rattle.std.specs.Prelude.{slice_index}
use Rattle.std.specs.List.{AllByRecursion, flat_map}
use Rattle.std.specs.Int.{byte_at}
use Rattle.std.proofs.Math.Nat.{mod-lt}
use Rattle.byteorder.specs.Endian.{big_bytes}
use Rattle.mp4_box.specs.declared.headers.FourCc.{FourCc}
use Rattle.mp4_box.specs.Headers.{IsBytes}
use Rattle.mp4_traf.specs.declared.rows.Row.{Row}
use Rattle.mp4_traf.specs.Kinds.{mfhd, traf, tfhd, tfdt, trun}
use Rattle.mp4_pieces.specs.Rooms.{moof}
use Rattle.mp4_cut.specs.Boxes.{box_bytes, version_and_flags}
use Rattle.mp4_cut.specs.Mfhd.{mfhd_payload}
use Rattle.mp4_cut.specs.Tfhd.{tfhd_flags, tfhd_payload}
use Rattle.mp4_cut.specs.Tfdt.{tfdt_payload}
use Rattle.mp4_cut.specs.Trun.{offset_bits, sample_bytes, trun_flags}
use Rattle.mp4_cut.specs.Moof.{WrittenFragment, data_offset, in_moof, in_traf, moof_box}
use Rattle.mp4_cut.specs.Reads.{FitsFields}
use Rattle.mp4_cut.proofs.MoofLemmas.{trun_of}

-- a number below 256 each
record AreBytes (x : List ℕ) : Type 0 where
  each : AllByRecursion (λ (b : ℕ). b < 256) x

both : (xs ys : List ℕ) → AreBytes xs → AreBytes ys → AreBytes (xs ++ ys)
both [] ys all rest = rest
both (x ∷ xs) ys all rest =
    let more = both xs ys (record { each = all.each.1 }) rest in
    record { each = (all.each.0, more.each) }

join : {xs ys : List ℕ} → AreBytes xs → AreBytes ys → AreBytes (xs ++ ys)
join {xs = xs} {ys = ys} all rest = both xs ys all rest

byte : (k v : ℕ) → byte_at k v < 256
byte zero v = mod-lt v (omega arith)
byte (suc k) v = mod-lt _ (omega arith)

number : (n v : ℕ) → AreBytes (big_bytes n v)
number zero v = record { each = tt }
number (suc n) v = let more : AreBytes (big_bytes n v) = number n v in record { each = (byte n v, more.each) }

full : (version flags : ℕ) → version ≤ 1 → AreBytes (version_and_flags version flags)
full version flags h = let more : AreBytes (big_bytes 3 flags) = number 3 flags in record { each = (omega (arith, h), more.each) }

letters : (a b c d : ℕ) → a < 256 → b < 256 → c < 256 → d < 256 → AreBytes (a ∷ b ∷ c ∷ d ∷ [])
letters a b c d p q r s = record { each = (p, (q, (r, (s, tt)))) }

box : (kind : FourCc) (payload : List ℕ) → AreBytes kind.0 → AreBytes payload → AreBytes (box_bytes kind payload)
box kind payload k p = join (number 4 (8 + length payload)) (join k p)

sample : (row : Row) → AreBytes (sample_bytes row)
sample row = join (number 4 row.duration) (join (number 4 row.size) (join (number 4 row.flags) (number 4 (offset_bits row.offset))))

samples : (rows : List Row) → AreBytes (flat_map sample_bytes rows)
samples [] = record { each = tt }
samples (row ∷ rows) = join (sample row) (samples rows)

mfhd_is : (seq : ℕ) → AreBytes (box_bytes mfhd (mfhd_payload seq))
mfhd_is seq = box mfhd (mfhd_payload seq) (letters 109 102 104 100 (omega arith) (omega arith) (omega arith) (omega arith)) (join (full 0 0 (omega arith)) (number 4 seq))

tfhd_is : (f : WrittenFragment) → AreBytes (box_bytes tfhd (tfhd_payload f.track f.entry))
tfhd_is f = box tfhd (tfhd_payload f.track f.entry) (letters 116 102 104 100 (omega arith) (omega arith) (omega arith) (omega arith)) (join (full 0 tfhd_flags (omega arith)) (join (number 4 f.track) (number 4 f.entry)))

tfdt_is : (f : WrittenFragment) → AreBytes (box_bytes tfdt (tfdt_payload f.time))
tfdt_is f = box tfdt (tfdt_payload f.time) (letters 116 102 100 116 (omega arith) (omega arith) (omega arith) (omega arith)) (join (full 1 0 (omega arith)) (number 8 f.time))

trun_is : (f : WrittenFragment) → FitsFields f → AreBytes (box_bytes trun (trun_of f))
trun_is f fits =
    box trun (trun_of f) (letters 116 114 117 110 (omega arith) (omega arith) (omega arith) (omega arith))
    (join (full f.version trun_flags fits.version) (join (number 4 (length f.rows)) (join (number 4 (data_offset f.rows)) (samples f.rows))))

traf_is : (f : WrittenFragment) → FitsFields f → AreBytes (box_bytes traf (in_traf f))
traf_is f fits =
    box traf (in_traf f) (letters 116 114 97 102 (omega arith) (omega arith) (omega arith) (omega arith)) (join (tfhd_is f) (join (tfdt_is f) (trun_is f fits)))

moof_is : (f : WrittenFragment) (seq : ℕ) → FitsFields f → AreBytes (moof_box f seq)
unfolding moof_box
moof_is f seq fits = box moof (in_moof f seq) (letters 109 111 111 102 (omega arith) (omega arith) (omega arith) (omega arith)) (join (mfhd_is seq) (traf_is f fits))

index_small : (x : List ℕ) → AreBytes x → (i : ℕ) → slice_index x i < 256
index_small [] all i = omega arith
index_small (b ∷ x) all zero = all.each.0
index_small (b ∷ x) all (suc i) = index_small x (record { each = all.each.1 }) i

pub moof_box_bytes : (f : WrittenFragment) (seq : ℕ) → FitsFields f → IsBytes (moof_box f seq)
moof_box_bytes f seq fits i = index_small (moof_box f seq) (moof_is f seq fits) i
