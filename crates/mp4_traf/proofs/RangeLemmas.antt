-- The numbers of the runs of a traf.
use Rattle.std.proofs.Common.{◌≡◌, ◌+◌, ◌-◌, ◌*◌, ◌^◌, ◌<◌, ◌≤◌, ℕ, zero, suc, ℤ, pos, ◌+ℤ◌, ◌≤ℤ◌, ◌<ℤ◌, Bool, true, false, cond, ltb, List, [], ◌∷◌, map, Option, Some, None, refl, arith}
use Rattle.std.specs.Prelude.{option_map}
use lib.IntN.{◌-ℤ◌}
use Rattle.std.specs.List.{AllByRecursion, range_with_len, sum_by}
use Rattle.std.proofs.lemmas.Bool.{ltb-false, ltb-true}
use Rattle.std.proofs.lemmas.Int.{ints}
use Rattle.std.proofs.lemmas.List.Sums.{sum_by-cons}
use Rattle.byteorder.specs.Endian.{twos_complement}
use Rattle.mp4_box.specs.Fields.{number_in}
use Rattle.mp4_box.specs.Headers.{IsBytes}
use Rattle.mp4_box.specs.Trees.{Box}
use Rattle.mp4_box.proofs.ByteLemmas.{number_small}
use Rattle.mp4_traf.specs.declared.run.Run.{Run}
use Rattle.mp4_traf.specs.declared.rows.Row.{Row}
use Rattle.mp4_traf.specs.Fields.{flags_in, signed_in}
use Rattle.mp4_traf.specs.Trun.{data_offset, sample_count, trun_fields}
use Rattle.mp4_traf.specs.Rules.{samples_in}
use Rattle.mp4_traf.specs.Rows.{field_at, row_of, group_at, rows_of, sizes}
use Rattle.mp4_traf.specs.Runs.{Shared, TrackFragment, start_by, run_at, run_of, runs_from, runs_of, end_place}
use Rattle.mp4_traf.specs.Ranges.{InRange, IsSound}

record Signed (z : ℤ) : Type 0 where
  low : pos 0 ≤ℤ (z +ℤ pos (2 ^ 31))
  high : z ≤ℤ pos (2 ^ 31)

signed_range : (n : ℕ) → n < 2 ^ 32 → Signed (twos_complement 4 n)
signed_range n small = by (ltb n (2 ^ 31)) refl
  where
    by : (t : Bool) → ltb n (2 ^ 31) ≡ t → Signed (cond t (pos n) (pos n -ℤ pos (2 ^ 32)))
    by true e = record { low = omega (arith, ints); high = omega (arith, ints, small, ltb-true _ _ e) }
    by false e = record { low = omega (arith, ints, ltb-false _ _ e); high = omega (arith, ints, small) }

-- ---- the bytes of a run

pub small_sum : {X : Type 0} (f : X → ℕ) (g : ℕ → X) (a n : ℕ) → ((i : ℕ) → f (g i) < 2 ^ 32) → sum_by f (map g (range_with_len a n)) ≤ 4294967295 * n
small_sum f g a zero small = omega arith
small_sum f g a (suc n) small =
    let e = sum_by-cons f (g a) (map g (range_with_len (a + 1) n)) in
    omega (arith, e, small a, small_sum f g (a + 1) n small)

pub field_small : (moof_bytes : List ℕ) (g : ℕ) (o : Option ℕ) (default_value : ℕ) → IsBytes moof_bytes → default_value < 2 ^ 32 → field_at moof_bytes g o default_value < 2 ^ 32
field_small moof_bytes g None default_value fits small = small
field_small moof_bytes g (Some at) default_value fits small = number_small moof_bytes (g + at) fits

size_small : (run : Run) (moof_bytes : List ℕ) (i : ℕ) → IsBytes moof_bytes → run.size < 2 ^ 32 → (row_of run moof_bytes i).size < 2 ^ 32
unfolding row_of
size_small run moof_bytes i fits small = field_small moof_bytes (group_at run i) run.fields.sample_size run.size fits small

pub few_bytes : (run : Run) (moof_bytes : List ℕ) → IsBytes moof_bytes → run.size < 2 ^ 32 → sizes (rows_of run moof_bytes) ≤ 4294967295 * run.count
few_bytes run moof_bytes fits small =
    let s = small_sum (λ (row : Row). row.size) (row_of run moof_bytes) 0 (run.count - 0) (λ i. size_small run moof_bytes i fits small) in
    omega (arith, s)

-- ---- the place of a run

record Begins (z : ℤ) (n : ℕ) : Type 0 where
  low : pos 0 ≤ℤ (z +ℤ pos (2 ^ 31))
  high : z ≤ℤ pos n

start_range : (moof : ℕ) (last : ℤ) (n : ℕ) (d : Option ℤ) (offset : Option ℕ) (p : List ℕ) → d ≡ option_map (signed_in p) offset → IsBytes p → moof + 2 ^ 31 ≤ n → Begins last n → Begins (start_by moof last d) n
start_range moof last n d None p e fits near b = rw e b
start_range moof last n d (Some at) p e fits near b =
    let s = signed_range (number_in p at) (number_small p at fits) in
    let z : ℤ = signed_in p at in
    rw e (record { low = add_low moof z s.low; high = add_high moof n z near s.high })
  where
    add_low : (m : ℕ) (z : ℤ) → pos 0 ≤ℤ (z +ℤ pos (2 ^ 31)) → pos 0 ≤ℤ ((pos m +ℤ z) +ℤ pos (2 ^ 31))
    add_low m z l = omega (arith, ints, l)

    add_high : (m n : ℕ) (z : ℤ) → m + 2 ^ 31 ≤ n → z ≤ℤ pos (2 ^ 31) → (pos m +ℤ z) ≤ℤ pos n
    add_high m n z near h = omega (arith, ints, near, h)

-- ---- the runs of a traf

-- where a run begins, and where the next may
record Place (run : Run) (n : ℕ) (b : Box) : Type 0 where
  low : pos 0 ≤ℤ (run.place +ℤ pos (2 ^ 31))
  high : end_place run ≤ℤ pos (n + 2 ^ 32 * sample_count b.payload)

placed : (z : ℤ) (n bytes count : ℕ) → z ≤ℤ pos n → bytes ≤ 4294967295 * count → (z +ℤ pos bytes) ≤ℤ pos (n + 2 ^ 32 * count)
placed z n bytes count h few = omega (arith, ints, h, few)

place_of : (s : Shared) (time : ℕ) (last : ℤ) (n : ℕ) (b : Box) → s.header.size < 2 ^ 32 → IsBytes s.moof.bytes → IsBytes b.payload → s.moof.offset + 2 ^ 31 ≤ n → Begins last n → Place (run_of s time last b) n b
unfolding run_of run_at
place_of s time last n b small moof_bytes fits near begins =
    let at = start_range s.moof.offset last n (data_offset b.payload) (trun_fields (flags_in b.payload)).data_offset b.payload refl fits near begins in
    let few = few_bytes (run_at s time last b) s.moof.bytes moof_bytes small in
    record { low = at.low; high = placed (start_by s.moof.offset last (data_offset b.payload)) n (sizes (rows_of (run_at s time last b) s.moof.bytes)) (sample_count b.payload) at.high few }

end_low : (z : ℤ) (bytes : ℕ) → pos 0 ≤ℤ (z +ℤ pos (2 ^ 31)) → pos 0 ≤ℤ ((z +ℤ pos bytes) +ℤ pos (2 ^ 31))
end_low z bytes l = omega (arith, ints, l)

below : (z : ℤ) (n : ℕ) → z ≤ℤ pos n → n < 2 ^ 63 → z <ℤ pos (2 ^ 63)
below z n h l = omega (arith, ints, h, l)

ranges : (s : Shared) (time : ℕ) (last : ℤ) (n : ℕ) (bs : List Box) → s.header.size < 2 ^ 32 → IsBytes s.moof.bytes → AllByRecursion (λ (b : Box). IsBytes b.payload) bs → s.moof.offset + 2 ^ 31 ≤ n → Begins last n
    → n + 2 ^ 32 * samples_in bs < 2 ^ 63 → AllByRecursion (λ (run : Run). run.end < 2 ^ 64) (runs_from s time last bs) → AllByRecursion InRange (runs_from s time last bs)
unfolding runs_from
ranges s time last n [] small moof_bytes fits near begins room ends = tt
ranges s time last n (b ∷ bs) small moof_bytes fits near begins room ends =
    let run = run_of s time last b in
    let count : ℕ = sample_count b.payload in
    let place = place_of s time last n b small moof_bytes fits.0 near begins in
    let sum : samples_in (b ∷ bs) ≡ count + samples_in bs = sum_by-cons (λ (b : Box). sample_count b.payload) b bs in
    let next : ℕ = n + 2 ^ 32 * count in
    let begins' : Begins (end_place run) next = record { low = end_low run.place run.bytes place.low; high = place.high } in (
      record { end = ends.0; low = place.low; high = below (end_place run) next place.high (omega (arith, room, sum)) },
      ranges s run.end (end_place run) next bs small moof_bytes fits.1 (omega (arith, near)) begins' (omega (arith, room, sum)) ends.1,
    )

pub in_range : (t : TrackFragment) → t.shared.header.size < 2 ^ 32 → IsSound t → AllByRecursion InRange (runs_of t)
in_range t small sound =
    let n : ℕ = t.shared.moof.offset + 2 ^ 31 in
    ranges t.shared t.time (pos t.shared.moof.offset) n t.truns small sound.moof_bytes sound.truns (omega arith) (record { low = from_start t.shared.moof.offset; high = to_start t.shared.moof.offset }) (omega (arith, sound.near, sound.few)) sound.ends
  where
    from_start : (m : ℕ) → pos 0 ≤ℤ (pos m +ℤ pos (2 ^ 31))
    from_start m = omega (arith, ints)

    to_start : (m : ℕ) → pos m ≤ℤ pos (m + 2 ^ 31)
    to_start m = omega (arith, ints)
