-- How many runs a moof without a fault can have, by its length: each trun has at least 16 bytes.
use Rattle.std.proofs.Common.{◌≡◌, ◌∙◌, ◌≤◌, ◌+◌, ◌*◌, ◌==◌, ℕ, ℤ, suc, true, ltb, List, [], ◌∷◌, length, Option, None, refl, sym, ap, arith, subst, length-append, inl, inr}
use Rattle.std.specs.Prelude.{map}
use Rattle.std.specs.List.{flat_map, AllByRecursion}
use Rattle.std.specs.Option.{unwrap_or}
use Rattle.std.proofs.lemmas.Bool.Decides.{nat_tests}
use Rattle.mp4_box.specs.Fields.{version_in}
use Rattle.mp4_box.specs.Headers.{IsBytes}
use Rattle.mp4_box.specs.Paths.{of_kind, at_path}
use Rattle.mp4_box.specs.Trees.{Box, box_at, children}
use Rattle.mp4_box.proofs.SizeLemmas.{IsLaid, total, fits_children, kind_fits, both_none, none_below, laid_by}
use Rattle.mp4_box.proofs.GrammarLemmas.{lies_at, option_is}
use Rattle.mp4_init.specs.declared.table.Track.{Track}
use Rattle.mp4_traf.specs.Fields.{flags_in, width_if}
use Rattle.mp4_traf.specs.Kinds.{traf, trun}
use Rattle.mp4_frag.specs.Moofs.{fault_before_times, moof_of, moof_runs, no_box}
use Rattle.mp4_frag.specs.Rules.{form_faults}
use Rattle.mp4_traf.specs.Rules.{trun_length}
use Rattle.mp4_traf.specs.Runs.{MoofBytes, Shared, end_place, run_of, runs_from, runs_of, traf_of, trafs_by}
use Rattle.mp4_traf.specs.Trun.{data_offset_present, first_sample_flags_present, sample_count, sample_fields, trun_broken, trun_fields, trun_len}
use Rattle.mp4_frag.proofs.MoofLemmas.{early, moof_is}

-- ---- where nothing is at fault with the truns

truns_none : (m : Box) → form_faults m ≡ [] → AllByRecursion (λ t. AllByRecursion (λ b. trun_length b ≡ []) (of_kind trun (children t))) (of_kind traf (children m))
unfolding form_faults at_path
truns_none m e = none_below trun_length trun (of_kind traf (children m)) (both_none _ _ e).1

long_by : (n i j k : ℕ) → (n == 8 + i + j + k) ≡ true → 8 ≤ n
long_by n i j k e = grind (arith, nat_tests)

trun_long : (b : Box) → trun_length b ≡ [] → 8 ≤ length b.payload
unfolding trun_broken trun_fields
trun_long b e =
    let flags = flags_in b.payload in
    let count = sample_count b.payload in
    long_by (length b.payload) (width_if (data_offset_present flags)) (width_if (first_sample_flags_present flags)) ((sample_fields flags).len * count)
    (laid_by b (ltb (length b.payload) 4) (ltb 1 (version_in b.payload)) (length b.payload == trun_len flags count) e)

truns_long : (bs : List Box) → AllByRecursion IsLaid bs → AllByRecursion (λ b. trun_length b ≡ []) bs → 16 * length bs ≤ total bs
unfolding total
truns_long [] laid long = omega arith
truns_long (b ∷ bs) laid long = omega (arith, laid.0.header_len, trun_long b long.0, truns_long bs laid.1 long.1)

-- ---- runs

runs_len : (s : Shared) (time : ℕ) (last : ℤ) (bs : List Box) → length (runs_from s time last bs) ≡ length bs
unfolding runs_from
runs_len s time last [] = refl
runs_len s time last (b ∷ bs) = ap suc (runs_len s (run_of s time last b).end (end_place (run_of s time last b)) bs)

traf_runs : (h : MoofBytes) (tracks : List Track) (t : Box) → length (runs_of (traf_of h tracks t)) ≡ length (of_kind trun (children t))
unfolding traf_of
traf_runs h tracks t = runs_len (traf_of h tracks t).shared (traf_of h tracks t).time _ (of_kind trun (children t))

trafs_small : (h : MoofBytes) (tracks : List Track) (ts : List Box) → AllByRecursion IsLaid ts → AllByRecursion (λ t. AllByRecursion (λ b. trun_length b ≡ []) (of_kind trun (children t))) ts
    → 16 * length (flat_map runs_of (map (traf_of h tracks) ts)) ≤ total ts
unfolding total
trafs_small h tracks [] laid long = omega arith
trafs_small h tracks (t ∷ ts) laid long =
    let f = kind_fits (length t.payload) trun (children t) (fits_children t laid.0.bytes) in
    let here = truns_long (of_kind trun (children t)) f.all long.0 in
    omega (arith, here, f.sum, traf_runs h tracks t, trafs_small h tracks ts laid.1 long.1, length-append (runs_of (traf_of h tracks t)) (flat_map runs_of (map (traf_of h tracks) ts)))

moof_small : (h : MoofBytes) (tracks : List Track) (m : Box) → IsBytes m.payload → form_faults m ≡ [] → 16 * length (flat_map runs_of (trafs_by h tracks (children m))) ≤ length m.payload
moof_small h tracks m fits e =
    let f = kind_fits (length m.payload) traf (children m) (fits_children m fits) in
    omega (arith, f.sum, trafs_small h tracks (of_kind traf (children m)) f.all (truns_none m e))

none_bytes : IsBytes []
none_bytes i = omega arith

-- the list of the runs of a moof without a fault takes no more than four times its bytes
pub runs_small : (h : MoofBytes) (tracks : List Track) → IsBytes h.bytes → fault_before_times h tracks ≡ None → 64 * length (moof_runs h tracks) ≤ 4 * length h.bytes
runs_small h tracks fits e = elim (option_is (box_at h.offset h.bytes)) [
  | inl none ↦
      let is : moof_of h ≡ no_box = ap (λ (m : Option Box). unwrap_or m no_box) none in
      let all = subst (λ (m : Box). 16 * length (flat_map runs_of (trafs_by h tracks (children m))) ≤ length m.payload) (sym is) (moof_small h tracks no_box none_bytes (ap form_faults (sym is) ∙ (early h tracks e).form)) in
      omega (arith, all, ap (λ (m : Box). length m.payload) is)
  | inr some ↦
      let m = some.0 in
      let s = lies_at h.offset h.bytes m fits some.1 in
      let is : moof_of h ≡ m = moof_is h.offset h.bytes m some.1 in
      let all = subst (λ (b : Box). 16 * length (flat_map runs_of (trafs_by h tracks (children b))) ≤ length b.payload) (sym is) (moof_small h tracks m s.bytes (ap form_faults (sym is) ∙ (early h tracks e).form)) in
      omega (arith, all, ap (λ (b : Box). length b.payload) is, s.high)
]
