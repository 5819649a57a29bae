-- The runs of a moof that was read are such that they can be cut.
use Rattle.std.proofs.Common.{◌≡◌, ℕ, ℤ, pos, ◌<◌, ◌≤◌, ◌+◌, ◌^◌, List, [], ◌∷◌, ◌++◌, length, map, refl, ap, subst, arith}
use Rattle.std.specs.List.{AllByRecursion, flat_map}
use Rattle.std.specs.List.Sorted.{IsPermutation}
use Rattle.std.proofs.lemmas.List.{length-append}
use Rattle.std.proofs.lemmas.List.Elements.{All-from_recursion, recursion_from_All}
use Rattle.std.proofs.lemmas.List.Sorted.{All-permutation}
use Rattle.mp4_box.specs.Headers.{IsBytes, IsWhole}
use Rattle.mp4_box.specs.Paths.{of_kind}
use Rattle.mp4_box.specs.Trees.{Box, children}
use Rattle.mp4_init.specs.declared.table.Track.{Track}
use Rattle.mp4_traf.specs.declared.run.Run.{Run}
use Rattle.mp4_traf.specs.Ranges.{AreRunsOf, InRange, IsRunOf}
use Rattle.mp4_frag.specs.After.{IsBetween}
use Rattle.mp4_traf.specs.Kinds.{traf}
use Rattle.mp4_frag.specs.Moofs.{IsRead, moof_of, moof_runs, moof_samples}
use Rattle.mp4_traf.specs.Rows.{durations, group_at, row_of, rows_of, sizes}
use Rattle.mp4_traf.specs.Rules.{most_in_moof}
use Rattle.mp4_traf.specs.Runs.{MoofBytes, Shared, end_place, run_of, runs_from, runs_of, traf_of}
use Rattle.mp4_frag.proofs.AfterLemmas.{after_run}
use Rattle.mp4_frag.proofs.MoofLemmas.{read_count}
use Rattle.mp4_traf.proofs.RowLemmas.{length_rows_of}
use Rattle.mp4_frag.proofs.SoundLemmas.{few_timed, rows_are_samples}

-- ---- what holds of all

all_append : (P : Run → Type 0) (xs ys : List Run) → AllByRecursion P xs → AllByRecursion P ys → AllByRecursion P (xs ++ ys)
all_append P [] ys all rest = rest
all_append P (x ∷ xs) ys all rest = (all.0, all_append P xs ys all.1 rest)

all_middle : (P : Run → Type 0) (before : List Run) (run : Run) (after : List Run) → AllByRecursion P (before ++ run ∷ after) → P run
all_middle P [] run after all = all.0
all_middle P (b ∷ before) run after all = all_middle P before run after all.1

each : (P : Run → Type 0) (runs : List Run) → ((before after : List Run) (run : Run) → IsBetween runs before run after → P run) → AllByRecursion P runs
each P [] f = tt
each P (x ∷ runs) f = (
  f [] runs x (record { is = refl }),
  each P runs (λ before after run s. f (x ∷ before) after run (record { is = ap (λ (ys : List Run). x ∷ ys) s.is })),
)

-- what holds of two lists holds of each
pub of_both : (moof_bytes : List ℕ) (xs ys : List Run) → AreRunsOf moof_bytes (xs ++ ys) → AreRunsOf moof_bytes xs × AreRunsOf moof_bytes ys
of_both moof_bytes [] ys all = (tt, all)
of_both moof_bytes (x ∷ xs) ys all = let rest = of_both moof_bytes xs ys all.1 in ((all.0, rest.0), rest.1)

-- ---- their sums

pub record IsSummed (moof_bytes : List ℕ) (run : Run) : Type 0 where
  pub end : run.end ≡ run.time + durations (rows_of run moof_bytes)
  pub bytes : run.bytes ≡ sizes (rows_of run moof_bytes)

run_summed : (s : Shared) (time : ℕ) (last : ℤ) (b : Box) → IsSummed s.moof.bytes (run_of s time last b)
unfolding run_of row_of group_at
run_summed s time last b = record { end = refl; bytes = refl }

runs_summed : (s : Shared) (time : ℕ) (last : ℤ) (bs : List Box) → AllByRecursion (IsSummed s.moof.bytes) (runs_from s time last bs)
unfolding runs_from
runs_summed s time last [] = tt
runs_summed s time last (b ∷ bs) = (run_summed s time last b, runs_summed s (run_of s time last b).end (end_place (run_of s time last b)) bs)

traf_summed : (h : MoofBytes) (tracks : List Track) (t : Box) → AllByRecursion (IsSummed h.bytes) (runs_of (traf_of h tracks t))
unfolding traf_of
traf_summed h tracks t = runs_summed (traf_of h tracks t).shared (traf_of h tracks t).time (pos h.offset) (traf_of h tracks t).truns

pub trafs_summed : (h : MoofBytes) (tracks : List Track) (ts : List Box) → AllByRecursion (IsSummed h.bytes) (flat_map runs_of (map (traf_of h tracks) ts))
trafs_summed h tracks [] = tt
trafs_summed h tracks (t ∷ ts) =
    all_append (IsSummed h.bytes) (runs_of (traf_of h tracks t)) (flat_map runs_of (map (traf_of h tracks) ts)) (traf_summed h tracks t) (trafs_summed h tracks ts)

-- ---- their counts

counts_few : (moof_bytes : List ℕ) (n : ℕ) (runs : List Run) → length (flat_map (λ (run : Run). rows_of run moof_bytes) runs) ≤ n → AllByRecursion (λ (run : Run). run.count ≤ n) runs
counts_few moof_bytes n [] h = tt
counts_few moof_bytes n (run ∷ runs) h =
    let more = length-append (rows_of run moof_bytes) (flat_map (λ (run : Run). rows_of run moof_bytes) runs) in
    (omega (arith, h, more, length_rows_of run moof_bytes), counts_few moof_bytes n runs (omega (arith, h, more)))

pub samples_few : (h : MoofBytes) (tracks : List Track) → IsRead h tracks → moof_samples h ≤ most_in_moof
samples_few h tracks read = let few = few_timed (moof_of h) (read_count h tracks read) in few.most

-- ---- all of a moof

pub ranged_run : (h : MoofBytes) (tracks : List Track) → IsRead h tracks → (before after : List Run) (run : Run) → IsBetween (moof_runs h tracks) before run after → InRange run → IsRunOf h.bytes run
ranged_run h tracks read before after run s range =
    let count = counts_few h.bytes most_in_moof (moof_runs h tracks) (omega (arith, rows_are_samples h tracks, samples_few h tracks read)) in
    let sums = trafs_summed h tracks (of_kind traf (children (moof_of h))) in
    let summed = all_middle (IsSummed h.bytes) before run after (subst (λ (xs : List Run). AllByRecursion (IsSummed h.bytes) xs) s.is sums) in
    record {
      few = all_middle (λ (run : Run). run.count ≤ most_in_moof) before run after (subst (λ (xs : List Run). AllByRecursion (λ (run : Run). run.count ≤ most_in_moof) xs) s.is count);
      end = summed.end;
      bytes = summed.bytes;
      range = range;
    }

-- the runs of a moof that was read can be cut
pub runs_are : (h : MoofBytes) (tracks : List Track) → h.offset ≤ 2 ^ 62 → IsWhole h.bytes → IsBytes h.bytes → IsRead h tracks → AreRunsOf h.bytes (moof_runs h tracks)
runs_are h tracks near whole fits read =
    each (λ (run : Run). run.size < 2 ^ 32 → IsRunOf h.bytes run) (moof_runs h tracks) (λ before after run s small. ranged_run h tracks read before after run s ((after_run h tracks near whole fits read before after run s).here small))

-- and in any order
pub runs_kept : (moof_bytes : List ℕ) (xs ys : List Run) → IsPermutation xs ys → AreRunsOf moof_bytes xs → AreRunsOf moof_bytes ys
runs_kept moof_bytes xs ys same all =
    let IsRun : Run → Type 0 = λ run. run.size < 2 ^ 32 → IsRunOf moof_bytes run in
    recursion_from_All IsRun ys (All-permutation IsRun xs ys same (All-from_recursion IsRun xs all))
