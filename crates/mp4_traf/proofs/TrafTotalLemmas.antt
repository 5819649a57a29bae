-- Sums over the runs of a traf: they are few, and none ends before its traf begins.
use Rattle.std.proofs.Common.{◌≡◌, ◌∙◌, ◌+◌, ◌-◌, ◌*◌, ◌^◌, ◌<◌, ◌≤◌, ℕ, ℤ, pos, Bool, List, [], ◌∷◌, Option, Some, None, refl, sym, ap, length, arith}
use Rattle.std.specs.List.{sum_by}
use Rattle.std.specs.Option.{option_or, unwrap_or}
use Rattle.std.proofs.lemmas.List.Sums.{sum_by-cons}
use Rattle.mp4_box.specs.Headers.{IsBytes}
use Rattle.mp4_box.specs.Trees.{Box, first_of}
use Rattle.mp4_traf.specs.declared.run.Run.{Run}
use Rattle.mp4_traf.specs.Ranges.{IsSound}
use Rattle.mp4_traf.specs.Rows.{durations, group_at, row_of, rows_of}
use Rattle.mp4_traf.specs.Rules.{samples_in}
use Rattle.mp4_traf.specs.Runs.{Shared, TrackFragment, end_of, end_place, last_end, run_at, run_of, runs_from, runs_of}
use Rattle.mp4_traf.specs.Trun.{sample_count}
use Rattle.mp4_traf.specs.TrafTotals.{are_sync, bytes_in_traf, duration_of, first_flags, flags_of_first, samples_in_traf, totals_of}
use Rattle.mp4_traf.proofs.RangeLemmas.{few_bytes}

pub flags_join : {A : Type 0} (x y z : Option A) → option_or (option_or x y) z ≡ option_or x (option_or y z)
flags_join None y z = refl
flags_join (Some x) y z = refl

-- ---- samples

run_count : (s : Shared) (time : ℕ) (last : ℤ) (b : Box) → (run_of s time last b).count ≡ sample_count b.payload
unfolding run_of run_at
run_count s time last b = refl

pub counts_are : (s : Shared) (time : ℕ) (last : ℤ) (bs : List Box) → sum_by (λ (run : Run). run.count) (runs_from s time last bs) ≡ samples_in bs
unfolding runs_from
counts_are s time last [] = refl
counts_are s time last (b ∷ bs) =
    let run = run_of s time last b in
    let runs = runs_from s run.end (end_place run) bs in
    omega (arith, sum_by-cons (λ (run : Run). run.count) run runs, sum_by-cons (λ (b : Box). sample_count b.payload) b bs, run_count s time last b, counts_are s run.end (end_place run) bs)

pub few_samples : (t : TrackFragment) → IsSound t → samples_in_traf t < 2 ^ 32
few_samples t sound = omega (arith, counts_are t.shared t.time (pos t.shared.moof.offset) t.truns, sound.few)

-- ---- bytes

run_bytes : (s : Shared) (time : ℕ) (last : ℤ) (b : Box) → IsBytes s.moof.bytes → s.header.size < 2 ^ 32 → (run_of s time last b).bytes ≤ 4294967295 * sample_count b.payload
unfolding run_of run_at
run_bytes s time last b fits small = few_bytes (run_at s time last b) s.moof.bytes fits small

bytes_few : (s : Shared) (time : ℕ) (last : ℤ) (bs : List Box) → IsBytes s.moof.bytes → s.header.size < 2 ^ 32 → sum_by (λ (run : Run). run.bytes) (runs_from s time last bs) ≤ 4294967295 * samples_in bs
unfolding runs_from
bytes_few s time last [] fits small = omega arith
bytes_few s time last (b ∷ bs) fits small =
    let run = run_of s time last b in
    let runs = runs_from s run.end (end_place run) bs in
    omega (arith, sum_by-cons (λ (run : Run). run.bytes) run runs, sum_by-cons (λ (b : Box). sample_count b.payload) b bs, run_bytes s time last b fits small, bytes_few s run.end (end_place run) bs fits small)

pub few_bytes_in : (t : TrackFragment) → IsSound t → t.shared.header.size < 2 ^ 32 → bytes_in_traf t < 2 ^ 64
few_bytes_in t sound small = omega (arith, bytes_few t.shared t.time (pos t.shared.moof.offset) t.truns sound.moof_bytes small, sound.few)

-- ---- times

run_end : (s : Shared) (time : ℕ) (last : ℤ) (b : Box) → time ≤ (run_of s time last b).end
unfolding run_of run_at
run_end s time last b = omega arith

runs_end : (s : Shared) (time : ℕ) (last : ℤ) (bs : List Box) → time ≤ last_end time (runs_from s time last bs)
unfolding runs_from
runs_end s time last [] = omega arith
runs_end s time last (b ∷ bs) =
    let run = run_of s time last b in
    omega (arith, run_end s time last b, runs_end s run.end (end_place run) bs)

pub ends_later : (t : TrackFragment) → t.time ≤ end_of t
ends_later t = runs_end t.shared t.time (pos t.shared.moof.offset) t.truns

-- ---- all together

pub end_is : (t : TrackFragment) (time : ℕ) (runs : List Run) (end : ℕ) → time ≡ t.time → runs ≡ runs_of t → end ≡ last_end time runs → end ≡ end_of t
end_is t time runs end e is last = last ∙ (ap (λ (n : ℕ). last_end n runs) e ∙ ap (λ (runs : List Run). last_end t.time runs) is)

pub totals_are : (t : TrackFragment) (track time end samples bytes : ℕ) (sync : Bool) → track ≡ t.shared.header.track → time ≡ t.time → end ≡ end_of t → samples ≡ samples_in_traf t → bytes ≡ bytes_in_traf t → sync ≡ are_sync (first_flags t.shared.moof.bytes (runs_of t))
    → record { track = track; time = time; duration = end - time; samples = samples; bytes = bytes; sync = sync } ≡ totals_of t
totals_are t track time end samples bytes sync e1 e2 e3 e4 e5 e6 = rw (e1, e2, e3, e4, e5, e6) refl

-- ---- a traf with one run

or_none : {A : Type 0} (x : Option A) → option_or x None ≡ x
or_none None = refl
or_none (Some x) = refl

only_run_is : (s : Shared) (time : ℕ) (last : ℤ) (bs : List Box) (run : Run) → runs_from s time last bs ≡ run ∷ [] → (run.track ≡ s.header.track) × (run.time ≡ time)
unfolding runs_from run_of run_at
only_run_is s time last [] run is = absurd (omega (arith, ap length is))
only_run_is s time last (b ∷ bs) run is =
    let same : run_of s time last b ≡ run = ap (λ (runs : List Run). unwrap_or (first_of runs) run) is in
    (sym (ap (λ (r : Run). r.track) same), sym (ap (λ (r : Run). r.time) same))

pub only_totals : (t : TrackFragment) (run : Run) (moof_bytes : List ℕ) → t.shared.moof.bytes ≡ moof_bytes → runs_of t ≡ run ∷ []
    → record { track = run.track; time = run.time; duration = run.end - run.time; samples = run.count; bytes = run.bytes; sync = are_sync (flags_of_first moof_bytes run) } ≡ totals_of t
unfolding first_flags
only_totals t run moof_bytes same is =
    let (track, time) = only_run_is t.shared t.time (pos t.shared.moof.offset) t.truns run is in
    let end : run.end ≡ end_of t = sym (ap (λ (runs : List Run). last_end t.time runs) is) in
    let samples : run.count ≡ samples_in_traf t = omega (arith, sum_by-cons (λ (run : Run). run.count) run [], ap (λ (runs : List Run). sum_by (λ (run : Run). run.count) runs) is) in
    let bytes : run.bytes ≡ bytes_in_traf t = omega (arith, sum_by-cons (λ (run : Run). run.bytes) run [], ap (λ (runs : List Run). sum_by (λ (run : Run). run.bytes) runs) is) in
    let flags : flags_of_first moof_bytes run ≡ first_flags t.shared.moof.bytes (runs_of t) = ap (λ (l : List ℕ). flags_of_first l run) (sym same) ∙ (sym (or_none (flags_of_first t.shared.moof.bytes run)) ∙ ap (first_flags t.shared.moof.bytes) (sym is)) in
    totals_are t run.track run.time run.end run.count run.bytes (are_sync (flags_of_first moof_bytes run)) track time end samples bytes (ap are_sync flags)

-- ---- the trafs of a moof

end_after : (s : Shared) (time : ℕ) (last : ℤ) (b : Box) → (run_of s time last b).end ≡ time + durations (rows_of (run_of s time last b) s.moof.bytes)
unfolding run_of run_at row_of group_at
end_after s time last b = refl

runs_last : (s : Shared) (time : ℕ) (last : ℤ) (bs : List Box) → last_end time (runs_from s time last bs) ≡ time + sum_by (λ (run : Run). durations (rows_of run s.moof.bytes)) (runs_from s time last bs)
unfolding runs_from
runs_last s time last [] = omega arith
runs_last s time last (b ∷ bs) =
    let run = run_of s time last b in
    let runs = runs_from s run.end (end_place run) bs in
    omega (arith, sum_by-cons (λ (run : Run). durations (rows_of run s.moof.bytes)) run runs, end_after s time last b, runs_last s run.end (end_place run) bs)

-- a traf takes the durations of its samples
pub duration_is : (t : TrackFragment) → duration_of t ≡ sum_by (λ (run : Run). durations (rows_of run t.shared.moof.bytes)) (runs_of t)
duration_is t = omega (arith, runs_last t.shared t.time (pos t.shared.moof.offset) t.truns)
