-- A moof that was written breaks no rule.
use Rattle.std.proofs.Common.{◌≡◌, ℕ, ◌+◌, ◌*◌, ◌≤◌, ◌^◌, ◌==◌, true, false, ltb, List, [], length, Some, None, refl, ap, ◌∙◌, arith, eq-eqb, append-nil}
use Rattle.std.specs.List.{flat_map}
use Rattle.std.proofs.lemmas.Bool.{lt-ltb, le-ltb}
use Rattle.mp4_box.specs.Checks.{along, broken}
use Rattle.mp4_box.specs.Order.{least_from}
use Rattle.mp4_box.specs.Paths.{at_path}
use Rattle.mp4_init.specs.declared.table.Track.{Track}
use Rattle.mp4_traf.specs.Kinds.{to_tfhd, to_trun}
use Rattle.mp4_traf.specs.Tfhd.{tfhd_fields}
use Rattle.mp4_traf.specs.Trun.{sample_count, sample_fields, trun_broken, trun_fields}
use Rattle.mp4_frag.specs.Repeats.{is_listed, lacks_time, repeat_faults, repeats}
use Rattle.mp4_frag.specs.Rules.{child_faults, count_faults, form_faults, too_many}
use Rattle.mp4_traf.specs.Rules.{most_in_moof, tfhd_faults, track_with, trun_faults}
use Rattle.mp4_frag.specs.Moofs.{IsRead, fault_before_times, moof_of, moof_trafs, time_faults, value_faults}
use Rattle.mp4_traf.specs.TimeFaults.{late}
use Rattle.mp4_traf.specs.Runs.{runs_of}
use Rattle.mp4_cut.specs.Moof.{WrittenFragment}
use Rattle.mp4_cut.specs.Reads.{FitsFields, held_moof}
use Rattle.mp4_cut.proofs.MoofLemmas.{length_trun, moof_at, moof_children, tfhd_at, traf_children, tree_is_good, trun_at, trun_of}
use Rattle.mp4_cut.proofs.RunLemmas.{count_back, entry_back, flags_back, id_back, moof_back, one_run_back, run_in, describes, trafs_back, traf_in}

trun_is_good : (f : WrittenFragment) → FitsFields f → trun_broken (trun_of f) ≡ None
unfolding trun_broken trun_fields sample_fields
trun_is_good f fits =
    let long : ltb (length (trun_of f)) 4 ≡ false = le-ltb _ _ (omega (arith, length_trun f)) in
    let small : ltb 1 f.version ≡ false = le-ltb _ _ fits.version in
    let exact : (length (trun_of f) == 12 + 16 * sample_count (trun_of f)) ≡ true = eq-eqb _ _ (omega (arith, length_trun f, count_back f fits)) in
    rw (long, small, exact) refl

pub form_is_good : (f : WrittenFragment) (seq o : ℕ) → FitsFields f → form_faults (moof_at f seq o) ≡ []
unfolding form_faults at_path broken tfhd_fields
form_is_good f seq o fits = rw (moof_children f seq o fits, traf_children f o fits, trun_is_good f fits) refl

-- ---- values

tfhd_is_good : (f : WrittenFragment) (o : ℕ) (tracks : List Track) (t : Track) → FitsFields f → track_with f.track tracks ≡ Some t → 1 ≤ f.entry → f.entry ≤ t.entries → tfhd_faults tracks (tfhd_at f o) ≡ []
unfolding tfhd_faults tfhd_fields
tfhd_is_good f o tracks t fits there low high =
    let above : ltb 0 f.entry ≡ true = lt-ltb _ _ (omega arith) in
    let below : ltb t.entries f.entry ≡ false = le-ltb _ _ (omega arith) in
    rw (id_back f fits, there, entry_back f fits, above, below) refl

trun_is_fair : (f : WrittenFragment) (o : ℕ) → trun_faults (trun_at f o) ≡ []
trun_is_fair f o = rw (flags_back f) refl

few_samples : (f : WrittenFragment) → FitsFields f → ltb most_in_moof (0 + sample_count (trun_of f)) ≡ false
few_samples f fits = le-ltb _ _ (omega (arith, count_back f fits, fits.count))

child_is_good : (f : WrittenFragment) (seq o : ℕ) → FitsFields f → child_faults (moof_at f seq o) ≡ []
unfolding child_faults at_path
child_is_good f seq o fits = rw (moof_children f seq o fits, traf_children f o fits) refl

repeat_is_good : (f : WrittenFragment) (seq o : ℕ) → FitsFields f → repeat_faults (moof_at f seq o) ≡ []
unfolding repeats lacks_time is_listed at_path
repeat_is_good f seq o fits = rw (moof_children f seq o fits, traf_children f o fits) refl

tfhds_are_good : (f : WrittenFragment) (seq o : ℕ) (tracks : List Track) (t : Track) → FitsFields f → track_with f.track tracks ≡ Some t → 1 ≤ f.entry → f.entry ≤ t.entries → along (tfhd_faults tracks) to_tfhd (moof_at f seq o) ≡ []
unfolding at_path
tfhds_are_good f seq o tracks t fits there low high =
    rw (moof_children f seq o fits, traf_children f o fits, tfhd_is_good f o tracks t fits there low high) refl

truns_are_good : (f : WrittenFragment) (seq o : ℕ) → FitsFields f → along trun_faults to_trun (moof_at f seq o) ≡ []
unfolding at_path
truns_are_good f seq o fits = rw (moof_children f seq o fits, traf_children f o fits, trun_is_fair f o) refl

count_is_good : (f : WrittenFragment) (seq o : ℕ) → FitsFields f → count_faults (moof_at f seq o) ≡ []
unfolding at_path too_many
count_is_good f seq o fits = rw (moof_children f seq o fits, traf_children f o fits, few_samples f fits) refl

pub value_is_good : (f : WrittenFragment) (seq o : ℕ) (tracks : List Track) (t : Track) → FitsFields f → track_with f.track tracks ≡ Some t → 1 ≤ f.entry → f.entry ≤ t.entries → value_faults tracks (moof_at f seq o) ≡ []
unfolding value_faults
value_is_good f seq o tracks t fits there low high =
    rw (child_is_good f seq o fits, repeat_is_good f seq o fits, tfhds_are_good f seq o tracks t fits there low high, truns_are_good f seq o fits, count_is_good f seq o fits) refl

times_are_good : (f : WrittenFragment) (seq o : ℕ) (tracks : List Track) (t : Track) → FitsFields f → track_with f.track tracks ≡ Some t → time_faults (moof_trafs (held_moof f seq o) tracks) ≡ []
times_are_good f seq o tracks t fits there =
    let run = run_in (held_moof f seq o) t f in
    let early : ltb run.end (2 ^ 64) ≡ true = lt-ltb _ _ (omega (arith, (describes f seq o t fits).end, fits.end)) in
    ap time_faults (trafs_back f seq o tracks t fits there)
    ∙ (append-nil (flat_map late (runs_of (traf_in (held_moof f seq o) t f)))
    ∙ (ap (flat_map late) (one_run_back f seq o t) ∙ rw early refl))

pub moof_is_good : (f : WrittenFragment) (seq o : ℕ) (tracks : List Track) (t : Track) → FitsFields f → track_with f.track tracks ≡ Some t → 1 ≤ f.entry → f.entry ≤ t.entries → IsRead (held_moof f seq o) tracks
unfolding fault_before_times least_from
moof_is_good f seq o tracks t fits there low high =
    let form : form_faults (moof_of (held_moof f seq o)) ≡ [] = ap form_faults (moof_back f seq o fits) ∙ form_is_good f seq o fits in
    let value : value_faults tracks (moof_of (held_moof f seq o)) ≡ [] = ap (value_faults tracks) (moof_back f seq o fits) ∙ value_is_good f seq o tracks t fits there low high in
    rw (tree_is_good f seq o fits, form, value, times_are_good f seq o tracks t fits there) refl
