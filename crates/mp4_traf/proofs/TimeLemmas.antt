-- Which runs end past 64 bits.
use Rattle.std.proofs.Common.{◌≡◌, ◌∙◌, ◌+◌, ◌*◌, ◌++◌, ℕ, ℤ, pos, Bool, true, false, not, Option, Some, None, List, [], ◌∷◌, refl, sym, ap}
use Rattle.std.specs.List.{flat_map}
use Rattle.std.specs.Option.{is_none, is_some}
use Rattle.mp4_box.specs.declared.rules.Fault.{Fault}
use Rattle.mp4_box.specs.Trees.{Box}
use Rattle.mp4_traf.specs.declared.run.Run.{Run}
use Rattle.mp4_traf.specs.Fields.{flags_in}
use Rattle.mp4_traf.specs.Trun.{sample_count, sample_fields}
use Rattle.mp4_traf.proofs.RowLemmas.{durations_by_product}
use Rattle.mp4_traf.specs.Rows.{row_of, group_at, rows_of, durations, sizes}
use Rattle.mp4_traf.specs.Runs.{Shared, run_at, run_of, runs_from, end_place}
use Rattle.mp4_traf.specs.TimeFaults.{late}
use Rattle.mp4_traf.specs.Implementation.Times.{ticks_in, late_at, late_from}

-- the durations of a run don't depend on its time or its place
pub ticks_are : (s : Shared) (time : ℕ) (last : ℤ) (b : Box) → durations (rows_of (run_at s time last b) s.moof.bytes) ≡ ticks_in s b
unfolding run_at row_of group_at ticks_in
ticks_are s time last b = refl

pub ticks_by_product : (s : Shared) (b : Box) → is_none (sample_fields (flags_in b.payload)).sample_duration ≡ true → s.header.duration * sample_count b.payload ≡ ticks_in s b
unfolding run_at ticks_in
ticks_by_product s b none = sym (durations_by_product (run_at s 0 (pos 0) b) s.moof.bytes none)

pub none_found : (o : Option ℕ) (found : Bool) → is_some o ≡ not found → found ≡ true → is_none o ≡ true
none_found None found e is = refl
none_found (Some n) true e is = absurd cc
none_found (Some n) false e is = absurd cc

pub end_is : (s : Shared) (time : ℕ) (last : ℤ) (b : Box) → (run_of s time last b).end ≡ time + ticks_in s b
unfolding run_of run_at row_of group_at ticks_in
end_is s time last b = refl

late_one : (s : Shared) (time : ℕ) (last : ℤ) (b : Box) → late (run_of s time last b) ≡ late_at (time + ticks_in s b) b
unfolding run_of run_at row_of group_at ticks_in
late_one s time last b = refl

pub late_are : (s : Shared) (time : ℕ) (last : ℤ) (bs : List Box) → flat_map late (runs_from s time last bs) ≡ late_from s time bs
unfolding runs_from late_from
late_are s time last [] = refl
late_are s time last (b ∷ bs) =
    let run = run_of s time last b in
    ap (λ (fs : List Fault). fs ++ flat_map late (runs_from s run.end (end_place run) bs)) (late_one s time last b)
    ∙ ap (λ (fs : List Fault). late_at (time + ticks_in s b) b ++ fs) (late_are s run.end (end_place run) bs ∙ ap (λ (t : ℕ). late_from s t bs) (end_is s time last b))

pub ticks_of_run : (s : Shared) (time : ℕ) (last : ℤ) (b : Box) (run : Run) (ticks : ℕ) → ticks ≡ durations (rows_of run s.moof.bytes) → run ≡ run_at s time last b → ticks ≡ ticks_in s b
ticks_of_run s time last b run ticks e f = e ∙ ap (λ (r : Run). durations (rows_of r s.moof.bytes)) f ∙ ticks_are s time last b

pub run_is : (s : Shared) (time : ℕ) (last : ℤ) (b : Box) (run : Run) (ticks bytes : ℕ) → run ≡ run_at s time last b → ticks ≡ durations (rows_of run s.moof.bytes) → bytes ≡ sizes (rows_of run s.moof.bytes)
    → record run { end = time + ticks; bytes = bytes } ≡ run_of s time last b
unfolding run_of run_at
run_is s time last b run ticks bytes e t z = rw (t, z, e) refl
