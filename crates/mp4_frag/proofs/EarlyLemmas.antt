-- No run of a moof ends past 64 bits whose times are early.
use Rattle.std.proofs.Common.{◌≡◌, ◌∙◌, ◌+◌, ◌*◌, ◌-◌, ◌^◌, ◌<◌, ◌≤◌, ◌++◌, ℕ, pos, Bool, true, false, List, [], ◌∷◌, map, length, Some, None, refl, sym, ap, subst, arith}
use Rattle.std.specs.Prelude.{◌==◌, ◌&&◌, ◌||◌}
use Rattle.std.specs.List.{AllByRecursion, list_all, list_any}
use Rattle.std.specs.Option.{is_none, option_or}
use Rattle.std.proofs.lemmas.Bool.{lt-ltb, ltb-true}
use Rattle.std.proofs.lemmas.Bool.Decides.{nat_tests}
use Rattle.std.proofs.lemmas.List.Sums.{sum_by-cons}
use Rattle.mp4_box.specs.declared.rules.Fault.{Fault}
use Rattle.mp4_box.specs.Headers.{IsBytes, IsWhole}
use Rattle.mp4_box.specs.Order.{least, least_from}
use Rattle.mp4_box.proofs.OrderLemmas.{least-none}
use Rattle.mp4_box.specs.Paths.{of_kind}
use Rattle.mp4_box.specs.Trees.{Box, box_at, children, first_of}
use Rattle.mp4_init.specs.declared.table.Track.{Track}
use Rattle.mp4_traf.specs.declared.rows.Row.{Row}
use Rattle.mp4_traf.specs.declared.run.Run.{Run}
use Rattle.mp4_frag.specs.Implementation.AtOnce.{HasEarlyEnd, IsEarly, StartsEarly, TrafHasTicks, has_few, has_heads, has_one, is_early, times_early}
use Rattle.mp4_traf.specs.Implementation.Heads.{HasTicks}
use Rattle.mp4_frag.specs.Repeats.{lacks_time}
use Rattle.mp4_traf.specs.Fields.{payload_of}
use Rattle.mp4_traf.specs.Kinds.{tfdt, tfhd, traf, trun}
use Rattle.mp4_frag.specs.Moofs.{moof_of, moof_trafs, time_faults, value_faults}
use Rattle.mp4_traf.specs.TimeFaults.{time_faults_of}
use Rattle.mp4_traf.specs.Rows.{group_at, row_of}
use Rattle.mp4_frag.specs.Rules.{count_faults, form_faults}
use Rattle.mp4_traf.specs.Rules.{most_in_moof, samples_in}
use Rattle.mp4_traf.specs.Runs.{MoofBytes, Shared, base_by, known_track, run_at, tfhd_of, track_of, traf_of, trafs_by}
use Rattle.mp4_traf.specs.Tfhd.{fields_of, track_id}
use Rattle.mp4_traf.specs.Implementation.Times.{late_from, ticks_in}
use Rattle.mp4_traf.specs.Trun.{sample_count}
use Rattle.mp4_frag.proofs.MoofLemmas.{both_none, values}
use Rattle.mp4_traf.proofs.ChildLemmas.{path_kind}
use Rattle.mp4_frag.proofs.PlaceLemmas.{Lies, children_lie, kind_all, moof_lies}
use Rattle.mp4_traf.proofs.RangeLemmas.{field_small, small_sum}
use Rattle.mp4_frag.proofs.SoundLemmas.{number_or_small, tfhd_bytes, trafs_few}
use Rattle.mp4_traf.proofs.TimeLemmas.{late_are}

-- ---- the ticks of a run

ticks_small : (run : Run) (moof_bytes : List ℕ) (i : ℕ) → IsBytes moof_bytes → run.duration < 2 ^ 32 → (row_of run moof_bytes i).duration < 2 ^ 32
unfolding row_of
ticks_small run moof_bytes i fits small = field_small moof_bytes (group_at run i) run.fields.sample_duration run.duration fits small

few_ticks : (s : Shared) (b : Box) → IsBytes s.moof.bytes → s.header.duration < 2 ^ 32 → ticks_in s b ≤ 4294967295 * sample_count b.payload
unfolding run_at ticks_in
few_ticks s b fits small =
    let run = run_at s 0 (pos 0) b in
    let sum = small_sum (λ (row : Row). row.duration) (row_of run s.moof.bytes) 0 (run.count - 0) (λ i. ticks_small run s.moof.bytes i fits small) in
    omega (arith, sum)

-- ---- the runs of a traf

none_late : (s : Shared) (time : ℕ) (bs : List Box) → IsBytes s.moof.bytes → s.header.duration < 2 ^ 32 → time + 4294967295 * samples_in bs < 2 ^ 64 → late_from s time bs ≡ []
unfolding late_from
none_late s time [] fits small room = refl
none_late s time (b ∷ bs) fits small room =
    let sum = sum_by-cons (λ (b : Box). sample_count b.payload) b bs in
    let few = few_ticks s b fits small in
    rw (lt-ltb (time + ticks_in s b) (2 ^ 64) (omega (arith, sum, few, room))) (none_late s (time + ticks_in s b) bs fits small (omega (arith, sum, few, room)))

-- ---- the base time and the default duration of a traf

pub both_true : (a b : Bool) → a && b ≡ true → (a ≡ true) × (b ≡ true)
both_true true b e = (refl, e)
both_true false b e = absurd cc

base_early : (next : ℕ) (bs : List Box) → list_all is_early bs ≡ true → (is_none (first_of bs) ≡ true → next < 2 ^ 63) → base_by next (first_of bs) < 2 ^ 63
base_early next [] early ends = ends refl
base_early next (b ∷ bs) early ends = by (is_early b) refl early
  where
    by : (u : Bool) → is_early b ≡ u → (u && list_all is_early bs) ≡ true → base_by next (Some b) < 2 ^ 63
    by true is e = ltb-true _ (2 ^ 63) is
    by false is e = absurd cc

starts_early : (tracks : List Track) (t : Box) → times_early t ≡ true → HasEarlyEnd tracks t → StartsEarly tracks t
unfolding lacks_time
starts_early tracks t early ends =
    subst (λ (bs : List Box). base_by (track_of tracks t).next (first_of bs) < 2 ^ 63) (sym (path_kind tfdt t))
    (base_early (track_of tracks t).next (of_kind tfdt (children t)) early (λ none. ends (ap (λ (bs : List Box). is_none (first_of bs)) (path_kind tfdt t) ∙ none)))

-- each tfdt is early, and so is the end of each track whose traf has none
pub trafs_start : (tracks : List Track) (ts : List Box) → list_all times_early ts ≡ true → AllByRecursion (HasEarlyEnd tracks) ts → AllByRecursion (StartsEarly tracks) ts
trafs_start tracks [] early ends = tt
trafs_start tracks (t ∷ ts) early ends =
    let soon = both_true (times_early t) (list_all times_early ts) early in
    (starts_early tracks t soon.0 ends.0, trafs_start tracks ts soon.1 ends.1)

-- each traf has a tfdt
pub none_untimed : (tracks : List Track) (ts : List Box) → list_any lacks_time ts ≡ false → AllByRecursion (HasEarlyEnd tracks) ts
none_untimed tracks [] timed = tt
none_untimed tracks (t ∷ ts) timed = by (lacks_time t) refl (none_untimed tracks ts) timed
  where
    by : (u : Bool) → lacks_time t ≡ u → (list_any lacks_time ts ≡ false → AllByRecursion (HasEarlyEnd tracks) ts) → u || list_any lacks_time ts ≡ false → AllByRecursion (HasEarlyEnd tracks) (t ∷ ts)
    by true is later e = absurd cc
    by false is later e = (λ lacks. absurd cc, later e)

short : (tracks : List Track) (bs : List Box) → (length bs == 1) ≡ true → AllByRecursion (HasTicks tracks) bs → (known_track (track_id (payload_of (first_of bs))) tracks).duration < 2 ^ 32
short tracks [] one all = absurd (grind (arith, nat_tests))
short tracks (b ∷ bs) one all = all.0

pub begun_in_time : (h : MoofBytes) (tracks : List Track) (t : Box) → IsBytes h.bytes → Lies h t → samples_in (of_kind trun (children t)) ≤ most_in_moof → StartsEarly tracks t → (track_of tracks t).duration < 2 ^ 32 → time_faults_of (traf_of h tracks t) ≡ []
unfolding traf_of
begun_in_time h tracks t fits lies few early track =
    let f = traf_of h tracks t in
    let small : f.shared.header.duration < 2 ^ 32 = number_or_small (tfhd_of t) (fields_of (tfhd_of t)).default_sample_duration (track_of tracks t).duration (tfhd_bytes h t lies) track in
    late_are f.shared f.time (pos h.offset) f.truns ∙ none_late f.shared f.time f.truns fits small (omega (arith, early, few))

traf_in_time : (h : MoofBytes) (tracks : List Track) (t : Box) → IsBytes h.bytes → Lies h t → samples_in (of_kind trun (children t)) ≤ most_in_moof → has_heads t ≡ true → StartsEarly tracks t → TrafHasTicks tracks t → time_faults_of (traf_of h tracks t) ≡ []
traf_in_time h tracks t fits lies few heads early ticks =
    let one = (both_true (has_one tfhd t) (has_few tfdt t) heads).0 in
    begun_in_time h tracks t fits lies few early
    (subst (λ (bs : List Box). (known_track (track_id (payload_of (first_of bs))) tracks).duration < 2 ^ 32) (sym (path_kind tfhd t)) (short tracks (of_kind tfhd (children t)) one ticks))

-- ---- the trafs of a moof

trafs_in_time : (h : MoofBytes) (tracks : List Track) (ts : List Box) → IsBytes h.bytes → AllByRecursion (Lies h) ts → AllByRecursion (λ (t : Box). samples_in (of_kind trun (children t)) ≤ most_in_moof) ts
    → list_all has_heads ts ≡ true → AllByRecursion (StartsEarly tracks) ts → AllByRecursion (TrafHasTicks tracks) ts → time_faults (map (traf_of h tracks) ts) ≡ []
trafs_in_time h tracks [] fits lie few heads early ticks = refl
trafs_in_time h tracks (t ∷ ts) fits lie few heads early ticks =
    let has = both_true (has_heads t) (list_all has_heads ts) heads in
    ap (λ (fs : List Fault). fs ++ time_faults (map (traf_of h tracks) ts)) (traf_in_time h tracks t fits lie.0 few.0 has.0 early.0 ticks.0) ∙ trafs_in_time h tracks ts fits lie.1 few.1 has.1 early.1 ticks.1

pub early_in_time : (h : MoofBytes) (tracks : List Track) (m : Box) → IsWhole h.bytes → IsBytes h.bytes → box_at h.offset h.bytes ≡ Some m → moof_of h ≡ m → count_faults m ≡ [] → IsEarly tracks m → time_faults (moof_trafs h tracks) ≡ []
early_in_time h tracks m whole fits here is count early =
    let lie = kind_all (Lies h) traf (children m) (children_lie h m (moof_lies h m whole fits here)) in
    ap (λ (b : Box). time_faults (trafs_by h tracks (children b))) is
    ∙ trafs_in_time h tracks (of_kind traf (children m)) fits lie (trafs_few m count) early.heads early.times early.ticks

-- ---- where nothing else is at fault

pub values_count : (tracks : List Track) (m : Box) → value_faults tracks m ≡ [] → count_faults m ≡ []
values_count tracks m none = (values tracks m none).count

pub content_count : (tracks : List Track) (m : Box) → None ≡ option_or (least (form_faults m)) (least (value_faults tracks m)) → count_faults m ≡ []
content_count tracks m e = (values tracks m (least-none (value_faults tracks m) (both_none (least (form_faults m)) (least (value_faults tracks m)) (sym e)).1)).count

pub none_least : (fs : List Fault) → fs ≡ [] → None ≡ least fs
unfolding least_from
none_least fs none = rw none refl
