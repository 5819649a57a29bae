-- The trafs of a moof without a fault.
use Rattle.std.proofs.Common.{◌≡◌, ◌∙◌, ◌+◌, ◌^◌, ◌<◌, ◌≤◌, ℕ, ℤ, pos, zero, suc, Bool, true, false, cond, ltb, List, [], ◌∷◌, ◌++◌, map, length, Option, Some, None, refl, sym, ap, subst, arith, inl, inr}
use Rattle.std.specs.Prelude.{◌==◌, slice_get}
use Rattle.std.specs.List.{AllByRecursion, flat_map, position}
use Rattle.std.specs.Option.{option_and_then, unwrap_or}
use Rattle.std.proofs.lemmas.Bool.{ltb-false, ltb-true}
use Rattle.std.proofs.lemmas.Grind.{flat_map-append}
use Rattle.std.proofs.lemmas.List.{length-append}
use Rattle.std.proofs.lemmas.List.Sums.{sum_by-cons, sum_by-append}
use Rattle.mp4_box.specs.declared.rules.Rule.TheVariants.{TooManySamples}
use Rattle.mp4_box.specs.Headers.{IsBytes, IsWhole}
use Rattle.mp4_box.specs.Paths.{of_kind, at_path}
use Rattle.mp4_box.specs.Trees.{Box, box_at, children, fault_at, first_of}
use Rattle.mp4_box.proofs.GrammarLemmas.{option_is, whole_found}
use Rattle.mp4_init.specs.declared.table.Track.{Track}
use Rattle.mp4_traf.specs.declared.run.Run.{Run}
use Rattle.mp4_traf.specs.Kinds.{tfhd, traf, trun, to_trun}
use Rattle.mp4_traf.specs.Fields.{flags_in, number_or, payload_of}
use Rattle.mp4_traf.specs.Tfhd.{fields_of, track_id}
use Rattle.mp4_traf.specs.Trun.{sample_count, sample_duration_present}
use Rattle.mp4_traf.specs.Settling.{timed, timed_in, timed_of}
use Rattle.mp4_frag.specs.Rules.{count_faults, samples_of, too_many}
use Rattle.mp4_traf.specs.Rules.{most_in_moof, samples_in}
use Rattle.mp4_traf.specs.Rows.{rows_of}
use Rattle.mp4_traf.specs.Runs.{MoofBytes, Shared, end_place, run_at, no_track, run_of, runs_from, runs_of, tfhd_of, track_of, traf_of, trafs_by}
use Rattle.mp4_frag.specs.Moofs.{IsRead, moof_of, moof_runs, moof_samples, moof_trafs, time_faults}
use Rattle.mp4_traf.specs.TimeFaults.{late, late_fault, time_faults_of}
use Rattle.mp4_traf.specs.Ranges.{InRange, IsSound}
use Rattle.mp4_frag.proofs.MoofLemmas.{last_none, moof_is, read_count, read_times}
use Rattle.mp4_box.proofs.ByteLemmas.{number_small}
use Rattle.mp4_traf.proofs.RangeLemmas.{in_range}
use Rattle.mp4_traf.proofs.RowLemmas.{length_rows_of}
use Rattle.mp4_frag.proofs.PlaceLemmas.{Lies, children_lie, kind_all, moof_lies}

-- ---- ends

late_none : (run : Run) → late run ≡ [] → run.end < 2 ^ 64
late_none run e = by (ltb run.end (2 ^ 64)) refl e
  where
    by : (t : Bool) → ltb run.end (2 ^ 64) ≡ t → cond t [] (late_fault run ∷ []) ≡ [] → run.end < 2 ^ 64
    by true t e = ltb-true run.end (2 ^ 64) t
    by false t e = absurd cc

none_late : (runs : List Run) → flat_map late runs ≡ [] → AllByRecursion (λ (run : Run). run.end < 2 ^ 64) runs
none_late [] e = tt
none_late (run ∷ runs) e = let both = last_none (late run) (flat_map late runs) e in (late_none run both.0, none_late runs both.1)

-- ---- counts

few_from : (n : ℕ) (bs : List Box) → n ≤ most_in_moof → too_many n bs ≡ [] → n + samples_in bs ≤ most_in_moof
unfolding too_many
few_from n [] h e = omega (arith, h)
few_from n (b ∷ bs) h e = by (ltb most_in_moof (n + sample_count b.payload)) refl (few_from (n + sample_count b.payload) bs) e
  where
    by : (t : Bool) → ltb most_in_moof (n + sample_count b.payload) ≡ t → (n + sample_count b.payload ≤ most_in_moof → too_many (n + sample_count b.payload) bs ≡ [] → n + sample_count b.payload + samples_in bs ≤ most_in_moof) → cond t (fault_at TooManySamples b ∷ []) (too_many (n + sample_count b.payload) bs) ≡ [] → n + samples_in (b ∷ bs) ≤ most_in_moof
    by true t later e = absurd cc
    by false t later e =
        omega (arith, later (ltb-false most_in_moof (n + sample_count b.payload) t) e, sum_by-cons (λ (b : Box). sample_count b.payload) b bs)

path_one : (bs : List Box) → flat_map (at_path []) bs ≡ bs
unfolding at_path
path_one [] = refl
path_one (b ∷ bs) = ap (λ (cs : List Box). b ∷ cs) (path_one bs)

pub trun_path : (b : Box) → at_path (trun ∷ []) b ≡ of_kind trun (children b)
unfolding at_path
trun_path b = path_one (of_kind trun (children b))

all_few : (n : ℕ) (ts : List Box) → samples_in (flat_map (at_path (trun ∷ [])) ts) ≤ n → AllByRecursion (λ (t : Box). samples_in (of_kind trun (children t)) ≤ n) ts
all_few n [] h = tt
all_few n (t ∷ ts) h =
    let sum = sum_by-append (λ (b : Box). sample_count b.payload) (at_path (trun ∷ []) t) (flat_map (at_path (trun ∷ [])) ts) in
    let here : samples_in (at_path (trun ∷ []) t) ≡ samples_in (of_kind trun (children t)) = ap samples_in (trun_path t) in (
      omega (arith, h, sum, here),
      all_few n ts (omega (arith, h, sum)),
    )

pub trafs_few : (m : Box) → count_faults m ≡ [] → AllByRecursion (λ (t : Box). samples_in (of_kind trun (children t)) ≤ most_in_moof) (of_kind traf (children m))
unfolding at_path
trafs_few m e = all_few most_in_moof (of_kind traf (children m)) (omega (arith, few_from 0 (at_path to_trun m) (omega arith) e))

-- ---- all

lies_bytes : (h : MoofBytes) (bs : List Box) → AllByRecursion (Lies h) bs → AllByRecursion (λ (b : Box). IsBytes b.payload) bs
lies_bytes h [] all = tt
lies_bytes h (b ∷ bs) all = (all.0.bytes, lies_bytes h bs all.1)

traf_sound : (h : MoofBytes) (tracks : List Track) (t : Box) → h.offset ≤ 2 ^ 62 → IsBytes h.bytes → Lies h t → samples_in (of_kind trun (children t)) ≤ most_in_moof → time_faults_of (traf_of h tracks t) ≡ [] → IsSound (traf_of h tracks t)
unfolding traf_of
traf_sound h tracks t near fits lies few times = record {
  near = near;
  moof_bytes = fits;
  truns = lies_bytes h (of_kind trun (children t)) (kind_all (Lies h) trun (children t) (children_lie h t lies));
  few = few;
  ends = none_late (runs_of (traf_of h tracks t)) times;
}

trafs_sound : (h : MoofBytes) (tracks : List Track) (ts : List Box) → h.offset ≤ 2 ^ 62 → IsBytes h.bytes → AllByRecursion (Lies h) ts → AllByRecursion (λ (t : Box). samples_in (of_kind trun (children t)) ≤ most_in_moof) ts
    → time_faults (map (traf_of h tracks) ts) ≡ [] → AllByRecursion IsSound (map (traf_of h tracks) ts)
trafs_sound h tracks [] near fits lie few times = tt
trafs_sound h tracks (t ∷ ts) near fits lie few times =
    let both = last_none (time_faults_of (traf_of h tracks t)) (time_faults (map (traf_of h tracks) ts)) times in
    (traf_sound h tracks t near fits lie.0 few.0 both.0, trafs_sound h tracks ts near fits lie.1 few.1 both.1)

-- the moof is a box that its bytes are
pub all_sound : (h : MoofBytes) (tracks : List Track) (m : Box) → h.offset ≤ 2 ^ 62 → IsWhole h.bytes → IsBytes h.bytes → box_at h.offset h.bytes ≡ Some m → moof_of h ≡ m → IsRead h tracks → AllByRecursion IsSound (moof_trafs h tracks)
all_sound h tracks m near whole fits here is e =
    let lie = kind_all (Lies h) traf (children m) (children_lie h m (moof_lies h m whole fits here)) in
    let few = trafs_few m (ap count_faults (sym is) ∙ read_count h tracks e) in
    let times : time_faults (trafs_by h tracks (children m)) ≡ [] = ap (λ (b : Box). time_faults (trafs_by h tracks (children b))) (sym is) ∙ read_times h tracks e in
    subst (λ (b : Box). AllByRecursion IsSound (trafs_by h tracks (children b))) (sym is) (trafs_sound h tracks (of_kind traf (children m)) near fits lie few times)

-- ---- the samples that have durations of their own

timed_few : (p : List ℕ) → timed p ≤ sample_count p
timed_few p = by (sample_duration_present (flags_in p))
  where
    by : (t : Bool) → cond t (sample_count p) 0 ≤ sample_count p
    by true = omega arith
    by false = omega arith

all_timed_few : (bs : List Box) → timed_in bs ≤ samples_in bs
all_timed_few [] = omega arith
all_timed_few (b ∷ bs) =
    omega (arith, timed_few b.payload, all_timed_few bs, sum_by-cons (λ (b : Box). timed b.payload) b bs, sum_by-cons (λ (b : Box). sample_count b.payload) b bs)

-- they are few, as all samples are
pub record FewTimed (m : Box) : Type 0 where
  pub timed : timed_of m ≤ samples_of m
  pub most : samples_of m ≤ most_in_moof

pub few_timed : (m : Box) → count_faults m ≡ [] → FewTimed m
few_timed m e = record { timed = all_timed_few (at_path to_trun m); most = omega (arith, few_from 0 (at_path to_trun m) (omega arith) e) }

-- ---- the rows of all runs

run_count : (s : Shared) (time : ℕ) (last : ℤ) (b : Box) → (run_of s time last b).count ≡ sample_count b.payload
unfolding run_of run_at
run_count s time last b = refl

-- how many rows runs have
abbrev pub rows_in : List ℕ → List Run → ℕ
rows_in moof_bytes runs = length (flat_map (λ (run : Run). rows_of run moof_bytes) runs)

rows_append : (moof_bytes : List ℕ) (xs ys : List Run) → rows_in moof_bytes (xs ++ ys) ≡ rows_in moof_bytes xs + rows_in moof_bytes ys
rows_append moof_bytes xs ys =
    ap length (flat_map-append (λ (run : Run). rows_of run moof_bytes) xs ys) ∙ length-append (flat_map (λ (run : Run). rows_of run moof_bytes) xs) (flat_map (λ (run : Run). rows_of run moof_bytes) ys)

count_runs : (moof_bytes : List ℕ) (s : Shared) (time : ℕ) (last : ℤ) (bs : List Box) → rows_in moof_bytes (runs_from s time last bs) ≡ samples_in bs
unfolding runs_from
count_runs moof_bytes s time last [] = refl
count_runs moof_bytes s time last (b ∷ bs) =
    let run = run_of s time last b in
    let rest = count_runs moof_bytes s run.end (end_place run) bs in
    let more = length-append (rows_of run moof_bytes) (flat_map (λ (run : Run). rows_of run moof_bytes) (runs_from s run.end (end_place run) bs)) in
    omega (arith, more, rest, length_rows_of run moof_bytes, run_count s time last b, sum_by-cons (λ (b : Box). sample_count b.payload) b bs)

count_traf : (h : MoofBytes) (tracks : List Track) (t : Box) → rows_in h.bytes (runs_of (traf_of h tracks t)) ≡ samples_in (of_kind trun (children t))
unfolding traf_of
count_traf h tracks t = count_runs h.bytes (traf_of h tracks t).shared (traf_of h tracks t).time (pos h.offset) (of_kind trun (children t))

count_trafs : (h : MoofBytes) (tracks : List Track) (ts : List Box) → rows_in h.bytes (flat_map runs_of (map (traf_of h tracks) ts)) ≡ samples_in (flat_map (at_path (trun ∷ [])) ts)
count_trafs h tracks [] = refl
count_trafs h tracks (t ∷ ts) =
    let more = rows_append h.bytes (runs_of (traf_of h tracks t)) (flat_map runs_of (map (traf_of h tracks) ts)) in
    let sum = sum_by-append (λ (b : Box). sample_count b.payload) (at_path (trun ∷ []) t) (flat_map (at_path (trun ∷ [])) ts) in
    let here : samples_in (at_path (trun ∷ []) t) ≡ samples_in (of_kind trun (children t)) = ap samples_in (trun_path t) in
    omega (arith, more, sum, here, count_traf h tracks t, count_trafs h tracks ts)

pub rows_are_samples : (h : MoofBytes) (tracks : List Track) → rows_in h.bytes (moof_runs h tracks) ≡ moof_samples h
unfolding at_path
rows_are_samples h tracks = count_trafs h tracks (of_kind traf (children (moof_of h)))

-- ---- the range of all runs

pub number_or_small : (p : List ℕ) (o : Option ℕ) (common_layout : ℕ) → IsBytes p → common_layout < 2 ^ 32 → number_or p o common_layout < 2 ^ 32
number_or_small p None common_layout fits small = small
number_or_small p (Some at) common_layout fits small = number_small p at fits

found_small : (tracks : List Track) (i : ℕ) → AllByRecursion (λ (t : Track). t.size < 2 ^ 32) tracks → (unwrap_or (slice_get tracks i) no_track).size < 2 ^ 32
found_small [] i small = omega arith
found_small (t ∷ ts) zero small = small.0
found_small (t ∷ ts) (suc i) small = found_small ts i small.1

track_small : (tracks : List Track) (o : Option ℕ) → AllByRecursion (λ (t : Track). t.size < 2 ^ 32) tracks → (unwrap_or (option_and_then (slice_get tracks) o) no_track).size < 2 ^ 32
track_small tracks None small = omega arith
track_small tracks (Some i) small = found_small tracks i small

payload_bytes : (h : MoofBytes) (bs : List Box) → AllByRecursion (Lies h) bs → IsBytes (payload_of (first_of bs))
payload_bytes h [] lie = λ i. omega arith
payload_bytes h (b ∷ bs) lie = lie.0.bytes

pub tfhd_bytes : (h : MoofBytes) (t : Box) → Lies h t → IsBytes (tfhd_of t)
unfolding at_path
tfhd_bytes h t lies =
    subst (λ (bs : List Box). IsBytes (payload_of (first_of bs))) (sym (path_one (of_kind tfhd (children t)))) (payload_bytes h (of_kind tfhd (children t)) (kind_all (Lies h) tfhd (children t) (children_lie h t lies)))

size_small : (h : MoofBytes) (tracks : List Track) (t : Box) → Lies h t → AllByRecursion (λ (t : Track). t.size < 2 ^ 32) tracks → (traf_of h tracks t).shared.header.size < 2 ^ 32
unfolding traf_of
size_small h tracks t lies small =
    number_or_small (tfhd_of t) (fields_of (tfhd_of t)).default_sample_size (track_of tracks t).size (tfhd_bytes h t lies) (track_small tracks (position (λ (x : Track). x.id == track_id (tfhd_of t)) tracks) small)

range_append : (xs ys : List Run) → AllByRecursion InRange xs → AllByRecursion InRange ys → AllByRecursion InRange (xs ++ ys)
range_append [] ys all rest = rest
range_append (x ∷ xs) ys all rest = (all.0, range_append xs ys all.1 rest)

trafs_in_range : (h : MoofBytes) (tracks : List Track) (ts : List Box) → AllByRecursion (λ (t : Track). t.size < 2 ^ 32) tracks → AllByRecursion (Lies h) ts → AllByRecursion IsSound (map (traf_of h tracks) ts) → AllByRecursion InRange (flat_map runs_of (map (traf_of h tracks) ts))
trafs_in_range h tracks [] small lie sound = tt
trafs_in_range h tracks (t ∷ ts) small lie sound =
    range_append (runs_of (traf_of h tracks t)) (flat_map runs_of (map (traf_of h tracks) ts)) (in_range (traf_of h tracks t) (size_small h tracks t lie.0 small) sound.0) (trafs_in_range h tracks ts small lie.1 sound.1)

pub all_in_range : (h : MoofBytes) (tracks : List Track) → IsWhole h.bytes → IsBytes h.bytes → h.offset + length h.bytes ≤ 2 ^ 62 → AllByRecursion (λ (t : Track). t.size < 2 ^ 32) tracks → IsRead h tracks → AllByRecursion InRange (moof_runs h tracks)
all_in_range h tracks whole fits room small read =
    elim (option_is (box_at h.offset h.bytes)) [
      | inl none ↦ absurd (whole_found h.offset h.bytes whole none)
      | inr some ↦
          let m = some.0 in
          let is = moof_is h.offset h.bytes m some.1 in
          let sound : AllByRecursion IsSound (trafs_by h tracks (children m)) = subst (λ (b : Box). AllByRecursion IsSound (trafs_by h tracks (children b))) is (all_sound h tracks m (omega (arith, room)) whole fits some.1 is read) in
          subst (λ (b : Box). AllByRecursion InRange (flat_map runs_of (trafs_by h tracks (children b)))) (sym is)
          (trafs_in_range h tracks (of_kind traf (children m)) small (kind_all (Lies h) traf (children m) (children_lie h m (moof_lies h m whole fits some.1))) sound)
    ]

-- ---- the default size of all runs

abbrev HasSize : Run → Type 0
HasSize run = run.size < 2 ^ 32

sizes_append : (xs ys : List Run) → AllByRecursion HasSize xs → AllByRecursion HasSize ys → AllByRecursion HasSize (xs ++ ys)
sizes_append [] ys all rest = rest
sizes_append (x ∷ xs) ys all rest = (all.0, sizes_append xs ys all.1 rest)

runs_small : (s : Shared) (time : ℕ) (last : ℤ) (bs : List Box) → s.header.size < 2 ^ 32 → AllByRecursion HasSize (runs_from s time last bs)
unfolding runs_from run_of run_at
runs_small s time last [] small = tt
runs_small s time last (b ∷ bs) small = (small, runs_small s (run_of s time last b).end (end_place (run_of s time last b)) bs small)

trafs_small : (h : MoofBytes) (tracks : List Track) (ts : List Box) → AllByRecursion (λ (t : Track). t.size < 2 ^ 32) tracks → AllByRecursion (Lies h) ts → AllByRecursion HasSize (flat_map runs_of (map (traf_of h tracks) ts))
trafs_small h tracks [] small lie = tt
trafs_small h tracks (t ∷ ts) small lie =
    let f = traf_of h tracks t in
    sizes_append (runs_of f) (flat_map runs_of (map (traf_of h tracks) ts)) (runs_small f.shared f.time (pos f.shared.moof.offset) f.truns (size_small h tracks t lie.0 small)) (trafs_small h tracks ts small lie.1)

pub all_small : (h : MoofBytes) (tracks : List Track) → IsWhole h.bytes → IsBytes h.bytes → AllByRecursion (λ (t : Track). t.size < 2 ^ 32) tracks → AllByRecursion (λ (run : Run). run.size < 2 ^ 32) (moof_runs h tracks)
all_small h tracks whole fits small =
    elim (option_is (box_at h.offset h.bytes)) [
      | inl none ↦ absurd (whole_found h.offset h.bytes whole none)
      | inr some ↦
          let m = some.0 in
          subst (λ (b : Box). AllByRecursion HasSize (flat_map runs_of (trafs_by h tracks (children b)))) (sym (moof_is h.offset h.bytes m some.1))
          (trafs_small h tracks (of_kind traf (children m)) small (kind_all (Lies h) traf (children m) (children_lie h m (moof_lies h m whole fits some.1))))
    ]
