-- The sums over the trafs of a moof.
use Rattle.std.proofs.Common.{◌≡◌, ◌∙◌, ◌+◌, ◌^◌, ◌≤◌, pos, List, [], ◌∷◌, map, length, refl, sym, ap, arith, inl, inr}
use Rattle.std.specs.List.{AllByRecursion, flat_map, sum_by}
use Rattle.std.proofs.lemmas.List.Sorted.{sum_by-IsPermutation}
use Rattle.std.proofs.lemmas.List.Sums.{sum_by-append, sum_by-cons}
use Rattle.mp4_box.specs.Headers.{IsBytes, IsWhole}
use Rattle.mp4_box.specs.Paths.{at_path, of_kind}
use Rattle.mp4_box.specs.Trees.{Box, box_at, children}
use Rattle.mp4_box.proofs.GrammarLemmas.{option_is, whole_found}
use Rattle.mp4_init.specs.declared.table.Track.{Track}
use Rattle.mp4_run_order.proofs.OrderLemmas.{taken_permutes}
use Rattle.mp4_traf.specs.Kinds.{traf, trun}
use Rattle.mp4_frag.specs.Moofs.{IsRead, moof_of, moof_runs, moof_samples, moof_trafs}
use Rattle.mp4_frag.specs.Places.{listed_run}
use Rattle.mp4_frag.specs.RunLists.{taken_runs}
use Rattle.mp4_traf.specs.declared.run.Run.{Run}
use Rattle.mp4_traf.specs.Ranges.{IsSound}
use Rattle.mp4_traf.specs.Rules.{samples_in}
use Rattle.mp4_traf.specs.Runs.{MoofBytes, TrackFragment, runs_of, traf_of}
use Rattle.mp4_traf.specs.Trun.{sample_count}
use Rattle.mp4_traf.specs.TrafTotals.{bytes_in_traf, samples_in_traf}
use Rattle.mp4_frag.proofs.MoofLemmas.{moof_is}
use Rattle.mp4_frag.proofs.SoundLemmas.{all_sound, trun_path}
use Rattle.mp4_traf.proofs.TrafTotalLemmas.{counts_are}

traf_samples : (h : MoofBytes) (tracks : List Track) (t : Box) → samples_in_traf (traf_of h tracks t) ≡ samples_in (at_path (trun ∷ []) t)
unfolding traf_of
traf_samples h tracks t =
    counts_are (traf_of h tracks t).shared (traf_of h tracks t).time (pos h.offset) (of_kind trun (children t)) ∙ ap samples_in (sym (trun_path t))

trafs_samples : (h : MoofBytes) (tracks : List Track) (ts : List Box) → sum_by samples_in_traf (map (traf_of h tracks) ts) ≡ samples_in (flat_map (at_path (trun ∷ [])) ts)
trafs_samples h tracks [] = refl
trafs_samples h tracks (t ∷ ts) =
    let more = sum_by-cons samples_in_traf (traf_of h tracks t) (map (traf_of h tracks) ts) in
    let sum = sum_by-append (λ (b : Box). sample_count b.payload) (at_path (trun ∷ []) t) (flat_map (at_path (trun ∷ [])) ts) in
    omega (arith, more, sum, traf_samples h tracks t, trafs_samples h tracks ts)

-- all samples of a moof are those of its trafs
pub all_samples : (h : MoofBytes) (tracks : List Track) → sum_by samples_in_traf (moof_trafs h tracks) ≡ moof_samples h
unfolding at_path
all_samples h tracks = trafs_samples h tracks (of_kind traf (children (moof_of h)))

trafs_bytes : (ts : List TrackFragment) → sum_by bytes_in_traf ts ≡ sum_by (λ (run : Run). run.bytes) (flat_map runs_of ts)
trafs_bytes [] = refl
trafs_bytes (t ∷ ts) =
    let more = sum_by-cons bytes_in_traf t ts in
    let sum = sum_by-append (λ (run : Run). run.bytes) (runs_of t) (flat_map runs_of ts) in
    omega (arith, more, sum, trafs_bytes ts)

-- and so are their bytes, in whichever order the runs are taken
pub all_bytes : (h : MoofBytes) (tracks : List Track) → sum_by bytes_in_traf (moof_trafs h tracks) ≡ sum_by (λ (run : Run). run.bytes) (taken_runs h tracks)
all_bytes h tracks =
    trafs_bytes (moof_trafs h tracks)
    ∙ sym (sum_by-IsPermutation (λ (run : Run). run.bytes) (moof_runs h tracks) (taken_runs h tracks) (taken_permutes listed_run (moof_runs h tracks)))

-- the trafs of a moof without a fault have few samples, and end in time
pub moof_sound : (h : MoofBytes) (tracks : List Track) → h.offset + length h.bytes ≤ 2 ^ 62 → IsWhole h.bytes → IsBytes h.bytes → IsRead h tracks → AllByRecursion IsSound (moof_trafs h tracks)
moof_sound h tracks near whole fits read = elim (option_is (box_at h.offset h.bytes)) [
  | inl none ↦ absurd (whole_found h.offset h.bytes whole none)
  | inr some ↦ all_sound h tracks some.0 (omega (arith, near)) whole fits some.1 (moof_is h.offset h.bytes some.0 some.1) read
]
