-- Where the trafs of a moof end, as it is kept while its runs are gone over.
use Rattle.std.proofs.Common.{◌≡◌, ◌∙◌, ◌<◌, ◌^◌, ℕ, ℤ, pos, zero, suc, List, [], ◌∷◌, ◌++◌, length, refl, sym, ap, arith}
use Rattle.std.specs.Prelude.{map, take, true, false, Bool, if◌then◌else◌}
use Rattle.std.specs.List.{fold, sum_by}
use Rattle.std.proofs.lemmas.List.Folds.{fold-map}
use Rattle.std.proofs.lemmas.List.Sums.{sum_by-append, sum_by-cons}
use Rattle.mp4_box.specs.Paths.{at_path, of_kind, paths_below}
use Rattle.mp4_box.specs.Trees.{Box, children}
use Rattle.mp4_init.specs.declared.table.Track.{Track}
use Rattle.mp4_frag.specs.declared.traf_ends.TrafEnd.{TrafEnd}
use Rattle.mp4_traf.specs.Fields.{flags_in, place_if}
use Rattle.mp4_traf.specs.Kinds.{traf, trun}
use Rattle.mp4_frag.specs.Moofs.{IsRead, moof_of, moof_trafs}
use Rattle.mp4_traf.specs.Runs.{MoofBytes, Shared, TrackFragment, end_place, run_at, run_of, runs_from, runs_of, traf_of}
use Rattle.mp4_traf.specs.Settling.{settled, timed, timed_in, timed_of}
use Rattle.mp4_frag.specs.TrafEnds.{ended_by, few_trafs, traf_end}
use Rattle.mp4_traf.specs.Trun.{sample_count, sample_duration_present, sample_fields}
use Rattle.mp4_frag.specs.Implementation.Following.{count_if, ends_by, runs_of_trafs, timed_run}
use Rattle.mp4_traf.proofs.ChildLemmas.{path_kind, truns_first}
use Rattle.mp4_frag.proofs.MoofLemmas.{read_count}
use Rattle.mp4_frag.proofs.MoofListLemmas.{IsMoof}
use Rattle.mp4_frag.proofs.RunRowLemmas.{on_path}
use Rattle.mp4_frag.proofs.SettleLemmas.{timed_past}
use Rattle.mp4_frag.proofs.SoundLemmas.{few_timed}

-- ---- the samples of runs that have durations of their own

count_by : (present : Bool) (at count : ℕ) → count_if (place_if present at) count ≡ (if present then count else 0)
count_by true at count = refl
count_by false at count = refl

timed_run_is : (s : Shared) (time : ℕ) (last : ℤ) (b : Box) → timed_run (run_of s time last b) ≡ timed b.payload
unfolding run_of run_at sample_fields
timed_run_is s time last b = count_by (sample_duration_present (flags_in b.payload)) 0 (sample_count b.payload)

timed_runs : (s : Shared) (time : ℕ) (last : ℤ) (bs : List Box) → sum_by timed_run (runs_from s time last bs) ≡ timed_in bs
unfolding runs_from
timed_runs s time last [] = refl
timed_runs s time last (b ∷ bs) =
    let run = run_of s time last b in
    let here = sum_by-cons timed_run run (runs_from s run.end (end_place run) bs) in
    let there = sum_by-cons (λ (b : Box). timed b.payload) b bs in
    omega (arith, here, there, timed_run_is s time last b, timed_runs s run.end (end_place run) bs)

timed_traf : (h : MoofBytes) (tracks : List Track) (t : Box) → sum_by timed_run (runs_of (traf_of h tracks t)) ≡ timed_in (at_path (trun ∷ []) t)
unfolding traf_of
timed_traf h tracks t =
    let r = traf_of h tracks t in
    timed_runs r.shared r.time (pos h.offset) r.truns ∙ ap timed_in (sym (path_kind trun t))

timed_trafs : (h : MoofBytes) (tracks : List Track) (ts : List Box) → sum_by timed_run (runs_of_trafs h tracks ts) ≡ timed_in (paths_below (trun ∷ []) ts)
timed_trafs h tracks [] = refl
timed_trafs h tracks (t ∷ ts) =
    let here = sum_by-append timed_run (runs_of (traf_of h tracks t)) (runs_of_trafs h tracks ts) in
    omega (arith, here, timed_past t ts, timed_traf h tracks t, timed_trafs h tracks ts)

pub timed_all : (h : MoofBytes) (tracks : List Track) (m : Box) → IsMoof h m → sum_by timed_run (runs_of_trafs h tracks (at_path (traf ∷ []) m)) ≡ timed_of (moof_of h)
timed_all h tracks m f =
    timed_trafs h tracks (at_path (traf ∷ []) m)
    ∙ (ap timed_in (truns_first m (at_path (traf ∷ []) m) [] refl refl)
    ∙ ap timed_of (sym f.is))

pub timed_few : (h : MoofBytes) (tracks : List Track) (m : Box) → IsMoof h m → IsRead h tracks → sum_by timed_run (runs_of_trafs h tracks (at_path (traf ∷ []) m)) < 2 ^ 32
timed_few h tracks m f read =
    let few = few_timed (moof_of h) (read_count h tracks read) in
    omega (arith, timed_all h tracks m f, few.timed, few.most)

-- ---- the first of some

pub taken_more : {X : Type 0} (n : ℕ) (xs ys zs : List X) → zs ≡ take n xs → take n (zs ++ ys) ≡ take n (xs ++ ys)
taken_more zero xs ys zs e = refl
taken_more (suc n) [] ys zs e = ap (λ ws. take (suc n) (ws ++ ys)) e
taken_more (suc n) (x ∷ xs) ys zs e =
    ap (λ ws. take (suc n) (ws ++ ys)) e ∙ ap (λ ws. x ∷ ws) (taken_more n xs ys (take n xs) refl)

pub all_taken : {X : Type 0} (n : ℕ) (xs : List X) → length (take n xs) < n → take n xs ≡ xs
all_taken zero xs less = absurd (omega (arith, less))
all_taken (suc n) [] less = refl
all_taken (suc n) (x ∷ xs) less = ap (λ ws. x ∷ ws) (all_taken n xs (omega (arith, less)))

-- ---- the trafs of a moof

pub ends_are : (h : MoofBytes) (tracks : List Track) (m : Box) → IsMoof h m → ends_by h tracks (at_path (traf ∷ []) m) ≡ map traf_end (moof_trafs h tracks)
ends_are h tracks m f =
    ap (ends_by h tracks) (on_path traf m) ∙ ap (λ (b : Box). map traf_end (map (traf_of h tracks) (of_kind traf (children b)))) (sym f.is)

pub settled_by : (tracks : List Track) (ts : List TrackFragment) → fold ended_by tracks (map traf_end ts) ≡ settled tracks ts
settled_by tracks ts = fold-map ended_by traf_end tracks ts

pub full_taken : {X : Type 0} (n : ℕ) (xs ys : List X) → length xs ≡ n → xs ≡ take n (xs ++ ys)
full_taken zero [] ys e = refl
full_taken zero (x ∷ xs) ys e = absurd (omega (arith, e))
full_taken (suc n) [] ys e = absurd (omega (arith, e))
full_taken (suc n) (x ∷ xs) ys e = ap (λ ws. x ∷ ws) (full_taken n xs ys (omega (arith, e)))

pub kept_first : {X : Type 0} (n : ℕ) (xs zs : List X) → zs ≡ take n xs → take n zs ≡ zs
kept_first zero xs zs e = sym e
kept_first (suc n) [] zs e = ap (take (suc n)) e ∙ sym e
kept_first (suc n) (x ∷ xs) zs e = ap (take (suc n)) e ∙ (ap (λ ws. x ∷ ws) (kept_first n xs (take n xs) refl) ∙ sym e)

one_more : {X : Type 0} (xs ys : List X) (x : X) → (xs ++ x ∷ []) ++ ys ≡ xs ++ (x ∷ ys)
one_more [] ys x = refl
one_more (z ∷ xs) ys x = ap (λ ws. z ∷ ws) (one_more xs ys x)

pub kept_on : {X : Type 0} (n : ℕ) (xs zs ys : List X) (x : X) → zs ≡ take n (xs ++ x ∷ []) → take n (zs ++ ys) ≡ take n (xs ++ (x ∷ ys))
kept_on n xs zs ys x e = taken_more n (xs ++ x ∷ []) ys zs e ∙ ap (take n) (one_more xs ys x)

-- where fewer are kept than there is room for, all are
pub settled_so : (tracks : List Track) (ts : List TrackFragment) (ends : List TrafEnd) → ends ≡ take few_trafs (map traf_end ts) → length ends < few_trafs → fold ended_by tracks ends ≡ settled tracks ts
settled_so tracks ts ends e less =
    let all = all_taken few_trafs (map traf_end ts) (omega (arith, less, ap length e)) in
    ap (fold ended_by tracks) (e ∙ all) ∙ settled_by tracks ts
