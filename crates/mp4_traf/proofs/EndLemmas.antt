-- Where a traf ends.
use Rattle.std.proofs.Common.{◌≡◌, ◌∙◌, ◌+◌, ◌^◌, ◌<◌, ◌==◌, ℕ, ℤ, pos, Bool, true, false, cond, ltb, List, [], ◌∷◌, ◌++◌, Option, Some, refl, sym, ap, arith}
use Rattle.std.specs.List.{position}
use Rattle.std.proofs.lemmas.Bool.{ltb-true}
use Rattle.std.proofs.lemmas.List.Sums.{sum_by-cons}
use Rattle.mp4_box.specs.Paths.{of_kind}
use Rattle.mp4_box.specs.Trees.{Box, children}
use Rattle.mp4_init.specs.declared.table.Track.{Track}
use Rattle.mp4_init.specs.Tracks.{with_next}
use Rattle.mp4_traf.specs.Kinds.{trun}
use Rattle.mp4_traf.specs.Runs.{MoofBytes, Shared, TrackFragment, base_of, end_of, end_place, last_end, run_of, runs_from, shared_by, traf_of, track_of}
use Rattle.mp4_traf.specs.Settling.{ended, ended_at, timed, timed_in, with_end}
use Rattle.mp4_traf.specs.Implementation.Ends.{ticks_from}
use Rattle.mp4_traf.specs.Implementation.Times.{late_from, late_trun, ticks_in}
use Rattle.mp4_traf.proofs.RunLemmas.{traf_is}
use Rattle.mp4_traf.proofs.TimeLemmas.{end_is}

ends_at_ticks : (s : Shared) (time : ℕ) (last : ℤ) (bs : List Box) → last_end time (runs_from s time last bs) ≡ ticks_from s time bs
unfolding runs_from ticks_from
ends_at_ticks s time last [] = refl
ends_at_ticks s time last (b ∷ bs) =
    ends_at_ticks s (run_of s time last b).end (end_place (run_of s time last b)) bs ∙ ap (λ (n : ℕ). ticks_from s n bs) (end_is s time last b)

pub end_is_ticks : (t : TrackFragment) → end_of t ≡ ticks_from t.shared t.time t.truns
end_is_ticks t = ends_at_ticks t.shared t.time (pos t.shared.moof.offset) t.truns

first_in_time : (s : Shared) (time : ℕ) (b : Box) (bs : List Box) → late_from s time (b ∷ bs) ≡ [] → (time + ticks_in s b < 2 ^ 64) × (late_from s (time + ticks_in s b) bs ≡ [])
unfolding late_from
first_in_time s time b bs e = by (ltb (time + ticks_in s b) (2 ^ 64)) refl e
  where
    by : (t : Bool) → ltb (time + ticks_in s b) (2 ^ 64) ≡ t → cond t [] (late_trun b ∷ []) ++ late_from s (time + ticks_in s b) bs ≡ [] → (time + ticks_in s b < 2 ^ 64) × (late_from s (time + ticks_in s b) bs ≡ [])
    by true t e = (ltb-true (time + ticks_in s b) (2 ^ 64) t, e)
    by false t e = absurd cc

pub tick_fits : (s : Shared) (time : ℕ) (b : Box) (bs : List Box) → late_from s time (b ∷ bs) ≡ [] → time + ticks_in s b < 2 ^ 64
tick_fits s time b bs e = (first_in_time s time b bs e).0

pub tick_more : (s : Shared) (time : ℕ) (b : Box) (bs : List Box) → late_from s time (b ∷ bs) ≡ [] → late_from s (time + ticks_in s b) bs ≡ []
tick_more s time b bs e = (first_in_time s time b bs e).1

-- past a trun
pub ticks_on : (s : Shared) (time ticks : ℕ) (b : Box) (bs rest : List Box) → bs ≡ b ∷ rest → ticks ≡ ticks_in s b → ticks_from s (time + ticks) rest ≡ ticks_from s time bs
unfolding ticks_from
ticks_on s time ticks b bs rest e t = rw (e, t) refl

pub late_on : (s : Shared) (time ticks : ℕ) (b : Box) (bs rest : List Box) → bs ≡ b ∷ rest → ticks ≡ ticks_in s b → late_from s time bs ≡ [] → late_from s (time + ticks) rest ≡ []
late_on s time ticks b bs rest e t none = rw t (tick_more s time b rest (ap (late_from s time) (sym e) ∙ none))

pub timed_on : (n : ℕ) (b : Box) (bs rest : List Box) → bs ≡ b ∷ rest → n ≡ timed b.payload → n + timed_in rest ≡ timed_in bs
timed_on n b bs rest e t = let sum = sum_by-cons (λ (b : Box). timed b.payload) b rest in rw e (omega (arith, sum, t))

-- the track of a traf is set to its end
pub ended_is : (h : MoofBytes) (tracks : List Track) (b : Box) (track : Track) (s : Shared) (time end i : ℕ) → track ≡ track_of tracks b → s ≡ shared_by h track b → time ≡ base_of track.next b → end ≡ ticks_from s time (of_kind trun (children b))
    → position (λ (t : Track). t.id == s.header.track) tracks ≡ Some i → with_next i end tracks ≡ ended tracks (traf_of h tracks b)
ended_is h tracks b track s time end i known shares begins ends at =
    let t : TrackFragment = record { shared = s; time = time; truns = of_kind trun (children b) } in
    ap (λ (o : Option ℕ). ended_at o end tracks) (sym at)
    ∙ ap (λ (n : ℕ). with_end s.header.track n tracks) (ends ∙ sym (end_is_ticks t))
    ∙ ap (ended tracks) (traf_is h tracks b track s time known shares begins)
