-- The runs that are left, one by one.
use Rattle.std.proofs.Common.{◌≡◌, ◌∙◌, ◌+◌, ◌<◌, ◌^◌, ℕ, ℤ, List, [], ◌∷◌, refl, sym, subst, arith}
use Rattle.std.specs.List.{AllByRecursion}
use Rattle.mp4_box.specs.Paths.{of_kind}
use Rattle.mp4_box.specs.Trees.{Box, children}
use Rattle.mp4_init.specs.declared.table.Track.{Track}
use Rattle.mp4_traf.specs.declared.run.Run.{Run}
use Rattle.mp4_traf.specs.Kinds.{trun}
use Rattle.mp4_traf.specs.Ranges.{InRange}
use Rattle.mp4_traf.specs.Runs.{MoofBytes, Shared, base_of, end_place, run_of, runs_from, shared_by, track_of, traf_of}
use Rattle.mp4_traf.specs.Implementation.Times.{ticks_in}
use Rattle.mp4_traf.proofs.TimeLemmas.{end_is}

pub runs_none : (s : Shared) (time : ℕ) (last : ℤ) (bs : List Box) → bs ≡ [] → runs_from s time last bs ≡ []
unfolding runs_from
runs_none s time last bs e = rw e refl

pub runs_next : (s : Shared) (time : ℕ) (last : ℤ) (b : Box) (bs cs : List Box) → bs ≡ b ∷ cs → runs_from s time last bs ≡ run_of s time last b ∷ runs_from s (run_of s time last b).end (end_place (run_of s time last b)) cs
unfolding runs_from
runs_next s time last b bs cs e = rw e refl

-- the first of them, and the others
pub record First (s : Shared) (time : ℕ) (last : ℤ) (b : Box) (cs : List Box) : Type 0 where
  pub here : InRange (run_of s time last b)
  pub rest : AllByRecursion InRange (runs_from s (run_of s time last b).end (end_place (run_of s time last b)) cs)
  pub fits : time + ticks_in s b < 2 ^ 64

pub first_in_range : (s : Shared) (time : ℕ) (last : ℤ) (b : Box) (bs cs : List Box) → bs ≡ b ∷ cs → AllByRecursion InRange (runs_from s time last bs) → First s time last b cs
first_in_range s time last b bs cs e all =
    let both = subst (λ (runs : List Run). AllByRecursion InRange runs) (runs_next s time last b bs cs e) all in
    record { here = both.0; rest = both.1; fits = omega (arith, both.0.end, end_is s time last b) }

pub next_is : (s : Shared) (time : ℕ) (last : ℤ) (b : Box) (bs cs : List Box) (run : Run) (t : ℕ) (p : ℤ) → bs ≡ b ∷ cs → run ≡ run_of s time last b → t ≡ run.end → p ≡ end_place run → runs_from s time last bs ≡ run ∷ runs_from s t p cs
next_is s time last b bs cs run t p e is te pe =
    runs_next s time last b bs cs e ∙ sym (rw (te, pe, is) refl)

-- ---- the trafs that are left, one by one

pub traf_is : (h : MoofBytes) (tracks : List Track) (b : Box) (track : Track) (s : Shared) (time : ℕ) → track ≡ track_of tracks b → s ≡ shared_by h track b → time ≡ base_of track.next b
    → record { shared = s; time = time; truns = of_kind trun (children b) } ≡ traf_of h tracks b
unfolding traf_of
traf_is h tracks b track s time is e t = rw (e, t, is) refl
