-- The lines of trafs and of tracks, one after the other.
use Rattle.std.proofs.Common.{◌≡◌, ◌⊎◌, ◌∙◌, ◌^◌, ℕ, ℤ, inl, inr, refl, Option, zero, suc, ◌≤◌, drop, get_or, ◌+◌, ◌-◌, ◌<◌, List, map, [], ◌∷◌, ◌++◌, length, Some, ap, sym, arith, subst, append-nil, append_assoc}
use Rattle.std.specs.List.{AllByRecursion, flat_map}
use Rattle.mp4_box.specs.Paths.{of_kind}
use Rattle.mp4_box.specs.Trees.{Box, children}
use Rattle.mp4_box.specs.declared.headers.Size.{Size}
use Rattle.mp4_box.specs.declared.headers.Size.TheVariants.{Exact}
use Rattle.mp4_init.specs.declared.table.Track.{Track}
use Rattle.mp4_traf.specs.Kinds.{traf}
use Rattle.mp4_traf.specs.Ranges.{IsSound}
use Rattle.mp4_traf.specs.Rows.{durations, rows_of}
use Rattle.mp4_traf.specs.Runs.{MoofBytes, Shared, TrackFragment, run_at, run_of, runs_from, runs_of, traf_of}
use Rattle.mp4_traf.specs.TrafTotals.{totals_of}
use Rattle.mp4_traf.specs.declared.run.Run.{Run}
use Rattle.mp4_traf.specs.declared.traf_totals.TrafTotals.{TrafTotals}
use Rattle.mp4_frag.specs.Moofs.{moof_of, moof_trafs, sequence_of}
use Rattle.mp4_frag.specs.SingleRuns.{IsSingle}
use Rattle.mp4_frag.specs.declared.single_run.SingleRun.{SingleRun}
use Rattle.mp4_machine.specs.Blocks.{Pending}
use Rattle.mp4_machine.specs.Ends.{Sent}
use Rattle.mp4_machine.specs.Puts.{HasPut}
use Rattle.mp4_fragment_machine.specs.Implementation.TrafLines.{moof_lines, put_of, put_with, size_with}
use Rattle.mp4_grammar.specs.Commands.{accepted}
use Rattle.mp4_grammar.specs.FragmentLines.{size_of, traf_with}
use Rattle.mp4_grammar.specs.Meanings.{Fragment}
use Rattle.mp4_grammar.specs.Presented.{all_rows, presented_of}
use Rattle.mp4_grammar.proofs.PresentedLemmas.{rows_last}
use Rattle.mp4_grammar.specs.declared.presented.Presented.{Presented}
use Rattle.mp4_grammar.specs.declared.command.Command.{Command}
use Rattle.mp4_grammar.specs.declared.command.Command.TheVariants.{Samples, Fragments, Records, Check}

-- ---- line after line

module _ {X : Type 0} (line : X → List ℕ) where
  -- the line of the first of some was put
  pub line_first : (x : X) (rest xs : List X) (text l all : List ℕ) → xs ≡ x ∷ rest → l ≡ line x → text ++ flat_map line xs ≡ all → (text ++ l) ++ flat_map line rest ≡ all
  line_first x rest xs text l all e is whole =
      append_assoc text l (flat_map line rest)
      ∙ ap (λ k. text ++ (k ++ flat_map line rest)) is
      ∙ ap (λ ys. text ++ flat_map line ys) (sym e) ∙ whole

  -- all were put
  pub line_last : {s : Sent} {v w : Pending} {text all : List ℕ} (xs : List X) → xs ≡ [] → text ++ flat_map line xs ≡ all → HasPut s v w text [] → HasPut s v w all []
  line_last {s = s} {v = v} {w = w} {text = text} xs none whole p =
      subst (λ l. HasPut s v w l []) (sym (append-nil text) ∙ ap (λ ys. text ++ flat_map line ys) (sym none) ∙ whole) p

-- ---- how large a fragment is

pub size_is : (at len : ℕ) (s : ℕ) → Some (len + s) ≡ size_with at len (Exact s)
size_is at len s = let e : len + s ≡ at + len + s - at = omega arith in ap Some e

pub size_stated : (at len n s : ℕ) (size : Size) → size ≡ Exact s → n ≡ len + s → Some n ≡ size_with at len size
size_stated at len n s size is all = rw is (ap Some all ∙ size_is at len s)

-- ---- lines and records alike

no_put : (put : TrackFragment → List ℕ) → ((t : TrackFragment) → put t ≡ []) → (ts : List TrackFragment) → flat_map put ts ≡ []
no_put put none [] = refl
no_put put none (t ∷ ts) = ap (λ l. l ++ flat_map put ts) (none t) ∙ no_put put none ts

-- where neither lines nor records are asked for, nothing is put of the trafs
pub no_lines : (command : Command) (h : MoofBytes) (tracks : List Track) (size : Option ℕ) → (command ≡ Check) ⊎ (command ≡ Samples) → moof_lines command h tracks size ≡ []
no_lines command h tracks size (inl is) = rw is (no_put (put_with Check tracks (sequence_of h) h.offset size) (λ t. refl) (moof_trafs h tracks))
no_lines command h tracks size (inr is) = rw is (no_put (put_with Samples tracks (sequence_of h) h.offset size) (λ t. refl) (moof_trafs h tracks))

-- where they are, samples aren't
pub no_samples : (command : Command) → (command ≡ Fragments) ⊎ (command ≡ Records) → command ≡ Samples → ⊥
no_samples command (inl is) other = let no : Fragments ≡ Samples = sym is ∙ other in absurd cc
no_samples command (inr is) other = let no : Records ≡ Samples = sym is ∙ other in absurd cc

-- what is put of them is the text of the fragment, but where its samples are listed
pub lines_are : (command : Command) (f : Fragment) (size : Option ℕ) → (command ≡ Samples → ⊥) → size ≡ size_of f → moof_lines command f.moof f.tracks size ≡ (accepted command f).text
lines_are Samples f size other same = absurd (other refl)
lines_are Fragments f size other same = rw same refl
lines_are Records f size other same = rw same refl
lines_are Check f size other same = no_lines Check f.moof f.tracks size (inl refl)

-- ---- a moof with one run

one_traf : (h : MoofBytes) (tracks : List Track) (bs : List Box) (run : Run) → length (map (traf_of h tracks) bs) ≡ 1 → flat_map runs_of (map (traf_of h tracks) bs) ≡ run ∷ []
    → (t : TrackFragment) × (map (traf_of h tracks) bs ≡ t ∷ []) × (t.shared.moof.bytes ≡ h.bytes) × (runs_of t ≡ run ∷ [])
unfolding traf_of
one_traf h tracks [] run one is = absurd (omega (arith, one))
one_traf h tracks (b ∷ []) run one is = (traf_of h tracks b, refl, refl, sym (append-nil (runs_of (traf_of h tracks b))) ∙ is)
one_traf h tracks (b ∷ c ∷ bs) run one is = absurd (omega (arith, one))

-- its lines are that of its traf
pub single_line : (command : Command) (h : MoofBytes) (tracks : List Track) (l : SingleRun) (size : Option ℕ) (totals : TrafTotals) (presented : Presented) → IsSingle h tracks l
    → ((t : TrackFragment) → t.shared.moof.bytes ≡ h.bytes → runs_of t ≡ l.run ∷ [] → totals ≡ totals_of t)
    → ((t : TrackFragment) → t.shared.moof.bytes ≡ h.bytes → runs_of t ≡ l.run ∷ [] → presented ≡ presented_of t)
    → put_of command tracks (traf_with (sequence_of h) h.offset size tracks totals presented) ≡ moof_lines command h tracks size
single_line command h tracks l size totals presented single each shown =
    let (t, is, bytes, runs) = one_traf h tracks (of_kind traf (children (moof_of h))) l.run single.traf single.run in
    let put = put_with command tracks (sequence_of h) h.offset size in
    ap (λ k. put_of command tracks (traf_with (sequence_of h) h.offset size tracks k presented)) (each t bytes runs)
    ∙ (ap (λ k. put_of command tracks (traf_with (sequence_of h) h.offset size tracks (totals_of t) k)) (shown t bytes runs)
    ∙ (sym (append-nil (put t)) ∙ ap (flat_map put) (sym is)))

-- ---- the trafs of a moof

-- they are read in its bytes
pub trafs_bytes : (h : MoofBytes) (tracks : List Track) (bs : List Box) → AllByRecursion (λ (t : TrackFragment). t.shared.moof.bytes ≡ h.bytes) (map (traf_of h tracks) bs)
unfolding traf_of
trafs_bytes h tracks [] = tt
trafs_bytes h tracks (b ∷ bs) = (refl, trafs_bytes h tracks bs)

-- the only run of a traf that is sound
only_ends : (s : Shared) (time : ℕ) (last : ℤ) (bs : List Box) (run : Run) → runs_from s time last bs ≡ run ∷ [] → run.time ≤ run.end
unfolding runs_from run_of run_at
only_ends s time last [] run is = absurd (omega (arith, ap length is))
only_ends s time last (b ∷ bs) run is =
    let same : run_of s time last b ≡ run = ap (λ (runs : List Run). get_or runs 0 run) is in
    subst (λ (r : Run). r.time ≤ r.end) same (omega arith)

pub only_run_is : (t : TrackFragment) (run : Run) → IsSound t → runs_of t ≡ run ∷ [] → (run.time ≤ run.end) × (durations (rows_of run t.shared.moof.bytes) < 2 ^ 64)
only_run_is t run sound is =
    let all : all_rows t.shared.moof.bytes (runs_of t) ≡ rows_of run t.shared.moof.bytes = ap (all_rows t.shared.moof.bytes) is ∙ append-nil (rows_of run t.shared.moof.bytes) in
    (only_ends t.shared t.time _ t.truns run is, subst (λ rows. durations rows < 2 ^ 64) all (rows_last t sound))

-- ---- the traks of a moov

-- the one at an index is that of the track there
pub track_at_is : {X Y : Type 0} (f : X → Y) (xs : List X) (i : ℕ) (x : X) (rest : List X) (y : Y) → x ∷ rest ≡ drop i xs → y ≡ get_or (map f xs) i y → y ≡ f x
track_at_is f [] zero x rest y is at = absurd cc
track_at_is f [] (suc i) x rest y is at = absurd cc
track_at_is f (z ∷ zs) zero x rest y is at = at ∙ ap f (sym (ap (λ (l : List _). get_or l 0 x) is))
track_at_is f (z ∷ zs) (suc i) x rest y is at = track_at_is f zs i x rest y is at

-- and those after it
pub drop_next : {X : Type 0} (xs : List X) (i : ℕ) (x : X) (rest : List X) → x ∷ rest ≡ drop i xs → rest ≡ drop (suc i) xs
drop_next [] zero x rest is = absurd cc
drop_next [] (suc i) x rest is = absurd cc
drop_next (z ∷ zs) zero x rest is = ap (drop 1) is
drop_next (z ∷ zs) (suc i) x rest is = drop_next zs i x rest is
