use Rattle.std.proofs.Common.{◌≡◌, ◌∙◌, ◌∷◌, [], Bool, true, false, length, List, Option, sym, ap, subst, arith}
use Rattle.std.specs.List.{AllByRecursion, flat_map, list_all, sum_by}
use Rattle.std.proofs.lemmas.List.Sums.{sum_by-cons}
use Rattle.mp4_box.specs.declared.rules.Fault.{Fault}
use Rattle.mp4_box.specs.Order.{least_from}
use Rattle.mp4_box.specs.Paths.{of_kind}
use Rattle.mp4_box.specs.Trees.{Box, box_len, view}
use Rattle.mp4_box.proofs.OrderLemmas.{least_from_append}
use Rattle.mp4_frag.specs.Implementation.AtOnce.{Adds, TrafHasTicks, faults_in_moof, in_trafs, is_complete, most_64}
use Rattle.mp4_traf.specs.Kinds.{mfhd, traf}
use Rattle.mp4_frag.specs.Repeats.{untimed_ids}
use Rattle.mp4_frag.proofs.AddLemmas.{adds_nothing, adds_on, count_append, moof_adds}
use Rattle.mp4_frag.proofs.AtOnceLemmas.{complete_more, trafs_first}
use Rattle.mp4_frag.proofs.PassLemmas.{count_next, no_more}
use Rattle.mp4_frag.proofs.at_once.note_moof.Goals as goal
use Rattle.mp4_frag.proofs.at_once.note_moof.Goals.{then-note_in_moof, else-note_in_moof}

no_both : (u : Bool) → u ≡ false → u ≡ true → ⊥
no_both u e f = cc

-- the child is complete, and those before it
both : (c : goal.After-count_kind) → c.if-note_in_moof.complete ≡ true → (c.note_in_moof.result ≡ true) × (c.loop-child.complete ≡ true)
both c so = elim c.if-note_in_moof.branch [
  | then-note_in_moof w ↦ (w.if-note_in_moof.true, sym w.complete-is ∙ so)
  | else-note_in_moof w ↦ absurd (no_both c.if-note_in_moof.complete (w.complete-is ∙ w.if-note_in_moof.false) so)
]

pub loop-child-preserved : goal.loop-child-preserved
loop-child-preserved c =
    let b = view c.in-Some.child in
    let bs = c.next.new.self in
    let tracks = c.args.tracks.now in
    let old = c.loop-child in
    let here = c.note_in_moof.ensures in
    let first : old.child-iterator ≡ b ∷ bs = c.in-Some.ensures.steps in
    record {
      left =
          ap (λ (best : Option Fault). least_from best (flat_map (faults_in_moof tracks) bs)) here.best
          ∙ sym (least_from_append old.best (faults_in_moof tracks b) (flat_map (faults_in_moof tracks) bs))
          ∙ ap (λ (zs : List Box). least_from old.best (flat_map (faults_in_moof tracks) zs)) (sym first)
          ∙ old.invariant.left;
      ticks = λ rest. old.invariant.ticks (subst (λ (zs : List Box). AllByRecursion (TrafHasTicks tracks) (of_kind traf zs)) (sym first) (trafs_first (TrafHasTicks tracks) b bs here.ticks rest));
      adds = λ s rest. old.invariant.adds s (subst (λ (zs : List Box). Adds (in_trafs zs) old.sound s) (sym first) (moof_adds b bs old.sound c.note_in_moof.new.sound s here.adds rest));
      trafs = λ so rest.
          old.invariant.trafs (both c so).1 (ap (λ (zs : List Box). list_all is_complete (of_kind traf zs)) first ∙ complete_more b bs (here.complete (both c so).0) rest);
      untimed = λ so.
          adds_on most_64 old.untimed _ _ _ _ _ (ap (λ (zs : List Box). length (untimed_ids (of_kind traf zs))) first ∙ count_next b bs) (here.count (both c so).0) (old.invariant.untimed (both c so).1);
      mfhds = adds_on most_64 old.mfhds _ _ _ _ _ (ap (λ (zs : List Box). length (of_kind mfhd zs)) first ∙ count_append mfhd (b ∷ []) bs) c.count_kind.ensures old.invariant.mfhds;
      len = adds_on most_64 old.len _ _ _ _ _ (ap (sum_by box_len) first ∙ sum_by-cons box_len b bs) c.add_len.ensures old.invariant.len;
    }

pub returns-clause-best : goal.returns-clause-best
unfolding least_from
returns-clause-best c =
    ap (λ (zs : List Box). least_from c.loop-child.best (flat_map (faults_in_moof c.args.tracks.now) zs)) (sym c.in-None.ensures.steps.0) ∙ c.loop-child.invariant.left

pub returns-clause-adds : goal.returns-clause-adds
returns-clause-adds c =
    c.loop-child.invariant.adds c.loop-child.sound (subst (λ (zs : List Box). Adds (in_trafs zs) c.loop-child.sound c.loop-child.sound) (sym c.in-None.ensures.steps.0) (adds_nothing c.loop-child.sound))

pub returns-clause-count : goal.returns-clause-count
returns-clause-count c = λ so small.
    let all = c.loop-child.invariant.untimed (c.all_hold.ensures so).0 small in
    let over = ap (λ (zs : List Box). length (untimed_ids (of_kind traf zs))) c.in-None.ensures.steps.0 in
    omega (arith, all, over, no_more 0)
