use Rattle.std.proofs.Common.{◌≡◌, ◌∙◌, ◌≤◌, ◌∷◌, [], length, List, Option, sym, ap, subst, arith}
use Rattle.std.specs.List.{AllByRecursion, flat_map, sum_by}
use Rattle.std.proofs.lemmas.Bool.Decides.{nat_tests}
use Rattle.std.proofs.lemmas.List.Sums.{sum_by-cons}
use Rattle.mp4_box.specs.declared.rules.Fault.{Fault}
use Rattle.mp4_box.specs.Order.{least_from}
use Rattle.mp4_box.specs.Paths.{of_kind}
use Rattle.mp4_box.specs.Trees.{Box, box_len, children, view}
use Rattle.mp4_box.proofs.OrderLemmas.{least_from_append}
use Rattle.mp4_frag.specs.Implementation.AtOnce.{Adds, faults_in_traf, most_64}
use Rattle.mp4_traf.specs.Implementation.Heads.{HasTicks}
use Rattle.mp4_traf.specs.Kinds.{tfdt, tfhd}
use Rattle.mp4_frag.proofs.AddLemmas.{adds_append, adds_nothing, adds_on, count_append}
use Rattle.mp4_frag.proofs.AtOnceLemmas.{ticks_first, untimed_one}
use Rattle.mp4_frag.proofs.at_once.child_at_once.note_traf.Goals as goal

pub loop-child-preserved : goal.loop-child-preserved
loop-child-preserved c =
    let b = view c.in-Some.child in
    let bs = c.next.new.self in
    let tracks = c.args.tracks.now in
    let all = children (view c.args.traf.now) in
    let old = c.loop-child in
    let first : old.child-iterator ≡ b ∷ bs = c.in-Some.ensures.steps in
    record {
      left =
          ap (λ (best : Option Fault). least_from best (flat_map (faults_in_traf tracks) bs)) c.note_in_traf.ensures.best
          ∙ sym (least_from_append old.best (faults_in_traf tracks b) (flat_map (faults_in_traf tracks) bs))
          ∙ ap (λ (zs : List Box). least_from old.best (flat_map (faults_in_traf tracks) zs)) (sym first)
          ∙ old.invariant.left;
      ticks = λ rest. old.invariant.ticks (subst (λ (zs : List Box). AllByRecursion (HasTicks tracks) (of_kind tfhd zs)) (sym first) (ticks_first tracks b bs c.note_in_traf.ensures.ticks rest));
      adds = λ s rest. old.invariant.adds s (subst (λ (zs : List Box). Adds zs old.sound s) (sym first) (adds_append (b ∷ []) bs old.sound c.add_child.new.sound s c.add_child.ensures rest));
      tfhds = adds_on most_64 old.tfhds _ _ _ _ _ (ap (λ (zs : List Box). length (of_kind tfhd zs)) first ∙ count_append tfhd (b ∷ []) bs) c.count_kind.ensures old.invariant.tfhds;
      tfdts = adds_on most_64 old.tfdts _ _ _ _ _ (ap (λ (zs : List Box). length (of_kind tfdt zs)) first ∙ count_append tfdt (b ∷ []) bs) c.count_kind-in-loop-child.ensures old.invariant.tfdts;
      len = adds_on most_64 old.len _ _ _ _ _ (ap (sum_by box_len) first ∙ sum_by-cons box_len b bs) c.add_len.ensures old.invariant.len;
    }

pub returns-clause-best : goal.returns-clause-best
unfolding least_from
returns-clause-best c =
    ap (λ (zs : List Box). least_from c.loop-child.best (flat_map (faults_in_traf c.args.tracks.now) zs)) (sym c.in-None.ensures.steps.0) ∙ c.loop-child.invariant.left

pub returns-clause-adds : goal.returns-clause-adds
returns-clause-adds c =
    c.loop-child.invariant.adds c.loop-child.sound (subst (λ (zs : List Box). Adds zs c.loop-child.sound c.loop-child.sound) (sym c.in-None.ensures.steps.0) (adds_nothing c.loop-child.sound))

pub returns-clause-count : goal.returns-clause-count
returns-clause-count c = λ so.
    let t = view c.args.traf.now in
    let moof_bytes = (c.all_hold.ensures so).1 in
    let few : c.loop-child.tfdts ≤ 1 = grind (arith, nat_tests) in
    let all = c.loop-child.invariant.tfdts (omega (arith, few)) in
    let counted : c.loop-child.tfdts ≡ length (of_kind tfdt (children t)) = omega (arith, all, ap (λ (zs : List Box). length (of_kind tfdt zs)) c.in-None.ensures.steps.0) in
    untimed_one t c.loop-child.tfdts c.args.untimed.now c.count_untimed.new.untimed counted c.count_untimed.ensures.none c.count_untimed.ensures.some
