use Rattle.std.proofs.Common.{List, sym, subst}
use Rattle.std.specs.List.{AllByRecursion}
use Rattle.mp4_box.specs.Paths.{of_kind}
use Rattle.mp4_box.specs.Trees.{Box, view}
use Rattle.mp4_frag.specs.Implementation.AtOnce.{HasEarlyEnd}
use Rattle.mp4_traf.specs.Kinds.{traf}
use Rattle.mp4_frag.proofs.AtOnceLemmas.{trafs_first}
use Rattle.mp4_frag.proofs.at_once.ended_early.Goals as goal

pub loop-child-preserved : goal.loop-child-preserved
loop-child-preserved c = λ rest.
    let ends = HasEarlyEnd c.args.tracks.now in
    c.loop-child.invariant
    (subst (λ (zs : List Box). AllByRecursion ends (of_kind traf zs)) (sym c.in-Some.ensures.steps) (trafs_first ends (view c.in-Some.child) c.next.new.self (c.has_early_end.ensures c.if-not-has_early_end.false) rest))

pub returns : goal.returns
returns c = λ _.
    c.loop-child.invariant (subst (λ (zs : List Box). AllByRecursion (HasEarlyEnd c.args.tracks.now) (of_kind traf zs)) (sym c.in-None.ensures.steps.0) tt)
