use Rattle.std.proofs.Common.{◌∙◌, ◌+◌, List, length, sym, ap}
use Rattle.mp4_box.specs.Trees.{Box}
use Rattle.mp4_frag.specs.Repeats.{untimed_ids}
use Rattle.mp4_frag.proofs.PassLemmas.{trafs, no_more}
use Rattle.mp4_frag.proofs.rules.repeats.untimed_in.Goals as goal

pub returns : goal.returns
returns c =
    no_more c.loop-child.count
    ∙ ap (λ (bs : List Box). c.loop-child.count + length (untimed_ids (trafs bs))) (sym c.in-None.ensures.steps.0)
    ∙ c.loop-child.invariant.left
