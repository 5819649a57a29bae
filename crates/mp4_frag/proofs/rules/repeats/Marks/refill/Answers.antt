use Rattle.std.proofs.Common.{◌∙◌, List, cond, true, take, sym, ap}
use Rattle.mp4_box.specs.Trees.{Box}
use Rattle.mp4_frag.specs.Repeats.{is_listed}
use Rattle.mp4_frag.specs.Implementation.RepeatMarks.{all_marked}
use Rattle.mp4_frag.proofs.PassLemmas.{trafs, listed_none_left, marked_none_left}
use Rattle.mp4_frag.proofs.rules.repeats.Marks.refill.Goals as goal

pub returns-in-None-clause-seen : goal.returns-in-None-clause-seen
returns-in-None-clause-seen g c =
    let ids = c.loop-child.self.ids.items in
    let seen = c.loop-child.self.seen in
    sym (marked_none_left ids seen c.loop-child.left)
    ∙ ap (λ (bs : List Box). all_marked ids seen (trafs (take c.loop-child.left bs))) (sym c.in-None.ensures.steps.0) ∙ c.loop-child.invariant.seen

pub returns-in-None-clause-listed : goal.returns-in-None-clause-listed
returns-in-None-clause-listed g c =
    sym (listed_none_left c.loop-child.found c.args.id c.loop-child.left)
    ∙ ap (λ (bs : List Box). cond c.loop-child.found true (is_listed c.args.id (trafs (take c.loop-child.left bs)))) (sym c.in-None.ensures.steps.0) ∙ c.loop-child.invariant.listed
