use Rattle.std.proofs.Common.{rules, ◌∙◌, ◌*◌, take, ap}
use Rattle.mp4_traf.proofs.WholeGroupLemmas.{whole_groups}
use Rattle.mp4_traf.proofs.run.Run.whole_groups.Goals as goal

pub returns-clause-rows : goal.returns-clause-rows
returns-clause-rows c =
    c.split_at.ensures.front
    ∙ ap (take (16 * c.args.count)) c.groups_from-groups.ensures
    ∙ whole_groups c.args.self.now c.args.moof_bytes.now c.args.first c.args.count (λ i. (c.type_inv.moof_bytes i).fits) (search rules)
