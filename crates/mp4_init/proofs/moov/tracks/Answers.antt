use Rattle.std.proofs.Common.{refl, rules, subst}
use Rattle.mp4_box.specs.declared.rules.Fault.{Fault}
use Rattle.mp4_box.specs.Order.{IsLeast}
use Rattle.mp4_box.specs.Trees.{view}
use Rattle.mp4_init.specs.Moovs.{moov_faults}
use Rattle.mp4_init.proofs.MoovLemmas.{box_least, stop_is}
use Rattle.mp4_init.proofs.moov.tracks.Goals as goal

pub returns-in-Some-clause-least : goal.returns-in-Some-clause-least
returns-in-Some-clause-least c f e =
    subst (λ (f : Fault). IsLeast f (moov_faults c.args.offset c.args.moov.now)) (stop_is c.in-Some.fault f e)
    (box_least c.args.offset c.args.moov.now (view c.whole_box-this.result) c.in-Some.fault c.whole_box-this.ensures (search rules) (search rules))

pub returns-in-Some-clause-err : goal.returns-in-Some-clause-err
returns-in-Some-clause-err c = refl
