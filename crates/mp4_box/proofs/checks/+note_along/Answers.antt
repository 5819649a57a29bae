use Rattle.std.proofs.Common.{◌≡◌, ◌∙◌, List, ap}
use Rattle.std.specs.List.{flat_map}
use Rattle.mp4_box.specs.Checks.{along}
use Rattle.mp4_box.specs.Order.{least_from}
use Rattle.mp4_box.specs.Paths.{of_kind}
use Rattle.mp4_box.specs.Trees.{Box, children, view}
use Rattle.mp4_box.proofs.PathLemmas.{along_below}
use Rattle.mp4_box.proofs.checks.+note_along.Goals as goal

pub loop-child-init : goal.loop-child-init
loop-child-init g t c =
    let faults = g.C.Check.faults c.args.check.now in
    let kind = c.in-Some.kind.now in
    let below = c.in-Some.below.now in
    let all : c.into_iter-child-iterator.result ≡ children (view c.args.this.now) = c.into_iter-child-iterator.ensures.into_iter_gives ∙ c.of-child-items.ensures.children in
    record {
      left = ap (λ (bs : List Box). least_from c.args.best.now (flat_map (along faults below) (of_kind kind bs))) all
          ∙ ap (least_from c.args.best.now) (along_below faults c.args.path.now kind below (view c.args.this.now) c.in-Some.ensures.cases.0);
    }
