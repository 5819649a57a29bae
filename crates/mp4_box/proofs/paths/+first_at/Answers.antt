use Rattle.std.proofs.Common.{◌≡◌, ◌∙◌, List, ap}
use Rattle.mp4_box.specs.Paths.{of_kind, paths_below}
use Rattle.mp4_box.specs.Trees.{Box, children, first_of, view}
use Rattle.mp4_box.proofs.PathLemmas.{path_below}
use Rattle.mp4_box.proofs.paths.+first_at.Goals as goal

pub loop-child-init : goal.loop-child-init
loop-child-init t c =
    let kind = c.in-Some.kind.now in
    let below = c.in-Some.below.now in
    let all : c.into_iter-child-iterator.result ≡ children (view c.args.this.now) = c.into_iter-child-iterator.ensures.into_iter_gives ∙ c.of-child-items.ensures.children in
    record {
      left = ap (λ (bs : List Box). first_of (paths_below below (of_kind kind bs))) all
          ∙ ap first_of (path_below c.args.path.now kind below (view c.args.this.now) c.in-Some.ensures.cases.0);
    }
