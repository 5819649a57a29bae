use Rattle.std.proofs.Common.{rules, ◌∙◌, ◌++◌, [], ◌∷◌, List, ap}
use Rattle.mp4_box.specs.Trees.{Box, view}
use Rattle.mp4_box.specs.Paths.{left_on}
use Rattle.mp4_box.proofs.PathLemmas.{left_first}
use Rattle.mp4_box.proofs.paths.Along.of.Goals as goal

pub returns : goal.returns
returns c =
    ap (λ (levels : List (List Box)). left_on c.args.path.now (levels ++ c.of.result ∷ [])) c.new-above.ensures
    ∙ ap (λ (bs : List Box). left_on c.args.path.now (bs ∷ [])) c.of.ensures.children
    ∙ left_first c.args.path.now (view c.args.this.now) (search rules)
