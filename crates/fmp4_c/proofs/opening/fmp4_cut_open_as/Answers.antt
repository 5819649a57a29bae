use Rattle.fmp4_c.proofs.OpenLemmas.{cut-opens}
use Rattle.fmp4_c.specs.Calls.{all_flags}
use Rattle.fmp4_c.proofs.opening.fmp4_cut_open_as.Goals as goal

pub returns-clause-opens : goal.returns-clause-opens
returns-clause-opens c = λ none. (
  c.open.result,
  c.number.ensures,
  cut-opens c.args.layout all_flags c.args.cut.now c.args.limit c.args.room c.split.result c.split.ensures.ok c.split.ensures.in_range c.split.ensures.err c.open.result _ (c.open.ensures.opens none),
)
