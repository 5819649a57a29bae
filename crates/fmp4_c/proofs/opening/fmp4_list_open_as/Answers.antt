use Rattle.fmp4_c.proofs.OpenLemmas.{list-opens}
use Rattle.fmp4_c.proofs.opening.fmp4_list_open_as.Goals as goal

pub returns-clause-opens : goal.returns-clause-opens
returns-clause-opens c = λ none. (
  c.open.result,
  c.number.ensures,
  list-opens c.args.layout c.args.listing c.args.limit c.args.room c.list.result c.list.ensures.ok c.list.ensures.in_range c.list.ensures.err c.open.result _ (c.open.ensures.opens none),
)
