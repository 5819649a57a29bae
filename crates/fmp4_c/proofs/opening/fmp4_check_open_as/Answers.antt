use Rattle.fmp4_c.proofs.OpenLemmas.{check-opens}
use Rattle.fmp4_c.proofs.opening.fmp4_check_open_as.Goals as goal

pub returns-clause-opens : goal.returns-clause-opens
returns-clause-opens c = λ none. (
  c.open.result,
  c.number.ensures,
  check-opens c.args.layout c.args.limit c.check.result c.check.ensures.ok c.check.ensures.err c.open.result _ (c.open.ensures.opens none),
)
