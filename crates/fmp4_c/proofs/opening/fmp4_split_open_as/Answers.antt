use Rattle.fmp4_c.proofs.OpenLemmas.{cut-opens, split-opens}
use Rattle.fmp4_c.specs.Calls.{plain_flags}
use Rattle.fmp4_c.proofs.opening.fmp4_split_open_as.Goals as goal

pub returns-clause-opens : goal.returns-clause-opens
returns-clause-opens c = λ none. (
  c.open.result,
  c.number.ensures,
  split-opens c.args.layout c.args.samples c.args.bytes c.args.flags c.args.limit c.args.room c.plain-request.result c.plain-request.ensures c.open.result _
      (cut-opens c.args.layout plain_flags c.plain-request.result c.args.limit c.args.room c.split.result c.split.ensures.ok c.split.ensures.in_range c.split.ensures.err c.open.result _ (c.open.ensures.opens none)),
)
