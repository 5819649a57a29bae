use Rattle.std.proofs.Common.{ap₂, ◌∙◌, ◌||◌}
use Rattle.std.proofs.lemmas.Result.{IfOk-weaker}
use Rattle.clap.specs.Words.{with_rule}
use Rattle.fmp4_program.proofs.command.split_command.Goals as goal

pub returns-clause-app : goal.returns-clause-app
returns-clause-app c =
    IfOk-weaker c.arg-3.result _ _
    (λ command adds. adds.shape c.flag-3.ensures.local
    ∙ ap₂ with_rule (c.in_ok-sync.ensures.shape c.flag-2.ensures.local
    ∙ ap₂ with_rule (c.in_ok-index.ensures.shape c.flag.ensures.local
    ∙ ap₂ with_rule c.in_ok-limits.ensures.app c.flag.ensures.rule) c.flag-2.ensures.rule) c.flag-3.ensures.rule)
    c.arg-3.ensures

pub returns-clause-local : goal.returns-clause-local
returns-clause-local c =
    IfOk-weaker c.arg-3.result _ _
    (λ command adds. adds.globals
    ∙ ap₂ ◌||◌ (c.in_ok-sync.ensures.globals
    ∙ ap₂ ◌||◌ (c.in_ok-index.ensures.globals
    ∙ ap₂ ◌||◌ c.in_ok-limits.ensures.local c.flag.ensures.local) c.flag-2.ensures.local) c.flag-3.ensures.local)
    c.arg-3.ensures
