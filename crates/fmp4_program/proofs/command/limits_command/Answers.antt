use Rattle.std.proofs.Common.{ap₂, ◌∙◌, ◌||◌}
use Rattle.std.proofs.lemmas.Result.{IfOk-weaker}
use Rattle.clap.specs.Words.{with_rule}
use Rattle.fmp4_program.proofs.command.limits_command.Goals as goal

pub returns-clause-app : goal.returns-clause-app
returns-clause-app c =
    IfOk-weaker c.arg-3.result _ _
    (λ command adds. adds.shape c.valued_option-3.ensures.local
    ∙ ap₂ with_rule (c.in_ok-bytes.ensures.shape c.valued_option-2.ensures.local
    ∙ ap₂ with_rule (c.in_ok-samples.ensures.shape c.valued_option.ensures.local
    ∙ ap₂ with_rule c.in_ok-settings.ensures.app c.valued_option.ensures.rule) c.valued_option-2.ensures.rule) c.valued_option-3.ensures.rule)
    c.arg-3.ensures

pub returns-clause-local : goal.returns-clause-local
returns-clause-local c =
    IfOk-weaker c.arg-3.result _ _
    (λ command adds. adds.globals
    ∙ ap₂ ◌||◌ (c.in_ok-bytes.ensures.globals
    ∙ ap₂ ◌||◌ (c.in_ok-samples.ensures.globals
    ∙ ap₂ ◌||◌ c.in_ok-settings.ensures.local c.valued_option.ensures.local) c.valued_option-2.ensures.local) c.valued_option-3.ensures.local)
    c.arg-3.ensures
