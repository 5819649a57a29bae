use Rattle.std.proofs.Common.{ap₂, ap, ◌∙◌}
use Rattle.std.proofs.lemmas.Result.{IfOk-weaker}
use Rattle.clap.specs.Words.{App, with_subcommand}
use Rattle.fmp4_program.specs.Words.{program_app}
use Rattle.fmp4_program.proofs.command.program_command.Goals as goal

pub returns : goal.returns
unfolding program_app
returns c =
    let top = λ (app : App). app.top in
    IfOk-weaker c.subcommand-5.result _ _
    (λ command adds. adds.shape c.in_ok-split.ensures.local
    ∙ ap₂ with_subcommand (c.in_ok-checking.ensures.shape c.in_ok-check.ensures.local
    ∙ ap₂ with_subcommand (c.in_ok-listing_fragments.ensures.shape c.in_ok-fragments.ensures.local
    ∙ ap₂ with_subcommand (c.in_ok-listing_samples.ensures.shape c.in_ok-samples.ensures.local
    ∙ ap₂ with_subcommand (c.in_ok-listing_boxes.ensures.shape c.in_ok-boxes.ensures.local
    ∙ ap₂ with_subcommand c.new.ensures.app (ap top c.in_ok-boxes.ensures.app)) (ap top c.in_ok-samples.ensures.app)) (ap top c.in_ok-fragments.ensures.app)) (ap top c.in_ok-check.ensures.app)) (ap top c.in_ok-split.ensures.app))
    c.subcommand-5.ensures
