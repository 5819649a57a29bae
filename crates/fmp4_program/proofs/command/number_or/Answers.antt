use Rattle.std.proofs.Common.{◌∙◌, refl}
use Rattle.clap.specs.Words.{found_of}
use Rattle.clap.proofs.WalkLemmas.{first_value-rows}
use Rattle.fmp4_program.specs.Words.{number_or}
use Rattle.fmp4_program.proofs.command.number_or.Goals as goal

pub returns-in-Some-clause-value : goal.returns-in-Some-clause-value
unfolding number_or
returns-in-Some-clause-value c =
    let entered = first_value-rows (found_of c.args.matches.now) c.args.id.now in
    rw (← (c.in-Some.ensures ∙ entered)) c.number_in.ensures.value

pub returns-in-None-clause-value : goal.returns-in-None-clause-value
unfolding number_or
returns-in-None-clause-value c =
    let entered = first_value-rows (found_of c.args.matches.now) c.args.id.now in
    rw (← (c.in-None.ensures ∙ entered)) refl
