use Rattle.std.proofs.Common.{◌∙◌, refl}
use Rattle.clap.specs.Words.{found_of}
use Rattle.clap.proofs.WalkLemmas.{first_value-rows}
use Rattle.fmp4_program.specs.Words.{number_if}
use Rattle.fmp4_program.proofs.command.number_if.Goals as goal

pub returns-in-Some-number_in-clause-value : goal.returns-in-Some-number_in-clause-value
unfolding number_if
returns-in-Some-number_in-clause-value c =
    let entered = first_value-rows (found_of c.args.matches.now) c.args.id.now in
    rw (← (c.in-Some.ensures ∙ entered), ← c.in-Some-number_in.ensures.value) refl

pub returns-in-None-number_in-clause-value : goal.returns-in-None-number_in-clause-value
unfolding number_if
returns-in-None-number_in-clause-value c =
    let entered = first_value-rows (found_of c.args.matches.now) c.args.id.now in
    rw (← (c.in-Some.ensures ∙ entered), ← c.in-None-number_in.ensures.value) refl

pub returns-in-None-clause-value : goal.returns-in-None-clause-value
unfolding number_if
returns-in-None-clause-value c =
    let entered = first_value-rows (found_of c.args.matches.now) c.args.id.now in
    rw (← (c.in-None.ensures ∙ entered)) refl
