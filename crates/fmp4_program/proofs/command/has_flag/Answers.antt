use Rattle.std.proofs.Common.{◌∙◌, refl, rules}
use Rattle.clap.specs.Words.{found_of}
use Rattle.clap.proofs.WalkLemmas.{first_value-rows}
use Rattle.fmp4_program.specs.Words.{has_flag}
use Rattle.fmp4_program.proofs.command.has_flag.Goals as goal

pub returns-in-Some : goal.returns-in-Some
unfolding has_flag
returns-in-Some c =
    let entered = first_value-rows (found_of c.args.matches.now) c.args.id.now in
    rw (← (c.in-Some.ensures ∙ entered)) (search rules)

pub returns-in-None : goal.returns-in-None
unfolding has_flag
returns-in-None c =
    let entered = first_value-rows (found_of c.args.matches.now) c.args.id.now in
    rw (← (c.in-None.ensures ∙ entered)) refl
