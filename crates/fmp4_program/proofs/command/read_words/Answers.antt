use Rattle.std.proofs.Common.{rules, ◌≡◌, Some, None}
use Rattle.std.specs.Prelude.{option_and_then}
use Rattle.clap.specs.Words.{app_of, subcommand_rows_of}
use Rattle.fmp4_program.specs.Words.{invocation_of}
use Rattle.fmp4_program.specs.declared.command.NoCommand.TheVariants.{Memory}
use Rattle.fmp4_program.proofs.Understood.{command_of-taken, command_of-refused}
use Rattle.fmp4_program.proofs.command.read_words.Goals as goal

pub returns-in-Some-invocation_from-clause-ok : goal.returns-in-Some-invocation_from-clause-ok
returns-in-Some-invocation_from-clause-ok c =
    let chosen : Some c.in-Some-invocation_from.asked ≡ option_and_then (λ entered. invocation_of entered.0 entered.1) (subcommand_rows_of c.in-Ok-try_get_matches_from.matches) = search rules in
    command_of-taken (app_of c.in-Ok.command) _ c.in-Ok-try_get_matches_from.matches (Some c.in-Some-invocation_from.asked) c.in-Ok.ensures
    c.in-Ok-try_get_matches_from.ensures.kinds c.in-Ok-try_get_matches_from.ensures.matches chosen

pub returns-in-Some-clause-err : goal.returns-in-Some-clause-err
returns-in-Some-clause-err c _ =
    let chosen : None ≡ option_and_then (λ entered. invocation_of entered.0 entered.1) (subcommand_rows_of c.in-Ok-try_get_matches_from.matches) = search rules in
    command_of-taken (app_of c.in-Ok.command) _ c.in-Ok-try_get_matches_from.matches None c.in-Ok.ensures
    c.in-Ok-try_get_matches_from.ensures.kinds c.in-Ok-try_get_matches_from.ensures.matches chosen

pub returns-in-Ok-try_get_matches_from-clause-err : goal.returns-in-Ok-try_get_matches_from-clause-err
returns-in-Ok-try_get_matches_from-clause-err c _ =
    let chosen : None ≡ option_and_then (λ entered. invocation_of entered.0 entered.1) (subcommand_rows_of c.in-Ok-try_get_matches_from.matches) = search rules in
    command_of-taken (app_of c.in-Ok.command) _ c.in-Ok-try_get_matches_from.matches None c.in-Ok.ensures
    c.in-Ok-try_get_matches_from.ensures.kinds c.in-Ok-try_get_matches_from.ensures.matches chosen

pub returns-clause-err : goal.returns-clause-err
returns-clause-err c bad =
    command_of-refused (app_of c.in-Ok.command) _ c.in-Err.error c.in-Ok.ensures c.in-Err.ensures.kinds
    (λ memory. let also : c.no_command_by.result ≡ Memory = c.no_command_by.ensures.1 memory in cc)
