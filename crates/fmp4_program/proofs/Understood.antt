-- From what the command line's reader answers to what the words ask for.
use Rattle.std.proofs.Common.{◌≡◌, ◌∙◌, ◌==◌, true, false, List, [], ◌∷◌, Option, None, length, refl, ap, sym, inl, inr, arith}
use Rattle.std.proofs.lemmas.Bool.{ne_eqb}
use Rattle.std.specs.Prelude.{option_and_then}
use Rattle.clap.proofs.OnLiterals.{clap_on_literals}
use Rattle.clap.specs.Words.{App, HasKind, HasMatchesOf, Kinds, Text, fault_of, is_simple, is_simple_and_free, kind_of, subcommand_of, subcommand_rows_of}
use Rattle.clap.specs.declared.error.Error.{Error}
use Rattle.clap.specs.declared.error.kind.ErrorKind.TheVariants.{OutOfMemory}
use Rattle.clap.specs.declared.parser.matches.ArgMatches.{ArgMatches}
use Rattle.fmp4_program.specs.Words.{command_of, invocation_of, program_app}
use Rattle.fmp4_program.specs.declared.asked.Invocation.{Invocation}

program_app-is_simple : is_simple program_app ≡ true
unfolding clap_on_literals program_app
program_app-is_simple = refl

program_app-is_simple_and_free : is_simple_and_free program_app ≡ true
unfolding clap_on_literals program_app
program_app-is_simple_and_free = refl

-- words that were taken ask for what the matches hold
pub command_of-taken : (app : App) (words : List Text) (matches : ArgMatches) (asked : Option Invocation)
    → app ≡ program_app
    → (is_simple_and_free app ≡ true → fault_of app words ≡ []) → HasMatchesOf app words matches
    → asked ≡ option_and_then (λ entered. invocation_of entered.0 entered.1) (subcommand_rows_of matches)
    → command_of words ≡ asked
unfolding command_of
command_of-taken app words matches asked is faultless has chosen =
    let no_fault : fault_of program_app words ≡ [] =
    rw is at (faultless (ap is_simple_and_free is ∙ program_app-is_simple_and_free)) in
    let rows : subcommand_rows_of matches ≡ subcommand_of program_app words =
    rw is at ((has (ap is_simple is ∙ program_app-is_simple)).1) in
    rw (no_fault, ← rows) (sym chosen)

-- an error that memory did not cause is one of the faults, so there is a fault
HasKind-some : (faults : Kinds) (error : Error) → HasKind faults error → (kind_of error ≡ OutOfMemory → ⊥)
    → (length faults == 0) ≡ false
HasKind-some [] error (inl memory) other = absurd (other memory)
HasKind-some [] error (inr none) other = absurd none
HasKind-some (fault ∷ faults) error has other = ne_eqb (length (fault ∷ faults)) 0 (λ zero. omega arith)

-- words that were refused, and not for want of memory, ask for nothing
pub command_of-refused : (app : App) (words : List Text) (error : Error) → app ≡ program_app
    → (is_simple_and_free app ≡ true → HasKind (fault_of app words) error) → (kind_of error ≡ OutOfMemory → ⊥)
    → command_of words ≡ None
unfolding command_of
command_of-refused app words error is fails other =
    let has : HasKind (fault_of program_app words) error =
    rw is at (fails (ap is_simple_and_free is ∙ program_app-is_simple_and_free)) in
    rw (HasKind-some (fault_of program_app words) error has other) refl
