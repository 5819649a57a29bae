use Rattle.std.proofs.Common.{rules, refl}
use Rattle.fmp4_program.specs.Words.{settings_of}
use Rattle.fmp4_program.proofs.command.settings_from.Goals as goal

pub returns-in_err-copy-clause-value : goal.returns-in_err-copy-clause-value
unfolding settings_of
returns-in_err-copy-clause-value c = rw (← c.in_err-copy.ensures.value) (search rules)

pub returns-in_err-max_held-clause-value : goal.returns-in_err-max_held-clause-value
unfolding settings_of
returns-in_err-max_held-clause-value c = rw (← c.in_ok-copy.ensures.value, ← c.in_err-max_held.ensures.value) (search rules)

pub returns-clause-value : goal.returns-clause-value
unfolding settings_of
returns-clause-value c = rw (← c.in_ok-copy.ensures.value, ← c.in_ok-max_held.ensures.value) refl
