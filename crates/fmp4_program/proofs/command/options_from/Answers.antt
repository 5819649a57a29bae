use Rattle.std.proofs.Common.{rules, refl}
use Rattle.fmp4_program.specs.Words.{options_of}
use Rattle.fmp4_program.proofs.command.options_from.Goals as goal
use Rattle.fmp4_program.proofs.command.options_from.Goals.{else-sync-via-then-sync+else-keyframes, else-sync-via-else-sync}

pub returns-in_err-duration-clause-value : goal.returns-in_err-duration-clause-value
unfolding options_of
returns-in_err-duration-clause-value c = rw (← c.in_err-duration.ensures.value) (search rules)

pub returns-in_err-samples-clause-value : goal.returns-in_err-samples-clause-value
unfolding options_of
returns-in_err-samples-clause-value c = rw (← c.in_ok-duration.ensures.value, ← c.is_some.ensures, ← c.in_err-samples.ensures.value) (search rules)

pub returns-in_err-bytes-clause-value : goal.returns-in_err-bytes-clause-value
unfolding options_of
returns-in_err-bytes-clause-value c = rw (← c.in_ok-duration.ensures.value, ← c.is_some.ensures, ← c.in_ok-samples.ensures.value, ← c.in_err-bytes.ensures.value) (search rules)

pub returns-then-keyframes-clause-value : goal.returns-then-keyframes-clause-value
unfolding options_of
returns-then-keyframes-clause-value c =
    rw (← c.in_ok-duration.ensures.value, ← c.is_some.ensures, ← c.in_ok-samples.ensures.value, ← c.in_ok-bytes.ensures.value, ← c.has_flag-sync.ensures, ← c.has_flag-keyframes.ensures, c.if-sync.true, c.if-keyframes.true) refl

pub returns-clause-value : goal.returns-clause-value
unfolding options_of
returns-clause-value c =
    rw (← c.in_ok-duration.ensures.value, ← c.is_some.ensures, ← c.in_ok-samples.ensures.value, ← c.in_ok-bytes.ensures.value, ← c.has_flag-index.ensures, ← c.has_flag-sync.ensures, ← c.has_flag-keyframes.ensures, c.in_32_bits.ensures)
    (elim c.else-sync.branch [
      | else-sync-via-then-sync+else-keyframes w ↦ rw (w.if-sync.true, w.if-keyframes.false) refl
      | else-sync-via-else-sync w ↦ rw w.if-sync.false refl
    ])
