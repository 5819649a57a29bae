use Rattle.std.proofs.Common.{arith, inl, inr}
use Rattle.fmp4_program.proofs.Numbers.{number_in-Some, number_in-outside, number_in-unreadable}
use Rattle.fmp4_program.proofs.command.number_in.Goals as goal

pub returns-in-Ok-clause-value : goal.returns-in-Ok-clause-value
returns-in-Ok-clause-value c = number_in-Some c.args.least c.args.most c.in-Ok.number c.args.text.now
    c.in-Ok.ensures.value.0.0 c.in-Ok.ensures.value.0.1 (omega arith) (omega arith)

pub returns-in_default-clause-value : goal.returns-in_default-clause-value
returns-in_default-clause-value c = number_in-outside c.args.least c.args.most c.in-Ok.number c.args.text.now
    c.in-Ok.ensures.value.0.1 (inr (omega arith))

pub returns-in_default-2-clause-value : goal.returns-in_default-2-clause-value
returns-in_default-2-clause-value c = number_in-outside c.args.least c.args.most c.in-Ok.number c.args.text.now
    c.in-Ok.ensures.value.0.1 (inl (omega arith))

pub returns-in_default-3-clause-value : goal.returns-in_default-3-clause-value
returns-in_default-3-clause-value c = number_in-unreadable c.args.least c.args.most c.args.text.now c.in_default.ensures.value.0
