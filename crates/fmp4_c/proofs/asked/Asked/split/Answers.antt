use Rattle.std.proofs.Common.{arith}
use Rattle.fmp4_c.proofs.asked.Asked.split.Goals as goal

pub returns-in-Err-clause-err : goal.returns-in-Err-clause-err
returns-in-Err-clause-err c = c.in-Err.ensures.err c.args.layout c.args.room

pub returns-in-Ok-clause-in_range : goal.returns-in-Ok-clause-in_range
returns-in-Ok-clause-in_range c = c.in-Ok.ensures.in_range c.args.layout c.args.room c.if-layout-ne-LAYOUT.false (omega (arith, c.if-room-eq0.false))
