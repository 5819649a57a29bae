use Rattle.fmp4_program.proofs.lines.stop_line.Goals as goal

pub returns-in-OverLimit : goal.returns-in-OverLimit
returns-in-OverLimit c = rw c.in-OverLimit.is c.plain_line-in-OverLimit.ensures
