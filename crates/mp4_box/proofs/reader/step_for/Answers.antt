use Rattle.std.proofs.Common.{arith}
use Rattle.mp4_box.proofs.HeaderAnswers.{step-whole, step-bad, step-more}
use Rattle.mp4_box.proofs.reader.step_for.Goals as goal

pub returns-clause-whole : goal.returns-clause-whole
returns-clause-whole c h = rw c.read_header.ensures.exact (step-whole c.args.bytes.now h (λ i. omega (arith, c.type_inv.bytes i)) c.requires)

pub returns-clause-bad_size : goal.returns-clause-bad_size
returns-clause-bad_size c = rw c.read_header.ensures.exact (step-bad c.args.bytes.now (λ i. omega (arith, c.type_inv.bytes i)) c.requires)

pub returns-clause-more : goal.returns-clause-more
returns-clause-more c = rw c.read_header.ensures.exact (step-more c.args.bytes.now)
