use Rattle.std.proofs.Common.{arith, [], length}
use Rattle.mp4_machine.proofs.MarkLemmas.{within_more}
use Rattle.mp4_machine.proofs.PutLemmas.{HasFailed-longer}
use Rattle.mp4_machine.proofs.block.Block.put_array.Goals as goal

pub returns-in-Err-clause-puts : goal.returns-in-Err-clause-puts
returns-in-Err-clause-puts g c = HasFailed-longer _ [] c.in-Err.ensures.puts

pub invariant_of-self : goal.invariant_of-self
invariant_of-self g c = within_more (length c.self-2.inside.waiting) (length c.push_bytes.new.self) c.self-2.inside.ends.items (omega (arith, c.push_bytes.ensures.len)) c.self-2.invariant
