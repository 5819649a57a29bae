use Rattle.mp4_init.proofs.MoovLemmas.{nothing_at_fault}
use Rattle.mp4_init.proofs.laws.no_fault.Goals as goal

pub returns : goal.returns
returns c o x e = nothing_at_fault o x e
