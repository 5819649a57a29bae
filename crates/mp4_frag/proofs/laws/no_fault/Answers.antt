use Rattle.mp4_frag.proofs.MoofLemmas.{nothing_at_fault}
use Rattle.mp4_frag.proofs.laws.no_fault.Goals as goal

pub returns : goal.returns
returns c h tracks e = nothing_at_fault h tracks e
