use Rattle.mp4_init.proofs.TrackLemmas.{one_trex_each}
use Rattle.mp4_init.proofs.laws.each_has_one_trex.Goals as goal

pub returns : goal.returns
returns c o x moov here e = one_trex_each o x moov here e
