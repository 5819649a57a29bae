use Rattle.mp4_cut.proofs.IndexLemmas.{index_headed}
use Rattle.mp4_cut.proofs.ReadLemmas.{mdat_headed, moof_headed}
use Rattle.mp4_cut.proofs.laws.headers_are_read_again.Goals as goal

pub returns-clause-moof : goal.returns-clause-moof
returns-clause-moof c f seq fits rest = moof_headed f seq fits rest

pub returns-clause-mdat : goal.returns-clause-mdat
returns-clause-mdat c bytes h rest = mdat_headed bytes h rest

pub returns-clause-index : goal.returns-clause-index
returns-clause-index c run timescale pieces h rest = index_headed run timescale pieces h rest
