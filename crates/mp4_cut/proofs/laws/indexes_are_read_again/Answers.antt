use Rattle.mp4_cut.proofs.ReadIndexLemmas.{index_back}
use Rattle.mp4_cut.proofs.laws.indexes_are_read_again.Goals as goal

pub returns : goal.returns
returns c = λ moof_bytes run timescale number p ps. index_back moof_bytes run timescale number p ps
