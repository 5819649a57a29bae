use Rattle.std.proofs.Common.{◌∙◌, ap}
use Rattle.mp4_pieces.specs.Sizes.{moof_size}
use Rattle.mp4_cut.specs.Moof.{written_fragment}
use Rattle.mp4_cut.proofs.IndexLemmas.{length_index}
use Rattle.mp4_cut.proofs.MoofLemmas.{length_moof}
use Rattle.mp4_cut.proofs.PieceLemmas.{count_is}
use Rattle.mp4_cut.proofs.ReadLemmas.{length_mdat}
use Rattle.mp4_cut.proofs.laws.sizes.Goals as goal

pub returns-clause-moof : goal.returns-clause-moof
returns-clause-moof c piece run moof_bytes seq is = length_moof (written_fragment moof_bytes run piece) seq ∙ ap moof_size (count_is moof_bytes run piece is)

pub returns-clause-mdat : goal.returns-clause-mdat
returns-clause-mdat c bytes = length_mdat bytes

pub returns-clause-index : goal.returns-clause-index
returns-clause-index c run timescale pieces = length_index run timescale pieces
