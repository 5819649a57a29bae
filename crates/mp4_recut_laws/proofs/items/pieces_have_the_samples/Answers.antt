use Rattle.mp4_recut_laws.proofs.CutLemmas.{run_samples}
use Rattle.mp4_recut_laws.proofs.items.pieces_have_the_samples.Goals as goal

pub returns : goal.returns
returns c = run_samples
