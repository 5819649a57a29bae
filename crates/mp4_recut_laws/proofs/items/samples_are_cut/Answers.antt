use Rattle.mp4_recut_laws.proofs.SampleLemmas.{cut_samples}
use Rattle.mp4_recut_laws.proofs.items.samples_are_cut.Goals as goal

pub returns : goal.returns
returns c = cut_samples
