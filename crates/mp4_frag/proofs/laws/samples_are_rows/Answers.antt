use Rattle.mp4_frag.proofs.SoundLemmas.{rows_are_samples}
use Rattle.mp4_frag.proofs.laws.samples_are_rows.Goals as goal

pub returns : goal.returns
returns c h tracks = rows_are_samples h tracks
