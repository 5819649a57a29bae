use Rattle.mp4_frag.proofs.SoundLemmas.{all_in_range}
use Rattle.mp4_frag.proofs.laws.runs_are_in_range.Goals as goal

pub returns : goal.returns
returns c h tracks whole fits room small read = all_in_range h tracks whole fits room small read
