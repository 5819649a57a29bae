use Rattle.mp4_frag.proofs.BeginLemmas.{begin_in_time}
use Rattle.mp4_frag.proofs.laws.early_trafs_end_in_time.Goals as goal

pub returns : goal.returns
returns c h tracks whole fits small few early = begin_in_time h tracks whole fits small few early
