use Rattle.mp4_frag.proofs.GroupLemmas.{rows_are_groups}
use Rattle.mp4_frag.proofs.laws.rows_are_groups.Goals as goal

pub returns : goal.returns
returns c h tracks whole fits read = rows_are_groups h tracks whole fits read
