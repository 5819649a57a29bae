use Rattle.mp4_traf.proofs.SyncLemmas.{sync_by_fields}
use Rattle.mp4_frag.proofs.laws.one_bit_marks_sync_samples.Goals as goal

pub returns : goal.returns
returns c = sync_by_fields
