use Rattle.mp4_init.proofs.TrackLemmas.{table_small}
use Rattle.mp4_init.proofs.laws.table_is_small.Goals as goal

pub returns : goal.returns
returns c o x fits e = table_small o x fits e
