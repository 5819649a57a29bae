use Rattle.mp4_boxes.proofs.BoxAskLemmas.{listing-before}
use Rattle.mp4_boxes.proofs.laws.lines_before.Goals as goal

pub returns : goal.returns
returns c b before a after e = listing-before b before a after e
