use Rattle.mp4_box.proofs.TreeLemmas.{few_boxes}
use Rattle.mp4_box.proofs.walk.Walk.of.Goals as goal

pub returns-clause-few : goal.returns-clause-few
returns-clause-few c = few_boxes _ c.args.this.now.payload.now
