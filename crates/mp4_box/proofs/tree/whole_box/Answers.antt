use Rattle.mp4_box.specs.Trees.{view}
use Rattle.mp4_box.proofs.GrammarLemmas.{whole_some}
use Rattle.mp4_box.proofs.tree.whole_box.Goals as goal

pub unwrap-requires : goal.unwrap-requires
unwrap-requires c = whole_some view c.args.offset c.args.bytes.now c.first_box.result c.requires.whole c.first_box.ensures.exact
