use Rattle.std.proofs.Common.{arith}
use Rattle.mp4_box.specs.Trees.{view}
use Rattle.mp4_box.proofs.TreeLemmas.{bad-leaf, deep-leaf, none_held}
use Rattle.mp4_box.proofs.tree.is_leaf.Goals as goal

pub returns-clause-bad : goal.returns-clause-bad
returns-clause-bad c = λ yes. bad-leaf c.args.levels (view c.args.this.now) (none_held c.holds_boxes.result _ c.holds_boxes.ensures yes)

pub returns-clause-deep : goal.returns-clause-deep
returns-clause-deep c = λ yes. deep-leaf c.args.levels (view c.args.this.now) (omega arith) (none_held c.holds_boxes.result _ c.holds_boxes.ensures yes)
