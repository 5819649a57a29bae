use Rattle.std.proofs.Common.{◌∙◌, sym, arith}
use Rattle.mp4_box.specs.Trees.{tree_faults}
use Rattle.mp4_box.specs.Order.{IsLeast}
use Rattle.mp4_box.proofs.GrammarLemmas.{tree_law}
use Rattle.mp4_box.proofs.TreeOrderLemmas.{tree-least, if_err_by}
use Rattle.mp4_box.proofs.tree.check_tree.Goals as goal

pub returns-clause-good : goal.returns-clause-good
returns-clause-good c = rw c.find_fault.ensures (tree_law c.args.offset c.args.bytes.now (λ i. omega (arith, c.type_inv.bytes i)) c.requires.whole)

pub returns-clause-least : goal.returns-clause-least
returns-clause-least c = if_err_by c.find_fault.result (λ f. IsLeast f (tree_faults c.args.offset c.args.bytes.now))
    (λ f e. tree-least c.args.offset c.args.bytes.now f (λ i. omega (arith, c.type_inv.bytes i)) (sym c.find_fault.ensures ∙ e))
