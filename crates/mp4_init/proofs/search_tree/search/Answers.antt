use Rattle.std.proofs.Common.{◌∙◌, sym, arith}
use Rattle.std.proofs.lemmas.Option.{slice_get_within}
use Rattle.mp4_init.proofs.SearchTreeLemmas.{turn_out, turn_found, turn_back, turn_on}
use Rattle.mp4_init.proofs.search_tree.search.Goals as goal

pub returns-in_default-clause-ending : goal.returns-in_default-clause-ending
returns-in_default-clause-ending g c =
    sym (turn_out (g.N.Nodes.nodes c.args.nodes.now) c.args.id c.loop-node.bits c.loop-node.at c.loop-node.ending (sym c.in_default.ensures)) ∙ c.loop-node.invariant.left

pub returns-then-node-id-clause-ending : goal.returns-then-node-id-clause-ending
returns-then-node-id-clause-ending g c =
    sym (turn_found (g.N.Nodes.nodes c.args.nodes.now) c.args.id c.loop-node.bits c.loop-node.at c.loop-node.ending c.in-Some.node (sym c.in-Some.ensures) c.if-node-id.true)
    ∙ c.loop-node.invariant.left

pub returns-then-node-id-clause-within : goal.returns-then-node-id-clause-within
returns-then-node-id-clause-within g c = slice_get_within (g.N.Nodes.nodes c.args.nodes.now) c.loop-node.at c.in-Some.node (sym c.in-Some.ensures)

pub returns-then-next-at-clause-ending : goal.returns-then-next-at-clause-ending
returns-then-next-at-clause-ending g c =
    sym (turn_back (g.N.Nodes.nodes c.args.nodes.now) c.args.id c.loop-node.bits c.loop-node.at c.loop-node.ending c.in-Some.node (sym c.in-Some.ensures) c.if-node-id.false (omega arith))
    ∙ c.loop-node.invariant.left

pub returns-then-next-at-clause-within : goal.returns-then-next-at-clause-within
returns-then-next-at-clause-within g c = slice_get_within (g.N.Nodes.nodes c.args.nodes.now) c.loop-node.at c.in-Some.node (sym c.in-Some.ensures)

pub loop-node-smaller : goal.loop-node-smaller
loop-node-smaller g c =
    let within = slice_get_within (g.N.Nodes.nodes c.args.nodes.now) c.loop-node.at c.in-Some.node (sym c.in-Some.ensures) in
    omega (arith, within)

pub loop-node-preserved : goal.loop-node-preserved
loop-node-preserved g c = record {
  left =
      turn_on (g.N.Nodes.nodes c.args.nodes.now) c.args.id c.loop-node.bits c.loop-node.at c.next_of-next.result c.loop-node.ending c.in-Some.node (sym c.in-Some.ensures) c.if-node-id.false
      c.next_of-next.ensures (omega arith)
      ∙ c.loop-node.invariant.left;
  within = slice_get_within (g.N.Nodes.nodes c.args.nodes.now) c.loop-node.at c.in-Some.node (sym c.in-Some.ensures);
}
