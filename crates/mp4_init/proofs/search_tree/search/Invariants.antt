use Rattle.std.proofs.Common.{◌≡◌, ◌-◌, drop, length}
use Rattle.mp4_init.specs.Implementation.SearchTrees.{ending, ending_from, or_before, EndsWithin}
use Rattle.mp4_init.proofs.search_tree.search.Given as goal

-- with what is left to ask the search ends as the whole does
abbrev pub invariant-loop-node : goal.invariant-loop-node
invariant-loop-node g l = record {
  left : or_before l.ending (ending_from (drop l.at (g.N.Nodes.nodes l.nodes)) l.at l.at l.id l.bits) ≡ ending (g.N.Nodes.nodes l.nodes) l.id;
  within : EndsWithin (length (g.N.Nodes.nodes l.nodes)) l.ending;
}

abbrev pub decreases-loop-node : goal.decreases-loop-node
decreases-loop-node g l = length (g.N.Nodes.nodes l.nodes) - l.at
