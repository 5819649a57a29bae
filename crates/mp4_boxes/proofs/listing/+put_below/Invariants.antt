use Rattle.std.proofs.Common.{◌≡◌, ◌++◌, ℕ, List, []}
use Rattle.std.specs.List.{flat_map}
use Rattle.mp4_box.specs.Trees.{view}
use Rattle.mp4_machine.specs.Ends.{sent}
use Rattle.mp4_machine.specs.Puts.{HasPut}
use Rattle.mp4_boxes.specs.Listing.{lines_below, tree_lines}
use Rattle.mp4_boxes.proofs.listing.+put_below.Given as goal

abbrev pub decreases-put_below : goal.decreases-put_below
decreases-put_below g l = l.levels

-- what was put, and what is to be put for the children that are left, are the lines of all
abbrev pub invariant-loop-child : goal.invariant-loop-child
invariant-loop-child g l = record {
  text : List ℕ;
  put : HasPut (sent g.W.Sink.contents g.W.Sink.has_failed l.fn.w l.w) l.fn.out l.out text [];
  left : text ++ flat_map (tree_lines l.levels l.level) l.child-iterator ≡ lines_below l.levels l.level (view l.this);
}
