use Rattle.std.proofs.Common.{◌∙◌, sym, arith}
use Rattle.mp4_box.specs.Trees.{view}
use Rattle.mp4_boxes.proofs.ListingLemmas.{has-zero, has-more}
use Rattle.mp4_boxes.proofs.listing.has_lines_below.Goals as goal

pub returns-then-levels-eq0 : goal.returns-then-levels-eq0
returns-then-levels-eq0 c = sym (has-zero c.args.levels (view c.args.this.now) c.if-levels-eq0.true)

pub returns : goal.returns
returns c = c.holds_boxes.ensures ∙ sym (has-more c.args.levels (view c.args.this.now) (omega arith))
