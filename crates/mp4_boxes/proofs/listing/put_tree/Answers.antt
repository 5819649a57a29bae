use Rattle.std.proofs.Common.{[], ◌∙◌, ◌+◌, ◌-◌, ◌<◌, sym, arith, subst}
use Rattle.mp4_box.specs.Trees.{view}
use Rattle.mp4_machine.specs.Ends.{sent}
use Rattle.mp4_machine.specs.Puts.{HasPut}
use Rattle.mp4_boxes.specs.Listing.{line_below, lines_below, tree_lines}
use Rattle.mp4_machine.proofs.PutLemmas.{HasFailed-front, Puts-then}
use Rattle.mp4_boxes.proofs.ListingLemmas.{has-low, lines-leaf, lines-step, lines-begin}
use Rattle.mp4_boxes.proofs.listing.put_tree.Goals as goal

pub returns-in-Err : goal.returns-in-Err
returns-in-Err g c =
    let b = view c.args.this.now in
    let begin = lines-begin c.args.levels c.args.level b in
    HasFailed-front (line_below c.args.level b) begin.0 (tree_lines c.args.levels c.args.level b) begin.1 c.in-Err.ensures

pub returns-then-not-has_lines_below : goal.returns-then-not-has_lines_below
returns-then-not-has_lines_below g c =
    subst (λ l. HasPut (sent g.W.Sink.contents g.W.Sink.has_failed c.args.w.now c.put_line.new.w) c.args.out.now c.put_line.new.out l []) (sym (lines-leaf c.args.levels c.args.level (view c.args.this.now) (sym c.has_lines_below.ensures ∙ c.if-not-has_lines_below.true))) c.in-Ok.ensures

pub overflow_sub-levels : goal.overflow_sub-levels
overflow_sub-levels g c = has-low c.args.levels (view c.args.this.now) (sym c.has_lines_below.ensures ∙ c.if-not-has_lines_below.false)

pub put_below-requires : goal.put_below-requires
put_below-requires g c =
    let low : 0 < c.args.levels = has-low c.args.levels (view c.args.this.now) (sym c.has_lines_below.ensures ∙ c.if-not-has_lines_below.false) in
    omega arith

pub returns : goal.returns
returns g c =
    let b = view c.args.this.now in
    let step = lines-step c.args.levels c.args.level b (sym c.has_lines_below.ensures ∙ c.if-not-has_lines_below.false) in
    Puts-then c.in-Ok.ensures _ _ _ (lines_below (c.args.levels - 1) (c.args.level + 1) b) (tree_lines c.args.levels c.args.level b) step c.put_below.result c.put_below.ensures
