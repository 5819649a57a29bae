use Rattle.std.proofs.Common.{rules, ◌∙◌, ◌++◌, ◌<◌, List, [], sym, ap, subst}
use Rattle.std.specs.List.{flat_map}
use Rattle.mp4_box.specs.Trees.{Box, view}
use Rattle.mp4_machine.specs.Ends.{sent}
use Rattle.mp4_machine.specs.Puts.{HasFailed, HasPut}
use Rattle.mp4_boxes.specs.Listing.{line_below, lines_below, tree_lines}
use Rattle.mp4_machine.proofs.PutLemmas.{HasFailed-front, HasFailed-then, HasPut-none, HasPut-then}
use Rattle.mp4_boxes.proofs.ListingLemmas.{has-low, lines-leaf, lines-step, lines-begin, lines-child}
use Rattle.mp4_boxes.proofs.listing.+put_below.Goals as goal

pub loop-child-init : goal.loop-child-init
loop-child-init g t c = record {
  text = [];
  put = HasPut-none _ _ _;
  left = ap (flat_map (tree_lines c.args.levels c.args.level)) (c.into_iter-child-iterator.ensures.into_iter_gives ∙ c.of-child-items.ensures.children);
}

pub returns-in-Err : goal.returns-in-Err
returns-in-Err g t c =
    let b = view c.in-Some.child in
    let n = c.args.levels in
    let l = c.args.level in
    let text = c.loop-child.invariant.text in
    let all = lines_below n l (view c.args.this.now) in
    let begin = lines-begin n l b in
    let left = lines-child n l b c.next.new.self text all (ap (λ (bs : List Box). text ++ flat_map (tree_lines n l) bs) (sym c.in-Some.ensures.steps) ∙ c.loop-child.invariant.left) in
    HasFailed-front (text ++ tree_lines n l b) (flat_map (tree_lines n l) c.next.new.self) all left
    (HasFailed-then c.loop-child.invariant.put (HasFailed-front (line_below l b) begin.0 (tree_lines n l b) begin.1 c.in-Err.ensures))

pub overflow_sub-levels : goal.overflow_sub-levels
overflow_sub-levels g t c = has-low c.args.levels (view c.in-Some.child) (sym c.has_lines_below.ensures ∙ c.if-has_lines_below.true)

pub put_below-requires : goal.put_below-requires
put_below-requires g t c κs within =
    let low : 0 < c.args.levels = has-low c.args.levels (view c.in-Some.child) (sym c.has_lines_below.ensures ∙ c.if-has_lines_below.true) in
    search rules

pub loop-child-preserved-in-Ok-put_below : goal.loop-child-preserved-in-Ok-put_below
loop-child-preserved-in-Ok-put_below g t c =
    let b = view c.in-Some.child in
    let n = c.args.levels in
    let l = c.args.level in
    let text = c.loop-child.invariant.text in
    let all = lines_below n l (view c.args.this.now) in
    let step = lines-step n l b (sym c.has_lines_below.ensures ∙ c.if-has_lines_below.true) in
    let put = HasPut-then c.in-Ok.ensures c.in-Ok-put_below.ensures in
    record {
      text = text ++ tree_lines n l b;
      put = HasPut-then c.loop-child.invariant.put (subst (λ s. HasPut (sent g.W.Sink.contents g.W.Sink.has_failed c.loop-child.w c.put_below.new.w) c.loop-child.out c.put_below.new.out s []) step put);
      left = lines-child n l b c.next.new.self text all (ap (λ (bs : List Box). text ++ flat_map (tree_lines n l) bs) (sym c.in-Some.ensures.steps) ∙ c.loop-child.invariant.left);
    }

pub returns-in-Err-put_below : goal.returns-in-Err-put_below
returns-in-Err-put_below g t c =
    let b = view c.in-Some.child in
    let n = c.args.levels in
    let l = c.args.level in
    let text = c.loop-child.invariant.text in
    let all = lines_below n l (view c.args.this.now) in
    let step = lines-step n l b (sym c.has_lines_below.ensures ∙ c.if-has_lines_below.true) in
    let left = lines-child n l b c.next.new.self text all (ap (λ (bs : List Box). text ++ flat_map (tree_lines n l) bs) (sym c.in-Some.ensures.steps) ∙ c.loop-child.invariant.left) in
    let put = HasFailed-then c.in-Ok.ensures c.in-Err-put_below.ensures in
    HasFailed-front (text ++ tree_lines n l b) (flat_map (tree_lines n l) c.next.new.self) all left
    (HasFailed-then c.loop-child.invariant.put (subst (λ s. HasFailed (sent g.W.Sink.contents g.W.Sink.has_failed c.loop-child.w c.put_below.new.w) c.loop-child.out c.put_below.new.out s []) step put))

pub loop-child-preserved : goal.loop-child-preserved
loop-child-preserved g t c =
    let b = view c.in-Some.child in
    let n = c.args.levels in
    let l = c.args.level in
    let text = c.loop-child.invariant.text in
    let all = lines_below n l (view c.args.this.now) in
    let leaf = lines-leaf n l b (sym c.has_lines_below.ensures ∙ c.if-has_lines_below.false) in
    record {
      text = text ++ tree_lines n l b;
      put = HasPut-then c.loop-child.invariant.put (subst (λ s. HasPut (sent g.W.Sink.contents g.W.Sink.has_failed c.loop-child.w c.put_line.new.w) c.loop-child.out c.put_line.new.out s []) (sym leaf) c.in-Ok.ensures);
      left = lines-child n l b c.next.new.self text all (ap (λ (bs : List Box). text ++ flat_map (tree_lines n l) bs) (sym c.in-Some.ensures.steps) ∙ c.loop-child.invariant.left);
    }
