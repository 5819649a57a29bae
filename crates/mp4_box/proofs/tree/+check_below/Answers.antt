use Rattle.std.proofs.Common.{◌≡◌, ◌∙◌, ◌+◌, ◌-◌, ℕ, List, length, drop, Ok, Err, sym, ap, arith}
use Rattle.std.specs.Option.{option_or}
use Rattle.mp4_box.specs.Trees.{view, box_len, over, bad_rest, no_rest, bad_below, deep_below, first_of, verdict}
use Rattle.mp4_box.specs.declared.rules.Fault.{Fault}
use Rattle.std.proofs.lemmas.Bool.Decides.{Decides-eqb}
use Rattle.mp4_box.proofs.TreeLemmas.{bad-zero, bad-leaf, deep-leaf, bad-step, deep-step, bad-past, deep-past, bad-child, bad-stop, over-end, none-first, or-none, not_empty}
use Rattle.mp4_box.proofs.tree.+check_below.Goals as goal
use Rattle.mp4_box.proofs.tree.+check_below.Goals.{then-not-is_leaf+in_default-check_below, else-not-is_leaf}

pub returns-then-is_none-clause-exact : goal.returns-then-is_none-clause-exact
returns-then-is_none-clause-exact t c = sym (ap verdict (bad-zero c.args.levels (view c.args.this.now) c.if-levels-eq0.true))

pub returns-then-is_none-clause-deep : goal.returns-then-is_none-clause-deep
returns-then-is_none-clause-deep t c = none-first c.args.deep.now c.args.levels (view c.args.this.now) c.fault.result c.if-is_none.ensures c.if-levels-eq0.true c.fault.ensures

pub returns-else-is_none-clause-exact : goal.returns-else-is_none-clause-exact
returns-else-is_none-clause-exact t c = sym (ap verdict (bad-zero c.args.levels (view c.args.this.now) c.if-levels-eq0.true))

pub returns-then-not-holds_boxes-clause-exact : goal.returns-then-not-holds_boxes-clause-exact
returns-then-not-holds_boxes-clause-exact t c = sym (ap verdict (bad-leaf c.args.levels (view c.args.this.now) (sym c.holds_boxes.ensures ∙ c.if-not-holds_boxes.true)))

pub returns-then-not-holds_boxes-clause-deep : goal.returns-then-not-holds_boxes-clause-deep
returns-then-not-holds_boxes-clause-deep t c =
    sym (ap (λ (fs : List Fault). option_or c.args.deep.now (first_of fs)) (deep-leaf c.args.levels (view c.args.this.now) (omega arith) (sym c.holds_boxes.ensures ∙ c.if-not-holds_boxes.true)) ∙ or-none c.args.deep.now)

pub loop-rest-init : goal.loop-rest-init
loop-rest-init t c =
    let yes = sym c.holds_boxes.ensures ∙ c.if-not-holds_boxes.false in
    record {
      below = omega arith;
      room = omega arith;
      bad = sym (bad-step c.args.levels (view c.args.this.now) (omega arith) yes);
      deep = ap (λ (fs : List Fault). option_or c.args.deep.now (first_of fs)) (sym (deep-step c.args.levels (view c.args.this.now) (omega arith) yes));
    }

pub returns-in_default-clause-exact : goal.returns-in_default-clause-exact
returns-in_default-clause-exact t c =
    ap Err c.bad_box.ensures ∙ sym (bad-stop (c.args.levels - 1) c.loop-rest.offset c.loop-rest.rest.now (bad_below c.args.levels (view c.args.this.now)) (sym c.in_default.ensures.exact) (not_empty c.loop-rest.rest.now c.loop-rest-test.ensures) c.loop-rest.invariant.bad)

pub returns-in-Err-clause-exact : goal.returns-in-Err-clause-exact
returns-in-Err-clause-exact t c =
    let child = c.in-Some.ensures in
    sym (bad-child (c.args.levels - 1) c.loop-rest.offset c.loop-rest.rest.now (view c.in-Some.child) c.in-Err.fault (bad_below c.args.levels (view c.args.this.now)) (sym child.exact) child.within.0 child.within.1 (sym c.in-Err.ensures.exact) c.loop-rest.invariant.bad)

pub loop-rest-preserved : goal.loop-rest-preserved
loop-rest-preserved t c =
    let child = c.in-Some.ensures in
    let x = c.loop-rest.rest.now in
    let o = c.loop-rest.offset in
    let b = view c.in-Some.child in
    let n = c.args.levels - 1 in
    let d = c.loop-rest.deep in
    let back : c.split_at.result.1.now ≡ drop (box_len b) x = c.split_at.ensures.back in
    let sound : verdict (bad_below n b) ≡ Ok tt = elim c.if-not-is_leaf.branch [
      | then-not-is_leaf+in_default-check_below w ↦ sym w.in_default-check_below.ensures.exact
      | else-not-is_leaf w ↦ ap verdict (c.is_leaf.ensures.bad w.if-not-is_leaf.false)
    ] in
    let step : c.if-not-is_leaf.deep ≡ option_or d (first_of (deep_below n b)) = elim c.if-not-is_leaf.branch [
      | then-not-is_leaf+in_default-check_below w ↦ w.deep-is ∙ w.in_default-check_below.ensures.deep
      | else-not-is_leaf w ↦ w.deep-is ∙ sym (ap (λ (fs : List Fault). option_or d (first_of fs)) (c.is_leaf.ensures.deep w.if-not-is_leaf.false) ∙ or-none d)
    ] in
    record {
      below = c.loop-rest.invariant.below;
      room = omega (arith, c.split_at.ensures.back_len, c.loop-rest.invariant.room);
      bad = ap (λ (y : List ℕ). over (bad_below n) bad_rest y 0 (o + box_len b)) back ∙ bad-past n o x b (bad_below c.args.levels (view c.args.this.now)) (sym child.exact) child.within.0 child.within.1 sound c.loop-rest.invariant.bad;
      deep = ap (λ (y : List ℕ). option_or c.if-not-is_leaf.deep (first_of (over (deep_below n) no_rest y 0 (o + box_len b)))) back
          ∙ deep-past n o x b d c.if-not-is_leaf.deep (option_or c.args.deep.now (first_of (deep_below c.args.levels (view c.args.this.now)))) (sym child.exact) child.within.0 child.within.1 step c.loop-rest.invariant.deep;
    }

pub returns-clause-exact : goal.returns-clause-exact
returns-clause-exact t c =
    let none : length c.loop-rest.rest.now ≡ 0 = (Decides-eqb (length c.loop-rest.rest.now) 0).0 (sym c.loop-rest-test.ensures) in
    ap verdict (sym (over-end (bad_below (c.args.levels - 1)) bad_rest c.loop-rest.rest.now c.loop-rest.offset none) ∙ c.loop-rest.invariant.bad)

pub returns-clause-deep : goal.returns-clause-deep
returns-clause-deep t c =
    let none : length c.loop-rest.rest.now ≡ 0 = (Decides-eqb (length c.loop-rest.rest.now) 0).0 (sym c.loop-rest-test.ensures) in
    sym (or-none c.loop-rest.deep) ∙ (ap (λ (fs : List Fault). option_or c.loop-rest.deep (first_of fs)) (sym (over-end (deep_below (c.args.levels - 1)) no_rest c.loop-rest.rest.now c.loop-rest.offset none)) ∙ c.loop-rest.invariant.deep)
