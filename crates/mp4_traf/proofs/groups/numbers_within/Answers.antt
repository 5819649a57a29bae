use Rattle.std.proofs.Common.{arith, sym, refl}
use Rattle.mp4_traf.proofs.BetweenLemmas.{one_less, one_more}
use Rattle.mp4_traf.proofs.RowLemmas.{numbers_more, numbers_none}
use Rattle.mp4_traf.proofs.groups.numbers_within.Goals as goal

pub loop-numbers_left-init : goal.loop-numbers_left-init
loop-numbers_left-init c = record {
  sum = sym (numbers_none c.args.groups.now c.args.len c.args.at 0 refl);
  within = omega arith;
  few = omega arith;
  counted = omega arith;
  here = omega (arith, c.from-place.ensures);
  near = omega (arith, c.from-place.ensures);
}

pub loop-numbers_left-preserved : goal.loop-numbers_left-preserved
loop-numbers_left-preserved c =
    let groups = c.args.groups.now in
    let len = c.args.len in
    let count = c.loop-numbers_left.count in
    let left = c.loop-numbers_left.numbers_left in
    let some = c.loop-numbers_left-test.true in
    let at = c.loop-numbers_left.invariant in
    let more = numbers_more groups len c.args.at count c.loop-numbers_left.place at.here in
    let number = c.number_in.type_inv in
    record {
      sum = omega (arith, at.sum, more, c.from-total.ensures, c.number_in.ensures);
      within = omega (arith, c.if-total-limit.false);
      few = omega (arith, at.few, c.from-total.ensures, number);
      counted = omega (arith, at.counted, some);
      here = omega (arith, at.here, one_more len count, c.from-step.ensures);
      near = omega (arith, at.near, one_less len left (omega (arith, some)), c.from-step.ensures);
    }

pub returns-then-total-limit-clause-full : goal.returns-then-total-limit-clause-full
returns-then-total-limit-clause-full c = λ less.
    let at = c.loop-numbers_left.invariant in
    let more = numbers_more c.args.groups.now c.args.len c.args.at c.loop-numbers_left.count c.loop-numbers_left.place at.here in
    omega (arith, at.sum, more, c.from-total.ensures, c.number_in.ensures, c.if-total-limit.true)
