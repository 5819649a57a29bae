use Rattle.std.proofs.Common.{arith, ℕ, ◌+◌, ◌-◌, ap}
use Rattle.mp4_traf.specs.Implementation.Added.{numbers_from}
use Rattle.mp4_traf.proofs.BetweenLemmas.{one_less}
use Rattle.mp4_traf.proofs.RowLemmas.{numbers_next, numbers_none}
use Rattle.mp4_traf.proofs.groups.any_sum.Goals as goal

pub loop-numbers_left-preserved : goal.loop-numbers_left-preserved
loop-numbers_left-preserved c =
    let groups = c.args.groups.now in
    let len = c.args.len in
    let place = c.loop-numbers_left.place in
    let left = c.loop-numbers_left.numbers_left in
    let some = c.loop-numbers_left-test.true in
    let at = c.loop-numbers_left.invariant in
    let next = numbers_next groups len place left (omega (arith, some)) in
    let step = ap (λ (k : ℕ). numbers_from groups len (place + k) (left - 1)) c.from-step.ensures in
    let less = one_less len left (omega (arith, some)) in
    let number = c.number_in.type_inv in
    record {
      sum = omega (arith, at.sum, next, step, c.from-total.ensures, c.number_in.ensures);
      few = omega (arith, at.few, some, c.from-total.ensures, number);
      near = omega (arith, at.near, less, c.from-step.ensures);
    }

pub returns-clause-sum : goal.returns-clause-sum
returns-clause-sum c =
    let over = c.loop-numbers_left-test.false in
    let none = numbers_none c.args.groups.now c.args.len c.loop-numbers_left.place c.loop-numbers_left.numbers_left (omega (arith, over)) in
    omega (arith, c.loop-numbers_left.invariant.sum, none)
