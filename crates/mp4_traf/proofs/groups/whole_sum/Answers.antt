use Rattle.std.proofs.Common.{arith, ℕ, ◌+◌, ◌-◌, ap}
use Rattle.mp4_traf.specs.Implementation.Added.{numbers_from}
use Rattle.mp4_traf.proofs.BetweenLemmas.{one_less}
use Rattle.mp4_traf.proofs.RowLemmas.{number_there, numbers_next, numbers_none}
use Rattle.mp4_traf.proofs.groups.whole_sum.Goals as goal

pub u32_at-requires : goal.u32_at-requires
u32_at-requires c =
    let some = c.loop-left-test.true in
    let less = one_less c.args.len c.loop-left.left (omega (arith, some)) in
    omega (arith, c.requires.there, c.loop-left.invariant.near, less)

pub loop-left-preserved : goal.loop-left-preserved
loop-left-preserved c =
    let groups = c.args.groups.now in
    let len = c.args.len in
    let place = c.loop-left.place in
    let left = c.loop-left.left in
    let some = c.loop-left-test.true in
    let at = c.loop-left.invariant in
    let less = one_less len left (omega (arith, some)) in
    let next = numbers_next groups len place left (omega (arith, some)) in
    let step = ap (λ (k : ℕ). numbers_from groups len (place + k) (left - 1)) c.from-step.ensures in
    let there = number_there groups place (omega (arith, c.requires.there, at.near, less)) in
    let number = c.u32_at.type_inv in
    record {
      sum = omega (arith, at.sum, next, step, there, c.from-total.ensures, c.u32_at.ensures);
      few = omega (arith, at.few, some, c.from-total.ensures, number);
      near = omega (arith, at.near, less, c.from-step.ensures);
    }

pub returns-clause-sum : goal.returns-clause-sum
returns-clause-sum c =
    let over = c.loop-left-test.false in
    let none = numbers_none c.args.groups.now c.args.len c.loop-left.place c.loop-left.left (omega (arith, over)) in
    omega (arith, c.loop-left.invariant.sum, none)
