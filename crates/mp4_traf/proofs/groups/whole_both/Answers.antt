use Rattle.std.proofs.Common.{arith, ℕ, ◌+◌, ◌-◌, ap}
use Rattle.mp4_traf.specs.Implementation.Added.{numbers_from}
use Rattle.mp4_traf.proofs.BetweenLemmas.{one_less}
use Rattle.mp4_traf.proofs.RowLemmas.{number_there, numbers_next, numbers_none}
use Rattle.mp4_traf.proofs.groups.whole_both.Goals as goal

pub u32_at-requires : goal.u32_at-requires
u32_at-requires c =
    let some = c.loop-groups_left-test.true in
    let less = one_less c.args.len c.loop-groups_left.groups_left (omega (arith, some)) in
    omega (arith, c.requires.sizes, c.loop-groups_left.invariant.near_size, less)

pub u32_at-requires-in-loop-groups_left : goal.u32_at-requires-in-loop-groups_left
u32_at-requires-in-loop-groups_left c =
    let some = c.loop-groups_left-test.true in
    let less = one_less c.args.len c.loop-groups_left.groups_left (omega (arith, some)) in
    omega (arith, c.requires.durations, c.loop-groups_left.invariant.near_duration, less)

pub loop-groups_left-preserved : goal.loop-groups_left-preserved
loop-groups_left-preserved c =
    let groups = c.args.groups.now in
    let len = c.args.len in
    let size = c.loop-groups_left.size_place in
    let duration = c.loop-groups_left.duration_place in
    let left = c.loop-groups_left.groups_left in
    let some = c.loop-groups_left-test.true in
    let at = c.loop-groups_left.invariant in
    let next_size = numbers_next groups len size left (omega (arith, some)) in
    let next_duration = numbers_next groups len duration left (omega (arith, some)) in
    let size_step = ap (λ (k : ℕ). numbers_from groups len (size + k) (left - 1)) c.from-step.ensures in
    let duration_step = ap (λ (k : ℕ). numbers_from groups len (duration + k) (left - 1)) c.from-step.ensures in
    let less = one_less len left (omega (arith, some)) in
    let size_there = number_there groups size (omega (arith, c.requires.sizes, at.near_size, less)) in
    let duration_there = number_there groups duration (omega (arith, c.requires.durations, at.near_duration, less)) in
    let size_number = c.u32_at.type_inv in
    let duration_number = c.u32_at-in-loop-groups_left.type_inv in
    record {
      bytes = omega (arith, at.bytes, next_size, size_step, size_there, c.from-bytes.ensures, c.u32_at.ensures);
      ticks = omega (arith, at.ticks, next_duration, duration_step, duration_there, c.from-ticks.ensures, c.u32_at-in-loop-groups_left.ensures);
      few_bytes = omega (arith, at.few_bytes, some, c.from-bytes.ensures, size_number);
      few_ticks = omega (arith, at.few_ticks, some, c.from-ticks.ensures, duration_number);
      near_size = omega (arith, at.near_size, less, c.from-step.ensures);
      near_duration = omega (arith, at.near_duration, less, c.from-step.ensures);
    }

pub returns-clause-bytes : goal.returns-clause-bytes
returns-clause-bytes c =
    let over = c.loop-groups_left-test.false in
    let none = numbers_none c.args.groups.now c.args.len c.loop-groups_left.size_place c.loop-groups_left.groups_left (omega (arith, over)) in
    omega (arith, c.loop-groups_left.invariant.bytes, none)

pub returns-clause-ticks : goal.returns-clause-ticks
returns-clause-ticks c =
    let over = c.loop-groups_left-test.false in
    let none = numbers_none c.args.groups.now c.args.len c.loop-groups_left.duration_place c.loop-groups_left.groups_left (omega (arith, over)) in
    omega (arith, c.loop-groups_left.invariant.ticks, none)
