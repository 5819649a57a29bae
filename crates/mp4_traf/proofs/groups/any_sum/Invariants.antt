use Rattle.std.proofs.Common.{◌≡◌, ◌+◌, ◌*◌, ◌≤◌}
use Rattle.mp4_traf.specs.Implementation.Added.{numbers_from}
use Rattle.mp4_traf.proofs.groups.any_sum.Given as goal

abbrev pub decreases-loop-numbers_left : goal.decreases-loop-numbers_left
decreases-loop-numbers_left l = l.numbers_left

abbrev pub invariant-loop-numbers_left : goal.invariant-loop-numbers_left
invariant-loop-numbers_left l = record {
  sum : l.total + numbers_from l.groups l.len l.place l.numbers_left ≡ numbers_from l.groups l.len l.fn.at l.fn.count;
  few : l.total + 4294967295 * l.numbers_left ≤ 4294967295 * l.fn.count;
  near : l.place + l.len * l.numbers_left ≡ l.fn.at + l.len * l.fn.count;
}
