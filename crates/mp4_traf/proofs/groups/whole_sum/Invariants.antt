use Rattle.std.proofs.Common.{◌≡◌, ◌+◌, ◌*◌, ◌≤◌}
use Rattle.mp4_traf.specs.Implementation.Added.{numbers_from}
use Rattle.mp4_traf.proofs.groups.whole_sum.Given as goal

abbrev pub decreases-loop-left : goal.decreases-loop-left
decreases-loop-left l = l.left

abbrev pub invariant-loop-left : goal.invariant-loop-left
invariant-loop-left l = record {
  sum : l.total + numbers_from l.groups l.len l.place l.left ≡ numbers_from l.groups l.len l.fn.at l.fn.count;
  few : l.total + 4294967295 * l.left ≤ 4294967295 * l.fn.count;
  near : l.place + l.len * l.left ≡ l.fn.at + l.len * l.fn.count;
}
