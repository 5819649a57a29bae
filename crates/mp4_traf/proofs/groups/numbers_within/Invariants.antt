use Rattle.std.proofs.Common.{◌≡◌, ◌+◌, ◌*◌, ◌≤◌}
use Rattle.mp4_traf.specs.Implementation.Added.{numbers_from}
use Rattle.mp4_traf.proofs.groups.numbers_within.Given as goal

abbrev pub decreases-loop-numbers_left : goal.decreases-loop-numbers_left
decreases-loop-numbers_left l = l.numbers_left

abbrev pub invariant-loop-numbers_left : goal.invariant-loop-numbers_left
invariant-loop-numbers_left l = record {
  sum : l.total ≡ numbers_from l.groups l.len l.at l.count;
  within : l.total ≤ l.limit;
  few : l.total ≤ 4294967295 * l.count;
  counted : l.count + l.numbers_left ≡ l.most;
  here : l.place ≡ l.at + l.len * l.count;
  near : l.place + l.len * l.numbers_left ≡ l.at + l.len * l.most;
}
