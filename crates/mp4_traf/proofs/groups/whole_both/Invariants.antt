use Rattle.std.proofs.Common.{◌≡◌, ◌+◌, ◌*◌, ◌≤◌}
use Rattle.mp4_traf.specs.Implementation.Added.{numbers_from}
use Rattle.mp4_traf.proofs.groups.whole_both.Given as goal

abbrev pub decreases-loop-groups_left : goal.decreases-loop-groups_left
decreases-loop-groups_left l = l.groups_left

abbrev pub invariant-loop-groups_left : goal.invariant-loop-groups_left
invariant-loop-groups_left l = record {
  bytes : l.bytes + numbers_from l.groups l.len l.size_place l.groups_left ≡ numbers_from l.groups l.len l.fn.size_at l.fn.count;
  ticks : l.ticks + numbers_from l.groups l.len l.duration_place l.groups_left ≡ numbers_from l.groups l.len l.fn.duration_at l.fn.count;
  few_bytes : l.bytes + 4294967295 * l.groups_left ≤ 4294967295 * l.fn.count;
  few_ticks : l.ticks + 4294967295 * l.groups_left ≤ 4294967295 * l.fn.count;
  near_size : l.size_place + l.len * l.groups_left ≡ l.fn.size_at + l.len * l.fn.count;
  near_duration : l.duration_place + l.len * l.groups_left ≡ l.fn.duration_at + l.len * l.fn.count;
}
