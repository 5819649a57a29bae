use Rattle.std.proofs.Common.{length, ◌-◌, ◌≡◌, ◌<◌, ◌≤◌, ◌++◌, take}
use Rattle.mp4_box.specs.Headers.{need}
use Rattle.mp4_machine.proofs.header_bytes.take_head.Given as goal

abbrev pub invariant-loop-count : goal.invariant-loop-count
invariant-loop-count l = record {
  within : l.count ≤ length l.input;
  bytes : l.header_bytes ≡ l.initial.header_bytes ++ take l.count l.input;
  short : length l.header_bytes < need l.header_bytes;
}

abbrev pub decreases-loop-count : goal.decreases-loop-count
decreases-loop-count l = length l.input - l.count
