use Rattle.std.proofs.Common.{◌≡◌, ◌+◌, ◌*◌, ◌++◌, ℕ, List, [], length}
use Rattle.mp4_machine.specs.Ends.{sent}
use Rattle.mp4_machine.specs.Groups.{waiting_after}
use Rattle.mp4_machine.specs.Puts.{HasPut}
use Rattle.mp4_machine.proofs.block.Block.put_by_blocks.Given as goal

abbrev pub decreases-loop-rest : goal.decreases-loop-rest
decreases-loop-rest g l = length l.rest

-- what was put, and what is left, are all; nothing waits, and as much will wait as by all groups
abbrev pub invariant-loop-rest : goal.invariant-loop-rest
invariant-loop-rest g l = record {
  text : List ℕ;
  put : HasPut (sent g.W.Sink.contents g.W.Sink.has_failed l.fn.w l.w) l.fn.self l.self text [];
  left : text ++ l.rest ≡ l.fn.bytes;
  empty : l.self.bytes ≡ [];
  rounds : ℕ;
  long : length l.fn.bytes ≡ 16384 * rounds + length l.rest;
  waits : (count groups : ℕ) → length l.fn.bytes ≡ 16 * count → length l.rest ≡ 16 * groups → waiting_after 0 count ≡ waiting_after 0 groups;
}
