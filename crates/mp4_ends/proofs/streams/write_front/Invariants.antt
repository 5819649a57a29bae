use Rattle.std.proofs.Common.{◌≡◌, ◌≤◌, ◌-◌, length, take}
use Rattle.std.specs.Io.KnownBytes.{Appends}
use Rattle.mp4_ends.proofs.streams.write_front.Given as goal

abbrev pub invariant-loop-at : goal.invariant-loop-at
invariant-loop-at g l = record {
  within : l.at ≤ length l.from;
  taken : Appends (g.W.Sink.contents l.initial.w) (g.W.Sink.contents l.w) (take l.at l.from);
  kept : g.W.Sink.has_failed l.w ≡ g.W.Sink.has_failed l.initial.w;
}

abbrev pub decreases-loop-at : goal.decreases-loop-at
decreases-loop-at g l = length l.from - l.at
