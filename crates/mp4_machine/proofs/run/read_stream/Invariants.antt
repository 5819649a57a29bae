use Rattle.std.proofs.Common.{◌≡◌, ◌≤◌, ◌+◌, ◌-◌, List, ℕ, length}
use Rattle.std.specs.Io.KnownBytes.{Consumes}
use Rattle.mp4_box.specs.Headers.{IsBytes}
use Rattle.mp4_machine.specs.Blocks.{unused}
use Rattle.mp4_machine.specs.Inputs.{IsFed, environment, farthest}
use Rattle.mp4_machine.specs.Readings.{uncounted}
use Rattle.mp4_machine.proofs.run.read_stream.Given as goal

abbrev pub invariant-loop-n : goal.invariant-loop-n
invariant-loop-n g l =
    (b : List ℕ) × record {
      read : Consumes (g.R.Source.remaining l.initial.r) (g.R.Source.remaining l.r) b;
      fed : IsFed (g.M.Machine.continuation l.initial.machine).reads b (environment (g.W.Sink.contents l.initial.w) unused l.initial.ledger uncounted) (environment (g.W.Sink.contents l.w) l.out l.ledger (g.M.Machine.counted l.machine)) (g.M.Machine.continuation l.machine);
      task : g.M.Machine.task l.machine ≡ g.M.Machine.task l.initial.machine;
      claim : (g.M.Machine.continuation l.machine).claim ≤ l.ledger.live;
      near : (g.M.Machine.continuation l.machine).reached ≤ farthest;
      room : length l.into ≡ l.initial.ledger.live;
      kept : g.W.Sink.has_failed l.w ≡ g.W.Sink.has_failed l.initial.w;
      total : l.total ≡ length b;
      bytes : IsBytes b;
      bound : l.total ≤ farthest;
    }

abbrev pub decreases-loop-n : goal.decreases-loop-n
decreases-loop-n g l = farthest + 1 - l.total
