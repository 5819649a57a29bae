use Rattle.std.proofs.Common.{◌≡◌, ◌≤◌, ◌-◌, length, take, Ok}
use Rattle.mp4_machine.specs.Inputs.{GoesOn, HasNoEffects, environment, farthest}
use Rattle.mp4_machine.proofs.machine.feed.Given as goal

abbrev pub invariant-loop-at : goal.invariant-loop-at
invariant-loop-at g l = record {
  within : l.at ≤ length l.input;
  goes_on : GoesOn (environment (g.W.Sink.contents l.initial.w) l.initial.out l.initial.ledger (g.M.Machine.counted l.initial.machine)) (environment (g.W.Sink.contents l.w) l.out l.ledger (g.M.Machine.counted l.machine)) (g.M.Machine.continuation l.initial.machine) (take l.at l.input) (g.M.Machine.continuation l.machine);
  answer : l.answer ≡ Ok tt;
  claim : (g.M.Machine.continuation l.machine).claim ≤ l.ledger.live;
  quiet : HasNoEffects (g.M.Machine.continuation l.machine);
  near : (g.M.Machine.continuation l.machine).reached ≤ farthest;
  task : g.M.Machine.task l.machine ≡ g.M.Machine.task l.initial.machine;
  kept : g.W.Sink.has_failed l.w ≡ g.W.Sink.has_failed l.initial.w;
}

abbrev pub decreases-loop-at : goal.decreases-loop-at
decreases-loop-at g l = length l.input - l.at
