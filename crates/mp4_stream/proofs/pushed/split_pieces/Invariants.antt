use Rattle.std.proofs.Common.{◌≡◌, ◌+◌, take}
use Rattle.std.specs.List.{flat_map}
use Rattle.mp4_machine.specs.Ends.{sent}
use Rattle.mp4_stream.specs.Feeders.{held_by}
use Rattle.mp4_stream.proofs.PushLemmas.{SoFar}
use Rattle.mp4_stream.proofs.pushed.split_pieces.Given as goal

abbrev pub invariant-loop-input : goal.invariant-loop-input
invariant-loop-input g l = record {
  back : l.ledger.live ≡ l.initial.ledger.live + held_by l.feeder;
  limit : l.ledger.limit ≡ l.initial.ledger.limit;
  operation : l.feeder.operation ≡ l.initial.feeder.operation;
  so_far : SoFar l.initial.feeder.operation (flat_map (λ p. p.now) (take l.input-index l.pieces)) (sent g.W.Sink.contents g.W.Sink.has_failed l.initial.w l.w) l.initial.ledger.live l.initial.ledger.limit l.feeder;
}
