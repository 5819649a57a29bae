use Rattle.std.proofs.Common.{◌≡◌, ◌∙◌, ap, arith, subst, sym, take, refl}
use Rattle.std.specs.List.{flat_map}
use Rattle.std.proofs.KnownBytes.{Appends-nil}
use Rattle.std.proofs.lemmas.List.{take_all}
use Rattle.std.specs.Io.KnownBytes.{Appends}
use Rattle.mp4_machine.specs.Ends.{sent}
use Rattle.mp4_machine.specs.Fed.{Borrowed, borrowed}
use Rattle.mp4_machine.specs.Readings.{Reading}
use Rattle.mp4_stream.specs.Feeders.{Feeding}
use Rattle.mp4_stream.specs.Pushes.{Pushes}
use Rattle.mp4_stream.proofs.FeederLemmas.{reading-none}
use Rattle.mp4_recut.specs.declared.operation.Operation.TheVariants.{Split}
use Rattle.mp4_stream.proofs.PushLemmas.{SoFar, ended, joined-more, pushed}
use Rattle.mp4_stream.proofs.pushed.split_pieces.Goals as goal

pub loop-input-init : goal.loop-input-init
loop-input-init g c =
    let operation = c.new-feeder.result.operation in
    let w = g.W.Sink.contents c.args.w.now in
    record {
      back = omega (arith, c.new-feeder.ensures.idle);
      limit = refl;
      operation = refl;
      so_far = record {
        running = λ _. (c.new-feeder.ensures.after, subst (λ (r : Reading). Appends w w r.effects.text) (sym (reading-none operation)) (Appends-nil w));
        stopped = λ e is. absurd cc;
      };
    }

pub loop-input-preserved : goal.loop-input-preserved
loop-input-preserved g c =
    let i = c.loop-input.invariant in
    let operation = c.new-feeder.result.operation in
    let joined = joined-more (λ p. p.now) c.args.pieces.now c.loop-input.input-index _ (omega (arith, c.loop-input-test.true)) in
    let l : Borrowed = borrowed (sent g.W.Sink.contents g.W.Sink.has_failed c.loop-input.w c.feed.new.w) c.loop-input.feeder.fragments c.feed.new.self.fragments c.loop-input.ledger c.feed.new.ledger in
    let s = sent g.W.Sink.contents g.W.Sink.has_failed c.args.w.now c.loop-input.w in
    let s' = sent g.W.Sink.contents g.W.Sink.has_failed c.args.w.now c.feed.new.w in
    let before = flat_map (λ p. p.now) (take c.loop-input.input-index c.args.pieces.now) in
    record {
      back = omega (arith, i.back, c.feed.ensures.live);
      limit = c.feed.ensures.limit ∙ i.limit;
      operation = c.feed.ensures.operation ∙ i.operation;
      so_far =
          subst (λ x. SoFar operation x s' c.args.ledger.now.live c.args.ledger.now.limit c.feed.new.self) (sym joined)
          (pushed operation before _ s s' c.args.ledger.now.live c.args.ledger.now.limit c.loop-input.feeder c.feed.new.self l i.operation i.back i.limit refl refl refl i.so_far
          c.feed.result (c.feed.ensures.feeds before) c.feed.ensures.runs c.feed.ensures.stops c.feed.ensures.failed
          (λ e is. let stays = c.feed.ensures.stopped e is in record { answer = stays.0; same = stays.1; ends = ap (λ w. sent g.W.Sink.contents g.W.Sink.has_failed c.args.w.now w) stays.2 }));
    }

pub returns-clause-pushes : goal.returns-clause-pushes
returns-clause-pushes g c =
    let i = c.loop-input.invariant in
    let all = ap (flat_map (λ p. p.now)) (take_all c.loop-input.input-index c.args.pieces.now (omega (arith, c.loop-input-test.false))) in
    let operation : c.new-feeder.result.operation ≡ Split c.args.cut = ap (λ (f : Feeding). f.operation) c.new-feeder.ensures.begun in
    let s = sent g.W.Sink.contents g.W.Sink.has_failed c.args.w.now c.loop-input.w in
    let before = flat_map (λ p. p.now) (take c.loop-input.input-index c.args.pieces.now) in
    let r = c.finish.result in
    subst (λ x. Pushes (Split c.args.cut) x s c.args.ledger.now.live c.args.ledger.now.limit r) all
    (subst (λ x. Pushes x before s c.args.ledger.now.live c.args.ledger.now.limit r) operation
    (ended c.new-feeder.result.operation before s c.args.ledger.now.live c.args.ledger.now.limit c.loop-input.feeder i.operation i.so_far r (c.finish.ensures.finishes before) c.finish.ensures.stopped c.finish.ensures.totals c.finish.ensures.some c.finish.ensures.few))
