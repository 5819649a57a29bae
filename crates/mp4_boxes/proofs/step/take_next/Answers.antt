use Rattle.mp4_boxes.specs.States.{environment}
use Rattle.mp4_boxes.proofs.step.take_next.Goals as goal

pub returns-in-Body : goal.returns-in-Body
returns-in-Body g c =
    let is = rw c.in-Body.is at c.requires.state in
    rw (c.in-Body.is, is.0) (c.take_body.ensures (environment (g.W.Sink.contents c.args.w.now) c.args.out.now c.args.ledger.now) (g.W.Sink.has_failed c.args.w.now))
