use Rattle.std.proofs.Common.{◌∙◌, ap}
use Rattle.mp4_fragment_machine.specs.States.{Progress}
use Rattle.mp4_fragment_machine.specs.Implementation.Steps.{borrowed}
use Rattle.mp4_fragment_machine.proofs.FeedLemmas.{fed}
use Rattle.mp4_fragment_machine.proofs.machine.FragmentMachine.take_media.Goals as goal

pub take_recut-requires-clause-media : goal.take_recut-requires-clause-media
take_recut-requires-clause-media g c =
    (c.requires.media.0, ap (λ (p : Progress). p.state) c.self.view_is ∙ c.requires.media.1)

pub returns-in-Ok : goal.returns-in-Ok
returns-in-Ok g c =
    let new = c.take_recut.new in
    let l = borrowed g.W.Sink.contents g.W.Sink.has_failed c.args.w.now new.w c.args.out.now new.out c.args.ledger.now new.ledger in
    rw (← c.self.view_is)
    (fed l c.self.inside.carried new.carried c.self.inside.state new.current c.args.input.now c.in-Ok.taken c.in-Ok.ensures)

pub returns-in-Err : goal.returns-in-Err
returns-in-Err g c =
    let stopped = c.in-Err.ensures.1 in
    let back = rw (c.in-Err.ensures.0, stopped.tracks) at c.give_back.ensures.back in
    rw (← c.self.view_is, back, c.give_back.ensures.counted)
    (record { step = stopped.step; spent = rw c.give_back.ensures.counted at c.give_back.ensures.spent; operation = rw c.give_back.ensures.task stopped.operation })
