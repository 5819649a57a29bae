use Rattle.std.proofs.Common.{◌≡◌, ◌∙◌, ◌+◌, ap, arith, refl, rules}
use Rattle.std.proofs.lemmas.List.{length-drop}
use Rattle.mp4_fragment_machine.specs.Places.{Untouched}
use Rattle.mp4_fragment_machine.specs.States.{Progress, known}
use Rattle.mp4_fragment_machine.specs.Implementation.Steps.{borrowed, ledger_alone}
use Rattle.mp4_fragment_machine.specs.declared.state.State.TheVariants as states
use Rattle.mp4_fragment_machine.proofs.FeedLemmas.{fed}
use Rattle.mp4_fragment_machine.proofs.MoofInPlaceLemmas.{GoesTo-take_more, StopsIn-take_more, moof_some}
use Rattle.mp4_fragment_machine.proofs.machine.FragmentMachine.take_moof.Goals as goal

pub returns-in-Err : goal.returns-in-Err
returns-in-Err g c =
    let state : c.self.inside.state ≡ states.Header c.args.at = ap (λ (p : Progress). p.state) c.self.view_is ∙ c.requires.first.state in
    let stopped = c.in-Err.ensures.waits (record { written = g.W.Sink.contents c.args.w.now; waiting = c.args.out.now; failed = g.W.Sink.has_failed c.args.w.now }) in
    let back = rw stopped.tracks at c.stop_at.ensures.back in
    rw (← c.self.view_is, state, c.stop_at.ensures.state, c.stop_at.ensures.carried, back)
    (record { step = stopped.step; spent = refl; operation = stopped.operation })

pub returns-then-moof-input : goal.returns-then-moof-input
returns-then-moof-input g c =
    let state : c.self.inside.state ≡ states.Header c.args.at = ap (λ (p : Progress). p.state) c.self.view_is ∙ c.requires.first.state in
    let r = rw (← c.self.view_is) at c.requires.first in
    let old = c.self.inside.carried in
    let new = c.buffer_in_place.new in
    let u : Untouched = record { written = g.W.Sink.contents c.args.w.now; waiting = c.args.out.now; failed = g.W.Sink.has_failed c.args.w.now } in
    let some = moof_some old c.args.at (known old.tracks) c.args.input.now c.args.moof.now r.is r.most r.tracks r.empty in
    let all = c.if-moof-input.true in
    rw (← c.self.view_is, state, c.leave_header.ensures)
    (fed (ledger_alone u c.args.ledger.now new.ledger) old new.carried (states.Header c.args.at) (states.MdatHeader c.in-Ok.pending_moof) c.args.input.now _ (omega (arith, some, all), omega arith, rw all at c.in-Ok.ensures.waits u))

pub take_mdat_header-requires : goal.take_mdat_header-requires
take_mdat_header-requires g c =
    let waits = c.in-Ok.ensures.waits (record { written = g.W.Sink.contents c.args.w.now; waiting = c.args.out.now; failed = g.W.Sink.has_failed c.args.w.now }) in
    record { some = search rules; state = waits.state; can = record { claim = waits.step.claim; counted = waits.counted } }

pub returns-in-Ok-take_mdat_header : goal.returns-in-Ok-take_mdat_header
returns-in-Ok-take_mdat_header g c =
    let state : c.self.inside.state ≡ states.Header c.args.at = ap (λ (p : Progress). p.state) c.self.view_is ∙ c.requires.first.state in
    let r = rw (← c.self.view_is) at c.requires.first in
    let old = c.self.inside.carried in
    let new = c.take_mdat_header.new in
    let l = borrowed g.W.Sink.contents g.W.Sink.has_failed c.args.w.now new.w c.args.out.now new.out c.args.ledger.now new.ledger in
    let waits = c.in-Ok.ensures.waits (record { written = g.W.Sink.contents c.args.w.now; waiting = c.args.out.now; failed = g.W.Sink.has_failed c.args.w.now }) in
    let came = rw c.split_at.ensures.back at c.in-Ok-take_mdat_header.ensures in
    let low = rw (← c.self.view_is, state) at c.requires.claim in
    let count = c.in-Ok-take_mdat_header.field-0.count in
    rw (← c.self.view_is, state, c.leave_header-in-Ok-take_mdat_header.ensures)
    (fed l old new.carried (states.Header c.args.at) c.in-Ok-take_mdat_header.field-0.state c.args.input.now (c.args.moof.now.size + count)
    (omega (arith, came.0), omega (arith, r.is.whole, came.1, length-drop c.args.moof.now.size c.args.input.now), GoesTo-take_more c.args.moof.now.size c.args.input.now low waits count came.2))

pub returns-in-Err-take_mdat_header : goal.returns-in-Err-take_mdat_header
returns-in-Err-take_mdat_header g c =
    let state : c.self.inside.state ≡ states.Header c.args.at = ap (λ (p : Progress). p.state) c.self.view_is ∙ c.requires.first.state in
    let waits = c.in-Ok.ensures.waits (record { written = g.W.Sink.contents c.args.w.now; waiting = c.args.out.now; failed = g.W.Sink.has_failed c.args.w.now }) in
    let low = rw (← c.self.view_is, state) at c.requires.claim in
    let stopped = StopsIn-take_more c.args.moof.now.size c.args.input.now low waits c.in-Ok.ensures.tracks (rw c.split_at.ensures.back at c.in-Err-take_mdat_header.ensures) in
    let back = rw stopped.tracks at c.stop_at-in-Err-take_mdat_header.ensures.back in
    rw (← c.self.view_is, state, c.stop_at-in-Err-take_mdat_header.ensures.state, c.stop_at-in-Err-take_mdat_header.ensures.carried, back)
    (record { step = stopped.step; spent = refl; operation = stopped.operation })

pub stop_at-requires-clause-claim : goal.stop_at-requires-clause-claim
stop_at-requires-clause-claim g c =
    let stopped = c.in-Err.ensures.waits (record { written = g.W.Sink.contents c.args.w.now; waiting = c.args.out.now; failed = g.W.Sink.has_failed c.args.w.now }) in
    rw stopped.tracks stopped.left

pub invariant_of-self : goal.invariant_of-self
invariant_of-self g c =
    let stopped = c.in-Err.ensures.waits (record { written = g.W.Sink.contents c.args.w.now; waiting = c.args.out.now; failed = g.W.Sink.has_failed c.args.w.now }) in
    rw (c.stop_at.ensures.state, c.stop_at.ensures.carried) (search rules, stopped.counted)

pub invariant_of-self-then-moof-input : goal.invariant_of-self-then-moof-input
invariant_of-self-then-moof-input g c =
    let waits = c.in-Ok.ensures.waits (record { written = g.W.Sink.contents c.args.w.now; waiting = c.args.out.now; failed = g.W.Sink.has_failed c.args.w.now }) in
    rw c.leave_header.ensures (waits.state, waits.counted)
