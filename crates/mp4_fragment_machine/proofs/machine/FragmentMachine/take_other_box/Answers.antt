use Rattle.std.proofs.Common.{◌≡◌, ◌∙◌, ◌+◌, ap, arith, refl}
use Rattle.mp4_fragment_machine.specs.States.{Progress}
use Rattle.mp4_fragment_machine.specs.Implementation.Steps.{CanStep, borrowed}
use Rattle.mp4_fragment_machine.specs.declared.state.State.TheVariants as states
use Rattle.mp4_fragment_machine.proofs.FeedLemmas.{fed}
use Rattle.mp4_fragment_machine.proofs.machine.FragmentMachine.take_other_box.Goals as goal

pub returns-in-Ok : goal.returns-in-Ok
returns-in-Ok g c =
    let carried = c.self.inside.carried in
    let state : c.self.inside.state ≡ states.Header c.args.at = ap (λ (p : Progress). p.state) c.self.view_is ∙ c.requires.found.state in
    let claim = rw (← c.self.view_is, state) at c.requires.claim in
    let is = rw state at c.self.invariant in
    let can : CanStep carried c.args.ledger.now (states.Header c.args.at) = record { claim = claim; counted = is.1 } in
    let new = c.take_box_in_place.new in
    let l = borrowed g.W.Sink.contents g.W.Sink.has_failed c.args.w.now new.w c.args.out.now new.out c.args.ledger.now c.args.ledger.now in
    rw (← c.self.view_is, state, c.go_to.ensures)
    (fed l carried carried (states.Header c.args.at) (states.Header (c.args.at + c.in-Ok.size)) c.args.input.now c.in-Ok.size (c.in-Ok.ensures c.args.at c.args.ledger.now c.requires.found.is can))

pub returns-in-Err : goal.returns-in-Err
returns-in-Err g c =
    let carried = c.self.inside.carried in
    let state : c.self.inside.state ≡ states.Header c.args.at = ap (λ (p : Progress). p.state) c.self.view_is ∙ c.requires.found.state in
    let claim = rw (← c.self.view_is, state) at c.requires.claim in
    let is = rw state at c.self.invariant in
    let can : CanStep carried c.args.ledger.now (states.Header c.args.at) = record { claim = claim; counted = is.1 } in
    let stopped = c.in-Err.ensures c.args.at c.args.ledger.now c.requires.found.is can in
    rw (← c.self.view_is, state, c.stop_at.ensures.state, c.stop_at.ensures.carried, c.stop_at.ensures.back)
    (record { step = stopped.step; spent = refl; operation = stopped.operation })

pub overflow_add-at : goal.overflow_add-at
overflow_add-at g c =
    let carried = c.self.inside.carried in
    let state : c.self.inside.state ≡ states.Header c.args.at = ap (λ (p : Progress). p.state) c.self.view_is ∙ c.requires.found.state in
    let claim = rw (← c.self.view_is, state) at c.requires.claim in
    let is = rw state at c.self.invariant in
    let can : CanStep carried c.args.ledger.now (states.Header c.args.at) = record { claim = claim; counted = is.1 } in
    let taken = c.in-Ok.ensures c.args.at c.args.ledger.now c.requires.found.is can in
    omega (arith, taken.2.state.1)

pub invariant_of-self : goal.invariant_of-self
invariant_of-self g c =
    let carried = c.self.inside.carried in
    let state : c.self.inside.state ≡ states.Header c.args.at = ap (λ (p : Progress). p.state) c.self.view_is ∙ c.requires.found.state in
    let claim = rw (← c.self.view_is, state) at c.requires.claim in
    let is = rw state at c.self.invariant in
    let can : CanStep carried c.args.ledger.now (states.Header c.args.at) = record { claim = claim; counted = is.1 } in
    let taken = c.in-Ok.ensures c.args.at c.args.ledger.now c.requires.found.is can in
    rw c.go_to.ensures (taken.2.state, taken.2.counted)
