use Rattle.std.proofs.Common.{◌≡◌, ◌∙◌, ◌+◌, Err, ap, arith, refl, rules}
use Rattle.mp4_fragment_machine.specs.States.{Progress}
use Rattle.mp4_fragment_machine.specs.Implementation.Steps.{borrowed}
use Rattle.mp4_fragment_machine.specs.declared.state.State.TheVariants as states
use Rattle.mp4_fragment_machine.proofs.FeedLemmas.{fed}
use Rattle.mp4_fragment_machine.proofs.machine.FragmentMachine.list_in_place.Goals as goal

pub overflow_add-at : goal.overflow_add-at
overflow_add-at g c =
    let (input, found) = c.requires.found in
    let taken = c.in-Ok.ensures.taken input found.are in
    omega (arith, taken.2.state.1)

pub invariant_of-self-in-Ok : goal.invariant_of-self-in-Ok
invariant_of-self-in-Ok g c =
    let (input, found) = c.requires.found in
    let taken = c.in-Ok.ensures.taken input found.are in
    rw c.go_to.ensures (taken.2.state, taken.2.counted)

pub returns-in-Ok-clause-taken : goal.returns-in-Ok-clause-taken
returns-in-Ok-clause-taken g c = λ input found.
    let state : c.self.inside.state ≡ states.Header c.args.at = ap (λ (p : Progress). p.state) c.self.view_is ∙ found.state in
    let new = c.list_fragment.new in
    let l = borrowed g.W.Sink.contents g.W.Sink.has_failed c.args.w.now new.w c.args.out.now new.out c.args.ledger.now new.ledger in
    rw (← c.self.view_is, state, c.go_to.ensures)
    (fed l c.self.inside.carried new.carried (states.Header c.args.at) (states.Header (c.args.at + c.in-Ok.size)) input c.in-Ok.size (c.in-Ok.ensures.taken input found.are))

pub returns-in-Err-WriteFailed : goal.returns-in-Err-WriteFailed
returns-in-Err-WriteFailed g c = record {
  taken = λ _ _. tt;
  given_up = tt;
  failed = λ input found _.
      let state : c.self.inside.state ≡ states.Header c.args.at = ap (λ (p : Progress). p.state) c.self.view_is ∙ found.state in
      let stopped = c.in-Err-WriteFailed.ensures.failed input found.are (ap Err c.in-Err-WriteFailed.field-0-is) in
      let back = rw stopped.tracks at c.stop_at.ensures.back in
      rw (← c.self.view_is, state, c.stop_at.ensures.state, c.stop_at.ensures.carried, back)
      (record { step = stopped.step; spent = refl; operation = stopped.operation });
}

pub stop_at-requires-clause-header : goal.stop_at-requires-clause-header
stop_at-requires-clause-header g c =
    let (input, found) = c.requires.found in
    (c.args.at, ap (λ (p : Progress). p.state) c.self.view_is ∙ found.state)

pub stop_at-requires-clause-claim : goal.stop_at-requires-clause-claim
stop_at-requires-clause-claim g c =
    let (input, found) = c.requires.found in
    let stopped = c.in-Err-WriteFailed.ensures.failed input found.are (ap Err c.in-Err-WriteFailed.field-0-is) in
    rw stopped.tracks stopped.left

pub invariant_of-self-in-Err-WriteFailed : goal.invariant_of-self-in-Err-WriteFailed
invariant_of-self-in-Err-WriteFailed g c =
    let (input, found) = c.requires.found in
    let stopped = c.in-Err-WriteFailed.ensures.failed input found.are (ap Err c.in-Err-WriteFailed.field-0-is) in
    rw (c.stop_at.ensures.state, c.stop_at.ensures.carried) (search rules, stopped.counted)
