use Rattle.std.proofs.Common.{◌≡◌, ◌∙◌, arith, length}
use Rattle.mp4_machine.specs.Bodies.{after_bytes}
use Rattle.mp4_machine.proofs.ContinuationLemmas.{IsLeft-within}
use Rattle.mp4_fragment_machine.specs.Places.{Untouched}
use Rattle.mp4_fragment_machine.specs.Implementation.Steps.{CanStep, ledger_alone}
use Rattle.mp4_fragment_machine.specs.declared.state.State.TheVariants as states
use Rattle.mp4_fragment_machine.proofs.ExtentLemmas.{GoesTo-passed}
use Rattle.mp4_fragment_machine.proofs.FeedLemmas.{fed, promised}
use Rattle.mp4_fragment_machine.proofs.machine.FragmentMachineMachine.take.Goals as goal
use Rattle.mp4_fragment_machine.proofs.machine.FragmentMachineMachine.take.Goals.{After-take_next_input, in-Header+in-No, in_default+in_default-state+in_default-state-2}
use Rattle.mp4_fragment_machine.proofs.machine.FragmentMachineMachine.take.Given.{Over}

-- a machine that isn't in a body, and finds nothing whole, is as it was
unmoved : (g : Over) (c : After-take_next_input g) → c.match-self.self ≡ c.args.self.now
unmoved g c = elim c.match-self.branch [
  | in-Header+in-No w ↦ w.self-is
  | in_default+in_default-state+in_default-state-2 w ↦ w.self-is ∙ c.self.view_is
]

pub returns : goal.returns
returns g c = promised _ _ _ (rw (unmoved g c) at c.take_next_input.ensures)

pub returns-then-count-body : goal.returns-then-count-body
returns-then-count-body g c =
    let carried = c.self.inside.carried in
    let b = c.in-Body.body in
    let w = c.in-Body.field-1 in
    let input = c.args.input.now in
    let n = length input in
    let within = c.if-count-body.true in
    let is = rw c.in-Body.is at c.self.invariant in
    let claim = rw (← c.self.view_is, c.in-Body.is) at c.requires.claim in
    let can : CanStep carried c.args.ledger.now (states.Body b w) = record { claim = claim; counted = is.1 } in
    let u : Untouched = record { written = g.W.Sink.contents c.args.w.now; waiting = c.args.out.now; failed = g.W.Sink.has_failed c.args.w.now } in
    rw (← c.self.view_is, c.in-Body.is, c.pass.ensures)
    (promised _ _ _ (fed (ledger_alone u c.args.ledger.now c.args.ledger.now) carried carried (states.Body b w) (states.Body (after_bytes n b) w) input n
    (GoesTo-passed u c.args.ledger.now carried b w n input is.0 can c.requires.some (omega (arith, within)) (omega arith) (IsLeft-within b.left n b.extent is.0.1 within))))

pub returns-in-Body : goal.returns-in-Body
returns-in-Body g c =
    rw (← c.self.view_is, c.in-Body.is)
    (promised _ _ _ (c.finish_body.ensures (record { written = g.W.Sink.contents c.args.w.now; waiting = c.args.out.now; failed = g.W.Sink.has_failed c.args.w.now })))

pub returns-in-Media : goal.returns-in-Media
returns-in-Media g c = rw (← c.self.view_is) (promised _ _ _ c.take_media.ensures)

pub take_media-requires : goal.take_media-requires
take_media-requires g c =
    record {
      some = c.requires.some;
      media = (c.in-Media.field-0, c.in-Media.is);
      claim = rw (← c.self.view_is) at c.requires.claim;
    }

pub take_other_box-requires-clause-found : goal.take_other_box-requires-clause-found
take_other_box-requires-clause-found g c = rw (← c.self.view_is, c.in-Header.is) (rw c.in-Other.is at c.find_in_place.ensures)

pub take_from_moof-requires-clause-first : goal.take_from_moof-requires-clause-first
take_from_moof-requires-clause-first g c = rw (← c.self.view_is, c.in-Header.is) (rw c.in-Moof.is at c.find_in_place.ensures)
