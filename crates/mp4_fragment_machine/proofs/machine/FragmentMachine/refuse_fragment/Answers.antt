use Rattle.std.proofs.Common.{◌≡◌, ◌∙◌, ℕ, List, false, None, ap, arith, refl, rules}
use Rattle.mp4_machine.specs.Blocks.{unused}
use Rattle.mp4_machine.specs.declared.stop.Stop.TheVariants.{Stream}
use Rattle.mp4_fragment_machine.specs.Places.{Untouched}
use Rattle.mp4_fragment_machine.specs.States.{Progress}
use Rattle.mp4_fragment_machine.specs.Implementation.InPlace.{IsRefused}
use Rattle.mp4_fragment_machine.specs.Implementation.Steps.{StopsIn, at_state, ledger_alone}
use Rattle.mp4_fragment_machine.specs.declared.state.Carried.{Carried}
use Rattle.mp4_fragment_machine.specs.declared.state.State.TheVariants as states
use Rattle.mp4_fragment_machine.proofs.RefuseInPlaceLemmas.{few_rows, refused-few, refused-room, refused-rows, refused-state, refused-stops, refused-tracks}
use Rattle.mp4_fragment_machine.proofs.machine.FragmentMachine.refuse_fragment.Goals as goal
use Rattle.mp4_fragment_machine.proofs.machine.FragmentMachine.refuse_fragment.Goals.{After-stop_at}

-- any writer
abbrev no_writer : Untouched
no_writer = record { written = None; waiting = unused; failed = false }

pub count_allowed-requires : goal.count_allowed-requires
count_allowed-requires c =
    let (at, input, refused) = c.requires.refused in
    refused-room refused

pub inspect-requires-clause-inspected : goal.inspect-requires-clause-inspected
inspect-requires-clause-inspected c =
    let (at, input, refused) = c.requires.refused in
    let state : c.self.inside.state ≡ states.Header at = ap (λ (p : Progress). p.state) c.self.view_is ∙ refused-state refused in
    let i = (rw state at c.self.invariant).1 in
    omega (arith, i.inspected, i.far, refused-few refused)

pub inspect-requires-clause-steps : goal.inspect-requires-clause-steps
inspect-requires-clause-steps c =
    let (at, input, refused) = c.requires.refused in
    let state : c.self.inside.state ≡ states.Header at = ap (λ (p : Progress). p.state) c.self.view_is ∙ refused-state refused in
    let i = (rw state at c.self.invariant).1 in
    omega (arith, few_rows c.self.inside.carried.operation c.self.inside.carried.counter at i, i.inspected, i.far, refused-few refused, refused-rows refused)

-- what it carries when it stops
abbrev stopped : After-stop_at → Carried
stopped c = record { operation = c.self.inside.carried.operation; tracks = c.self.inside.carried.tracks; header_bytes = c.self.inside.carried.header_bytes; counter = c.inspect.new.counter }

stops : (c : After-stop_at) (u : Untouched) (at : ℕ) (input : List ℕ) → IsRefused c.args.self.now c.args.ledger.now at input c.args.bytes c.args.samples c.args.rows c.args.fault →
    StopsIn (ledger_alone u c.args.ledger.now c.count_allowed.new.ledger) c.self.inside.carried (stopped c) (at_state c.self.inside.carried (states.Header at)) input (Stream c.args.fault)
stops c u at input seen =
    let carried = c.self.inside.carried in
    let state : c.self.inside.state ≡ states.Header at = ap (λ (p : Progress). p.state) c.self.view_is ∙ refused-state seen in
    let refused = rw (← c.self.view_is, state) at seen in
    let low = rw (← c.self.view_is, state, refused-tracks refused) at c.requires.claim in
    rw c.inspect.ensures (refused-stops carried u c.args.ledger.now c.count_allowed.new.ledger at input c.args.bytes c.args.samples c.args.rows c.args.fault low (rw state at c.self.invariant).1 c.count_allowed.ensures refused)

pub returns-clause-ended : goal.returns-clause-ended
returns-clause-ended c = λ u at input refused.
    let state : c.self.inside.state ≡ states.Header at = ap (λ (p : Progress). p.state) c.self.view_is ∙ refused-state refused in
    let stopped = stops (goal.at.returns-clause-ended c).After-stop_at u at input refused in
    rw (← c.self.view_is, state, c.stop_at.ensures.state, c.stop_at.ensures.carried, c.stop_at.ensures.back)
    (record { step = stopped.step; spent = refl; operation = stopped.operation })

pub invariant_of-self : goal.invariant_of-self
invariant_of-self c =
    let (at, input, refused) = c.requires.refused in
    let stopped = stops c no_writer at input refused in
    rw (c.stop_at.ensures.state, c.stop_at.ensures.carried) (search rules, stopped.counted)

pub stop_at-requires-clause-header : goal.stop_at-requires-clause-header
stop_at-requires-clause-header c =
    let (at, input, refused) = c.requires.refused in
    (at, ap (λ (p : Progress). p.state) c.self.view_is ∙ refused-state refused)

pub stop_at-requires-clause-claim : goal.stop_at-requires-clause-claim
stop_at-requires-clause-claim c =
    let (at, input, refused) = c.requires.refused in
    let state : c.self.inside.state ≡ states.Header at = ap (λ (p : Progress). p.state) c.self.view_is ∙ refused-state refused in
    let low = rw (← c.self.view_is, state) at c.requires.claim in
    rw c.count_allowed.ensures (omega (arith, low))
