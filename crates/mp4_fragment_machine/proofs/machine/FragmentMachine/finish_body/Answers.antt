use Rattle.std.proofs.Common.{◌≡◌, ◌∙◌, ℕ, ◌-◌, ◌≤◌, [], None, Some, arith, false, length, refl, subst, sym, take}
use Rattle.mp4_ledger.specs.Memory.{Account}
use Rattle.mp4_machine.specs.Blocks.{unused}
use Rattle.mp4_machine.specs.Bodies.{extent_after}
use Rattle.mp4_machine.specs.declared.body.Extent.{Extent}
use Rattle.mp4_machine.specs.declared.body.Extent.TheVariants as extents
use Rattle.mp4_machine.specs.Inputs.{environment}
use Rattle.mp4_machine.specs.Readings.{no_effects}
use Rattle.mp4_machine.proofs.ContinuationLemmas.{IsLeft-after, some_taken}
use Rattle.mp4_machine.proofs.InputLemmas.{back_to}
use Rattle.mp4_grammar.specs.Contexts.{table_of}
use Rattle.mp4_recut.specs.Operations.{operation_meaning, number_in}
use Rattle.mp4_fragment_machine.specs.Places.{InBody, Untouched}
use Rattle.mp4_fragment_machine.specs.States.{after_body, bound_in, claimed_in, most_counted, samples_of, taken_by, tracks_after}
use Rattle.mp4_fragment_machine.specs.Implementation.Steps.{CanStep, GoesTo, at_state, ledger_alone}
use Rattle.mp4_fragment_machine.specs.declared.state.State.TheVariants as states
use Rattle.mp4_fragment_machine.proofs.BodyLemmas.{Moves-open_back, claimed_apart, same_pending}
use Rattle.mp4_fragment_machine.proofs.CountLemmas.{counted_later}
use Rattle.mp4_fragment_machine.proofs.ExtentLemmas.{GoesOn-passed_in, GoesTo-passed, Refuses-far_in, claim_in}
use Rattle.mp4_fragment_machine.proofs.EndLemmas.{GoesTo-ended, GoesTo-over}
use Rattle.mp4_fragment_machine.proofs.FeedLemmas.{fed}
use Rattle.mp4_fragment_machine.proofs.StepLemmas.{Accepts, GoesTo-then}
use Rattle.mp4_fragment_machine.proofs.machine.FragmentMachine.finish_body.Goals as goal
use Rattle.mp4_fragment_machine.proofs.machine.FragmentMachine.finish_body.Goals.{After-end_fragment, In-Body-replace}

-- any writer
abbrev no_writer : Untouched
no_writer = record { written = None; waiting = unused; failed = false }

pub invariant_of-self : goal.invariant_of-self
invariant_of-self c =
    let is = rw c.in-Body.is at c.self.invariant in
    let carried = c.self.inside.carried in
    let b = c.in-Body.body in
    let w = c.in-Body.field-1 in
    let counted = counted_later carried.operation carried.counter (bound_in b.extent) most_counted (samples_of w) 0 is.1.far (omega arith) (omega arith) is.1 in
    rw (c.let_go.ensures.after, is.0.0) ((refl, record { within = omega arith; near = omega arith; more = tt }, tt), counted)

pub give_back-requires : goal.give_back-requires
give_back-requires c =
    let w = c.in-Body.field-1 in
    let b = c.in-Body.body in
    let carried = c.self.inside.carried in
    let claim = rw (← c.self.view_is, c.in-Body.is) at c.requires.claim in
    let low : claimed_in carried.tracks w ≤ c.args.ledger.now.live = subst (λ m. m ≤ c.args.ledger.now.live) (claim_in (λ _. no_effects) b.at b.kind (tracks_after carried.tracks w) (number_in carried.operation carried.counter.tally) b.left (claimed_in carried.tracks w) b.extent) claim in
    rw (c.let_go.ensures.after, c.let_go.ensures.back) (omega (arith, claimed_apart carried.tracks w, low))

pub returns-in-Err : goal.returns-in-Err
returns-in-Err c = λ u.
    let b = c.in-Body.body in
    let w = c.in-Body.field-1 in
    let carried = c.self.inside.carried in
    let ledger = c.args.ledger.now in
    let far = c.in-Err.ensures in
    let claim = rw (← c.self.view_is, c.in-Body.is) at c.requires.claim in
    let number = number_in carried.operation carried.counter.tally in
    let tracks = tracks_after carried.tracks w in
    let own = claimed_in carried.tracks w in
    let table = table_of carried.tracks in
    let low : own ≤ ledger.live = subst (λ m. m ≤ ledger.live) (claim_in (λ _. no_effects) b.at b.kind tracks number b.left own b.extent) claim in
    let o = environment u.written u.waiting ledger carried.counter.tally in
    let back = rw (c.let_go.ensures.after, c.let_go.ensures.back) at c.give_back.ensures.back in
    rw (← c.self.view_is, c.in-Body.is, back, c.give_back.ensures.counted, far.err) (record {
      step = record {
        stops = λ more. Refuses-far_in (operation_meaning carried.operation) o (back_to (back_to o (taken_by w)) table) b.at b.kind tracks number b.left own b.extent c.args.input.now more far.open (Moves-open_back o own table (taken_by w) (claimed_apart carried.tracks w) low) far.far;
        failed = λ is. absurd cc;
        unfailed = λ _. refl;
      };
      spent = rw c.give_back.ensures.counted at c.give_back.ensures.spent;
      operation = c.give_back.ensures.task;
    })

-- a body that ends has a stated size
sized : (n next : ℕ) (e : Extent) → extent_after n e ≡ extents.Sized next → e ≡ extents.Sized next
sized n next (extents.Sized end) is = is
sized n next (extents.Open needed) is = absurd cc

-- a byte of the body comes, and the body is over
came : (c : In-Body-replace) (u : Untouched) (after : Account) → let b = c.in-Body.body in let w = c.in-Body.field-1 in let carried = c.self.inside.carried in let ledger = c.args.ledger.now in
    Accepts (ledger_alone u ledger after) ledger carried carried (at_state carried (states.Body b w)) (take c.in-Ok.count c.args.input.now)
    (InBody (λ _. no_effects) b.at b.kind (after_body (number_in carried.operation carried.counter.tally) carried.tracks w c.in-Some.next) (b.left - c.in-Ok.count) (claimed_in carried.tracks w))
came c u after =
    let b = c.in-Body.body in
    let w = c.in-Body.field-1 in
    let carried = c.self.inside.carried in
    let ledger = c.args.ledger.now in
    let n = c.in-Ok.count in
    let taken = c.in-Ok.ensures in
    let is = rw c.in-Body.is at c.self.invariant in
    let claim = rw (← c.self.view_is, c.in-Body.is) at c.requires.claim in
    let (over, same) = rw taken.left at c.in-Some.ensures.some in
    let o = environment u.written u.waiting ledger carried.counter.tally in
    let passed = GoesOn-passed_in (operation_meaning carried.operation) o b.at b.kind (tracks_after carried.tracks w) (number_in carried.operation carried.counter.tally) b.left (claimed_in carried.tracks w) n b.extent c.args.input.now (omega (arith, taken.taken)) (omega (arith, taken.taken)) is.0.1.within in
    record { claim = claim; operation = refl; tracks = refl; goes = rw same at passed }

-- its pending moof ends
ends : (c : After-end_fragment) (u : Untouched) → let b = c.in-Body.body in let w = c.in-Body.field-1 in let carried = c.self.inside.carried in
    GoesTo (ledger_alone u c.args.ledger.now c.end_fragment.new.ledger) carried (record carried { tracks = Some c.end_fragment.new.tracks; counter = c.end_fragment.new.counter })
    (InBody (λ _. no_effects) b.at b.kind (after_body (number_in carried.operation carried.counter.tally) carried.tracks w c.in-Some.next) (b.left - c.in-Ok.count) (claimed_in carried.tracks w)) [] (states.Header c.in-Some.next)
ends c u =
    let b = c.in-Body.body in
    let w = c.in-Body.field-1 in
    let carried = c.self.inside.carried in
    let ledger = c.args.ledger.now in
    let is = rw c.in-Body.is at c.self.invariant in
    let (over, same) = rw c.in-Ok.ensures.left at c.in-Some.ensures.some in
    let some : w ≡ Some c.in-Some-pending_moof.pending_moof = sym (same_pending _ _ _ _ c.in-Body-replace.ensures.value) ∙ c.in-Some-pending_moof.is in
    let claim = rw (← c.self.view_is, c.in-Body.is) at c.requires.claim in
    let low : claimed_in carried.tracks w ≤ ledger.live = subst (λ m. m ≤ ledger.live) (claim_in (λ _. no_effects) b.at b.kind (tracks_after carried.tracks w) (number_in carried.operation carried.counter.tally) b.left (claimed_in carried.tracks w) b.extent) claim in
    let ended = c.end_fragment.ensures in
    let end = sized c.in-Ok.count c.in-Some.next b.extent same in
    let near = rw end at is.0.1.near in
    let counted = rw (end, some) at is.1 in
    rw some
    (GoesTo-ended u ledger c.end_fragment.new.ledger carried c.end_fragment.new.counter c.in-Some-tracks.list c.end_fragment.new.tracks c.in-Some-pending_moof.pending_moof c.in-Some.next b.at (b.left - c.in-Ok.count) b.kind c.in-Some-tracks.is
    (record { tracks = ended.tracks; len = ended.len; back = ended.back; tally = ended.tally; least = omega (arith, ended.rows_read); few = ended.few })
    over near is.0.0 (rw some at low) counted)

pub returns-in-Some-tracks : goal.returns-in-Some-tracks
returns-in-Some-tracks c = λ u.
    let b = c.in-Body.body in
    let w = c.in-Body.field-1 in
    let carried = c.self.inside.carried in
    let input = c.args.input.now in
    let n = c.in-Ok.count in
    let taken = c.in-Ok.ensures in
    let is = rw c.in-Body.is at c.self.invariant in
    rw (← c.self.view_is, c.in-Body.is, c.replace.ensures.after)
    (fed (ledger_alone u c.args.ledger.now c.end_fragment.new.ledger) carried (record carried { tracks = Some c.end_fragment.new.tracks; counter = c.end_fragment.new.counter }) (states.Body b w) (states.Header c.in-Some.next) input n (
      some_taken b.left (length input) n b.extent is.0.1.more taken.all taken.taken c.requires.some,
      omega (arith, taken.taken),
      GoesTo-then (came (goal.at.returns-in-Some-tracks c).In-Body-replace u c.end_fragment.new.ledger) (ends c u),
    ))

pub returns-in_default-pending_moof : goal.returns-in_default-pending_moof
returns-in_default-pending_moof c = λ u.
    let b = c.in-Body.body in
    let w = c.in-Body.field-1 in
    let carried = c.self.inside.carried in
    let ledger = c.args.ledger.now in
    let input = c.args.input.now in
    let n = c.in-Ok.count in
    let taken = c.in-Ok.ensures in
    let is = rw c.in-Body.is at c.self.invariant in
    let (over, same) = rw taken.left at c.in-Some.ensures.some in
    let none : w ≡ None = sym (same_pending _ _ _ _ c.in-Body-replace.ensures.value) ∙ c.in_default-pending_moof.is in
    let claim = rw (← c.self.view_is, c.in-Body.is) at c.requires.claim in
    let low : claimed_in carried.tracks w ≤ ledger.live = subst (λ m. m ≤ ledger.live) (claim_in (λ _. no_effects) b.at b.kind (tracks_after carried.tracks w) (number_in carried.operation carried.counter.tally) b.left (claimed_in carried.tracks w) b.extent) claim in
    let end = sized n c.in-Some.next b.extent same in
    let near = rw end at is.0.1.near in
    let counted = rw (end, none) at is.1 in
    let ended = GoesTo-over u ledger carried c.in-Some.next b.at (b.left - n) b.kind over near is.0.0 (rw none at low) counted in
    rw (← c.self.view_is, c.in-Body.is, c.replace.ensures.after)
    (fed (ledger_alone u ledger ledger) carried carried (states.Body b w) (states.Header c.in-Some.next) input n (
      some_taken b.left (length input) n b.extent is.0.1.more taken.all taken.taken c.requires.some,
      omega (arith, taken.taken),
      GoesTo-then (came (goal.at.returns-in_default-pending_moof c).In-Body-replace u ledger) (rw none ended),
    ))

pub invariant_of-self-in-Some-pending_moof : goal.invariant_of-self-in-Some-pending_moof
invariant_of-self-in-Some-pending_moof c =
    let ended = ends c no_writer in
    rw c.replace.ensures.after (ended.state, ended.counted)

pub returns-in_default-next : goal.returns-in_default-next
returns-in_default-next c = λ u.
    let carried = c.self.inside.carried in
    let b = c.in-Body.body in
    let w = c.in-Body.field-1 in
    let input = c.args.input.now in
    let n = c.in-Ok.count in
    let came = c.in-Ok.ensures in
    let is = rw c.in-Body.is at c.self.invariant in
    let claim = rw (← c.self.view_is, c.in-Body.is) at c.requires.claim in
    let can : CanStep carried c.args.ledger.now (states.Body b w) = record { claim = claim; counted = is.1 } in
    let more = rw came.left at c.in_default-next.ensures.none in
    rw (← c.self.view_is, c.in-Body.is, came.left)
    (fed (ledger_alone u c.args.ledger.now c.args.ledger.now) carried carried (states.Body b w) _ input n
    (GoesTo-passed u c.args.ledger.now carried b w n input is.0 can (some_taken b.left (length input) n b.extent is.0.1.more came.all came.taken c.requires.some) (omega (arith, came.taken)) (omega (arith, came.taken)) (IsLeft-after b.left n b.extent is.0.1 more)))
