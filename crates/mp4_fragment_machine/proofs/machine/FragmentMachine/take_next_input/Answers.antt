use Rattle.std.proofs.Common.{◌≡◌, ◌∙◌, ◌<◌, ◌≤◌, length, ap, sym, take}
use Rattle.mp4_fragment_machine.specs.declared.machine.FragmentMachine.TheInside.{Inside}
use Rattle.mp4_fragment_machine.specs.States.{stopped}
use Rattle.mp4_fragment_machine.specs.Implementation.Steps.{GoesTo, StopsIn, at_state, borrowed}
use Rattle.mp4_machine.proofs.HoldingLemmas.{begins_more}
use Rattle.mp4_fragment_machine.proofs.FeedLemmas.{fed}
use Rattle.mp4_fragment_machine.proofs.StepLemmas.{Consumes-goes, Consumes-stops, held_goes, held_stops}
use Rattle.mp4_fragment_machine.proofs.machine.FragmentMachine.take_next_input.Goals as goal
use Rattle.mp4_fragment_machine.proofs.machine.FragmentMachine.take_next_input.Goals.{After-give_back, In-None, in-Header, in-Buffering+in-Ok, in-Buffering+in-Err, in-MdatHeader, in-Copied}
use Rattle.mp4_fragment_machine.proofs.machine.FragmentMachine.take_next_input.Given.{Over}

goes : (g : Over) (c : In-None g) → (0 < c.in-Ok-taken.field-0.count) × (c.in-Ok-taken.field-0.count ≤ length c.args.input.now) × GoesTo (borrowed g.W.Sink.contents g.W.Sink.has_failed c.args.w.now c.match-replace.w c.args.out.now c.match-replace.out c.args.ledger.now c.match-replace.ledger) c.self.inside.carried c.match-replace.self-inside.carried (at_state c.self.inside.carried c.self.inside.state) (take c.in-Ok-taken.field-0.count c.args.input.now) c.in-Ok-taken.field-0.state
goes g c = elim c.match-replace.branch [
  | in-Header w ↦ rw (w.w-is, w.out-is, w.ledger-is, w.self-inside-is) (Consumes-goes c.args.input.now (w.take_header-taken.ensures) (sym c.replace.ensures.value ∙ w.in-Header.is) (sym w.taken-is ∙ c.in-Ok-taken.is))
  | in-Buffering+in-Ok w ↦ rw (w.w-is, w.out-is, w.ledger-is, w.self-inside-is) (Consumes-goes c.args.input.now (held_goes w.in-Buffering.buffered c.args.input.now w.take-count.result (rw (sym (sym c.replace.ensures.value ∙ w.in-Buffering.is)) (record { some = c.requires.some; state = c.self.invariant.0; can = record { claim = rw (← c.self.view_is) at c.requires.claim; counted = c.self.invariant.1 } })) w.take-count.ensures.taken (rw w.take-count.ensures.buffered at w.in-Ok.ensures)) (sym c.replace.ensures.value ∙ w.in-Buffering.is) (sym w.taken-is ∙ c.in-Ok-taken.is))
  | in-Buffering+in-Err w ↦ rw (w.w-is, w.out-is, w.ledger-is, w.self-inside-is) (Consumes-goes c.args.input.now (held_stops w.in-Buffering.buffered c.args.input.now w.take-count.result (rw (sym (sym c.replace.ensures.value ∙ w.in-Buffering.is)) (record { some = c.requires.some; state = c.self.invariant.0; can = record { claim = rw (← c.self.view_is) at c.requires.claim; counted = c.self.invariant.1 } })) (rw w.take-count.ensures.buffered at w.in-Err.ensures)) (sym c.replace.ensures.value ∙ w.in-Buffering.is) (sym w.taken-is ∙ c.in-Ok-taken.is))
  | in-MdatHeader w ↦ rw (w.w-is, w.out-is, w.ledger-is, w.self-inside-is) (Consumes-goes c.args.input.now (w.take_mdat_header-taken.ensures) (sym c.replace.ensures.value ∙ w.in-MdatHeader.is) (sym w.taken-is ∙ c.in-Ok-taken.is))
  | in-Copied w ↦ rw (w.w-is, w.out-is, w.ledger-is, w.self-inside-is) (Consumes-goes c.args.input.now (w.take_copied-taken.ensures c.self.inside.carried c.args.ledger.now (rw (sym (sym c.replace.ensures.value ∙ w.in-Copied.is)) (record { some = c.requires.some; state = c.self.invariant.0; can = record { claim = rw (← c.self.view_is) at c.requires.claim; counted = c.self.invariant.1 } }))) (sym c.replace.ensures.value ∙ w.in-Copied.is) (sym w.taken-is ∙ c.in-Ok-taken.is))
]

stops : (g : Over) (c : After-give_back g) → StopsIn (borrowed g.W.Sink.contents g.W.Sink.has_failed c.args.w.now c.match-replace.w c.args.out.now c.match-replace.out c.args.ledger.now c.match-replace.ledger) c.self.inside.carried c.match-replace.self-inside.carried (at_state c.self.inside.carried c.self.inside.state) c.args.input.now c.in-Err-taken.stop
stops g c = elim c.match-replace.branch [
  | in-Header w ↦ rw (w.w-is, w.out-is, w.ledger-is, w.self-inside-is) (Consumes-stops c.args.input.now (w.take_header-taken.ensures) (sym c.replace.ensures.value ∙ w.in-Header.is) (sym w.taken-is ∙ c.in-Err-taken.is))
  | in-Buffering+in-Ok w ↦ rw (w.w-is, w.out-is, w.ledger-is, w.self-inside-is) (Consumes-stops c.args.input.now (held_goes w.in-Buffering.buffered c.args.input.now w.take-count.result (rw (sym (sym c.replace.ensures.value ∙ w.in-Buffering.is)) (record { some = c.requires.some; state = c.self.invariant.0; can = record { claim = rw (← c.self.view_is) at c.requires.claim; counted = c.self.invariant.1 } })) w.take-count.ensures.taken (rw w.take-count.ensures.buffered at w.in-Ok.ensures)) (sym c.replace.ensures.value ∙ w.in-Buffering.is) (sym w.taken-is ∙ c.in-Err-taken.is))
  | in-Buffering+in-Err w ↦ rw (w.w-is, w.out-is, w.ledger-is, w.self-inside-is) (Consumes-stops c.args.input.now (held_stops w.in-Buffering.buffered c.args.input.now w.take-count.result (rw (sym (sym c.replace.ensures.value ∙ w.in-Buffering.is)) (record { some = c.requires.some; state = c.self.invariant.0; can = record { claim = rw (← c.self.view_is) at c.requires.claim; counted = c.self.invariant.1 } })) (rw w.take-count.ensures.buffered at w.in-Err.ensures)) (sym c.replace.ensures.value ∙ w.in-Buffering.is) (sym w.taken-is ∙ c.in-Err-taken.is))
  | in-MdatHeader w ↦ rw (w.w-is, w.out-is, w.ledger-is, w.self-inside-is) (Consumes-stops c.args.input.now (w.take_mdat_header-taken.ensures) (sym c.replace.ensures.value ∙ w.in-MdatHeader.is) (sym w.taken-is ∙ c.in-Err-taken.is))
  | in-Copied w ↦ rw (w.w-is, w.out-is, w.ledger-is, w.self-inside-is) (Consumes-stops c.args.input.now (w.take_copied-taken.ensures c.self.inside.carried c.args.ledger.now (rw (sym (sym c.replace.ensures.value ∙ w.in-Copied.is)) (record { some = c.requires.some; state = c.self.invariant.0; can = record { claim = rw (← c.self.view_is) at c.requires.claim; counted = c.self.invariant.1 } }))) (sym c.replace.ensures.value ∙ w.in-Copied.is) (sym w.taken-is ∙ c.in-Err-taken.is))
]

emptied : (g : Over) (c : After-give_back g) → c.match-replace.self-inside.state ≡ stopped
emptied g c = elim c.match-replace.branch [
  | in-Header w ↦ ap (λ (m : Inside). m.state) w.self-inside-is ∙ (c.replace.ensures.after ∙ c.stopped.ensures)
  | in-Buffering+in-Ok w ↦ ap (λ (m : Inside). m.state) w.self-inside-is ∙ (c.replace.ensures.after ∙ c.stopped.ensures)
  | in-Buffering+in-Err w ↦ ap (λ (m : Inside). m.state) w.self-inside-is ∙ (c.replace.ensures.after ∙ c.stopped.ensures)
  | in-MdatHeader w ↦ ap (λ (m : Inside). m.state) w.self-inside-is ∙ (c.replace.ensures.after ∙ c.stopped.ensures)
  | in-Copied w ↦ ap (λ (m : Inside). m.state) w.self-inside-is ∙ (c.replace.ensures.after ∙ c.stopped.ensures)
]

pub hold-requires-clause-begins : goal.hold-requires-clause-begins
hold-requires-clause-begins g c =
    let b = c.in-Buffering.buffered in
    let held = rw (sym c.replace.ensures.value ∙ c.in-Buffering.is) at c.self.invariant.0 in
    rw c.take-count.ensures.buffered (begins_more b.size b.bytes (take c.take-count.result c.args.input.now) held.3)

pub invariant_of-self : goal.invariant_of-self
invariant_of-self g c =
    let to = (goes g c).2 in
    rw c.replace-in-Ok-taken.ensures.after (to.state, to.counted)

pub returns-in-Err-taken : goal.returns-in-Err-taken
returns-in-Err-taken g c =
    let taken = stops g c in
    let back = rw (emptied g c, taken.tracks) at c.give_back.ensures.back in
    rw (← c.self.view_is, back, c.give_back.ensures.counted)
    (record { step = taken.step; spent = rw c.give_back.ensures.counted at c.give_back.ensures.spent; operation = rw c.give_back.ensures.task taken.operation })

pub returns-in-None : goal.returns-in-None
returns-in-None g c =
    rw (← c.self.view_is, c.replace-in-Ok-taken.ensures.after)
    (fed (borrowed g.W.Sink.contents g.W.Sink.has_failed c.args.w.now c.match-replace.w c.args.out.now c.match-replace.out c.args.ledger.now c.match-replace.ledger) c.self.inside.carried c.match-replace.self-inside.carried c.self.inside.state c.in-Ok-taken.field-0.state c.args.input.now c.in-Ok-taken.field-0.count (goes g c))
