use Rattle.std.proofs.Common.{◌≡◌, ◌∙◌, ◌+◌, ◌<◌, ◌≤◌, [], Some, ap, arith, length, refl, rules, subst, sym, take}
use Rattle.mp4_machine.specs.Inputs.{environment}
use Rattle.mp4_machine.specs.declared.stop.Stop.TheVariants.{Write}
use Rattle.mp4_pieces.proofs.RoomLemmas.{few_pieces}
use Rattle.mp4_recut.specs.Splitting.{timescale_of}
use Rattle.mp4_recut.specs.declared.operation.Operation.TheVariants as operations
use Rattle.mp4_fragment_machine.specs.States.{IsCounted, Progress}
use Rattle.mp4_fragment_machine.specs.Implementation.InPlace.{HasOneRun}
use Rattle.mp4_fragment_machine.specs.Implementation.Steps.{GoesTo, StopsIn, at_state, borrowed}
use Rattle.mp4_fragment_machine.specs.declared.state.Carried.{Carried}
use Rattle.mp4_fragment_machine.specs.declared.state.State.TheVariants as states
use Rattle.mp4_fragment_machine.proofs.FeedLemmas.{fed}
use Rattle.mp4_fragment_machine.proofs.FragmentLemmas.{GoesOn-it, StopsAt-it, boxes_fit, moof_len, some_moof}
use Rattle.mp4_fragment_machine.proofs.RecutInPlaceLemmas.{GoesOn-recut_whole, StopsAt-recut_whole, counted_in_place}
use Rattle.mp4_fragment_machine.proofs.StepLemmas.{counted_stop, no_head}
use Rattle.mp4_fragment_machine.proofs.machine.FragmentMachine.take_one_run.Given.{Over}
use Rattle.mp4_fragment_machine.proofs.machine.FragmentMachine.take_one_run.Goals as goal
use Rattle.mp4_fragment_machine.proofs.machine.FragmentMachine.take_one_run.Goals.{After-go_to, After-stop_at, in-List, in-Split}

-- what it carries after it has taken the fragment
abbrev after : (g : Over) → After-go_to g → Carried
after g c = record { operation = c.match-self-2.self-inside.1.0.0; tracks = Some c.settle.new.tracks; header_bytes = c.match-self-2.self-inside.1.0.1.1.0; counter = c.match-self-2.self-inside.1.0.1.1.1.0 }

-- and where it couldn't be written
abbrev stopped : (g : Over) → After-stop_at g → Carried
stopped g c = record { operation = c.match-self-2.self-inside.1.0.0; tracks = Some c.in-Some.list; header_bytes = c.match-self-2.self-inside.1.0.1.1.0; counter = c.match-self-2.self-inside.1.0.1.1.1.0 }

takes : (g : Over) (c : After-go_to g) → let n = length c.args.boxes.now.moof.now + c.args.boxes.now.mdat.size in
    (0 < n) × (n ≤ length c.args.input.now)
    × GoesTo (borrowed g.W.Sink.contents g.W.Sink.has_failed c.args.w.now c.match-self-2.w c.args.out.now c.match-self-2.out c.args.ledger.now c.count_allowed.new.ledger) c.self.inside.carried (after g c)
    (at_state c.self.inside.carried (states.Header c.args.at)) (take n c.args.input.now) (states.Header (c.args.at + n))
takes g c =
    let carried = c.self.inside.carried in
    let list = c.in-Some.list in
    let b = c.args.boxes.now in
    let l = c.args.single_run.now in
    let at = c.args.at in
    let input = c.args.input.now in
    let found : HasOneRun _ c.args.ledger.now at input b l = rw (← c.self.view_is) at c.requires.found in
    let is = rw c.in-Some.is at found.is in
    let state : c.self.inside.state ≡ states.Header at = found.boxes.state in
    let claim = rw (← c.self.view_is, state, c.in-Some.is) at c.requires.claim in
    let counted = (rw state at c.self.invariant).1 in
    let o = environment (g.W.Sink.contents c.args.w.now) c.args.out.now c.args.ledger.now carried.counter.tally in
    let fit = boxes_fit at input b is.boxes in
    let some = some_moof at input b is.boxes in
    let long = moof_len at input b is.boxes in
    let len = rw c.settle.ensures.tracks at c.settle.ensures.len in (
      omega (arith, some, long),
      omega (arith, fit.whole),
      elim c.match-self-2.branch [
        | in-List w ↦
            let effects = w.list_run-put.ensures in
            let put = rw (sym w.put-is ∙ c.in-Ok.is) at (effects.puts is.boxes.mdat.header is.boxes.mdat.sized) in
            let there : at + length b.moof.now + b.mdat.size ≡ at + (length b.moof.now + b.mdat.size) = omega arith in
            rw (w.self-inside-is, w.out-is, w.w-is, c.in-Some.is, w.in-List.is, found.boxes.empty, c.settle.ensures.tracks) (record { step = record { goes = GoesOn-it at list input b l is w.in-List.command 1 o claim (g.W.Sink.contents w.list_run-put.new.w) w.list_run-put.new.out c.count_allowed.new.ledger w.list_run-put.new.counter.tally c.count_allowed.ensures (effects.tally is.boxes.mdat.header) put.passes; unfailed = put.unfailed; claim = rw c.count_allowed.ensures (omega (arith, claim, len)) }; operation = refl; state = (no_head [] refl, omega (arith, fit.near)); counted = subst (λ k. IsCounted (operations.List w.in-List.command) w.list_run-put.new.counter k 0 0) there effects.counted })
        | in-Split w ↦
            let cut = w.in-Split.cut in
            let taken = rw w.in-Split.is at found.taken in
            let t = w.recut_run-put.new.counter.tally in
            let effects = w.recut_run-put.ensures in
            let put = rw (sym w.put-is ∙ c.in-Ok.is) at (effects.puts (timescale_of list l.run.track)) in
            let number = rw (sym w.put-is ∙ c.in-Ok.is) at effects.number in
            rw (w.self-inside-is, w.out-is, w.w-is, c.in-Some.is, w.in-Split.is, found.boxes.empty, c.settle.ensures.tracks) (record {
              step = record {
                goes = GoesOn-recut_whole cut o at list input b l is taken.0 taken.1 claim (g.W.Sink.contents w.recut_run-put.new.w) w.recut_run-put.new.out c.count_allowed.new.ledger t c.count_allowed.ensures
                    (ap (λ k. k.samples) effects.tally) (ap (λ k. k.media_bytes) effects.tally) (ap (λ k. k.inspected) effects.tally) number put.passes;
                unfailed = put.unfailed;
                claim = rw c.count_allowed.ensures (omega (arith, claim, len));
              };
              operation = refl;
              state = (no_head [] refl, omega (arith, fit.near));
              counted = counted_in_place cut at list input b l is carried.counter w.recut_run-put.new.counter taken.0 (rw w.in-Split.is at counted)
                  (omega (arith, effects.most, taken.1, few_pieces cut b.moof.now l.run))
                  (ap (λ k. k.samples) effects.tally) (ap (λ k. k.media_bytes) effects.tally) (ap (λ k. k.inspected) effects.tally) effects.steps;
            })
      ],
    )

stops : (g : Over) (c : After-stop_at g) →
    StopsIn (borrowed g.W.Sink.contents g.W.Sink.has_failed c.args.w.now c.match-self-2.w c.args.out.now c.match-self-2.out c.args.ledger.now c.count_allowed.new.ledger) c.self.inside.carried (stopped g c)
    (at_state c.self.inside.carried (states.Header c.args.at)) c.args.input.now Write
stops g c =
    let carried = c.self.inside.carried in
    let list = c.in-Some.list in
    let b = c.args.boxes.now in
    let l = c.args.single_run.now in
    let at = c.args.at in
    let input = c.args.input.now in
    let found : HasOneRun _ c.args.ledger.now at input b l = rw (← c.self.view_is) at c.requires.found in
    let is = rw c.in-Some.is at found.is in
    let state : c.self.inside.state ≡ states.Header at = found.boxes.state in
    let claim = rw (← c.self.view_is, state, c.in-Some.is) at c.requires.claim in
    let counted = (rw state at c.self.invariant).1 in
    let o = environment (g.W.Sink.contents c.args.w.now) c.args.out.now c.args.ledger.now carried.counter.tally in
    elim c.match-self-2.branch [
      | in-List w ↦
          let effects = w.list_run-put.ensures in
          let put = rw (sym w.put-is ∙ c.in-Err.is) at (effects.puts is.boxes.mdat.header is.boxes.mdat.sized) in
          rw (w.self-inside-is, w.out-is, w.w-is, c.in-Some.is, w.in-List.is, found.boxes.empty) (record {
            step = record {
              stops = λ more. StopsAt-it at list input b l is w.in-List.command 1 o claim (g.W.Sink.contents w.list_run-put.new.w) w.list_run-put.new.out c.count_allowed.new.ledger w.list_run-put.new.counter.tally c.count_allowed.ensures (effects.tally is.boxes.mdat.header) more put.breaks;
              failed = λ _. put.failed;
              unfailed = λ other. absurd (other refl);
            };
            operation = refl;
            tracks = refl;
            empty = refl;
            left = rw c.count_allowed.ensures (omega (arith, claim));
            counted = counted_stop (operations.List w.in-List.command) w.list_run-put.new.counter (at + length b.moof.now + b.mdat.size) effects.counted;
          })
      | in-Split w ↦
          let cut = w.in-Split.cut in
          let taken = rw w.in-Split.is at found.taken in
          let t = w.recut_run-put.new.counter.tally in
          let effects = w.recut_run-put.ensures in
          let put = rw (sym w.put-is ∙ c.in-Err.is) at (effects.puts (timescale_of list l.run.track)) in
          let counted = counted_in_place cut at list input b l is carried.counter w.recut_run-put.new.counter taken.0 (rw w.in-Split.is at counted)
          (omega (arith, effects.most, taken.1, few_pieces cut b.moof.now l.run))
          (ap (λ k. k.samples) effects.tally) (ap (λ k. k.media_bytes) effects.tally) (ap (λ k. k.inspected) effects.tally) effects.steps in
          rw (w.self-inside-is, w.out-is, w.w-is, c.in-Some.is, w.in-Split.is, found.boxes.empty) (record {
            step = record {
              stops = λ more. StopsAt-recut_whole cut o at list input b l is taken.0 taken.1 claim (g.W.Sink.contents w.recut_run-put.new.w) w.recut_run-put.new.out c.count_allowed.new.ledger t c.count_allowed.ensures
                  (ap (λ k. k.samples) effects.tally) (ap (λ k. k.media_bytes) effects.tally) (ap (λ k. k.inspected) effects.tally) more effects.least effects.most put.breaks;
              failed = λ _. put.failed;
              unfailed = λ other. absurd (other refl);
            };
            operation = refl;
            tracks = refl;
            empty = refl;
            left = rw c.count_allowed.ensures (omega (arith, claim));
            counted = counted_stop (operations.Split cut) w.recut_run-put.new.counter (at + (length b.moof.now + b.mdat.size)) counted;
          })
    ]

pub returns-in-Ok : goal.returns-in-Ok
returns-in-Ok g c =
    let n = length c.args.boxes.now.moof.now + c.args.boxes.now.mdat.size in
    let state : c.self.inside.state ≡ states.Header c.args.at = ap (λ (p : Progress). p.state) c.self.view_is ∙ c.requires.found.boxes.state in
    let l = borrowed g.W.Sink.contents g.W.Sink.has_failed c.args.w.now c.match-self-2.w c.args.out.now c.match-self-2.out c.args.ledger.now c.count_allowed.new.ledger in
    rw (← c.self.view_is, state, c.go_to.ensures)
    (fed l c.self.inside.carried (after g c) (states.Header c.args.at) (states.Header (c.args.at + n)) c.args.input.now n (takes g c))

pub returns-in-Err : goal.returns-in-Err
returns-in-Err g c =
    let state : c.self.inside.state ≡ states.Header c.args.at = ap (λ (p : Progress). p.state) c.self.view_is ∙ c.requires.found.boxes.state in
    let stopped = stops g (goal.at.returns-in-Err g c).After-stop_at in
    rw (← c.self.view_is, state, c.stop_at.ensures.state, c.stop_at.ensures.carried, c.stop_at.ensures.back, c.in-Some.is)
    (record { step = rw c.in-Some.is at stopped.step; spent = refl; operation = stopped.operation })

pub invariant_of-self : goal.invariant_of-self
invariant_of-self g c =
    let to = (takes g c).2 in
    rw c.go_to.ensures (to.state, to.counted)

pub invariant_of-self-in-Err : goal.invariant_of-self-in-Err
invariant_of-self-in-Err g c =
    let stopped = stops g c in
    rw (c.stop_at.ensures.state, c.stop_at.ensures.carried) (search rules, stopped.counted)
