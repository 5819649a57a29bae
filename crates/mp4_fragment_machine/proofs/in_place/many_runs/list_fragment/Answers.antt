use Rattle.std.proofs.Common.{◌≡◌, ◌∙◌, ◌+◌, ◌*◌, ℕ, List, [], Some, ap, arith, length, refl, subst}
use Rattle.std.specs.List.{sum_by}
use Rattle.mp4_frag.specs.Moofs.{moof_runs, moof_samples}
use Rattle.mp4_frag.specs.RunLists.{taken_runs}
use Rattle.mp4_traf.specs.Runs.{moof_at}
use Rattle.mp4_traf.specs.declared.run.Run.{Run}
use Rattle.mp4_grammar.specs.Commands.{accepted}
use Rattle.mp4_grammar.specs.Items.{inspected}
use Rattle.mp4_machine.specs.Ends.{sent}
use Rattle.mp4_machine.specs.Inputs.{environment}
use Rattle.mp4_machine.specs.Puts.{HasFailed, HasPut}
use Rattle.mp4_machine.specs.Readings.{accepts, plus}
use Rattle.mp4_recut.specs.declared.operation.Operation.TheVariants as operations
use Rattle.mp4_fragment_machine.specs.States.{IsCounted, listed_by, most_counted}
use Rattle.mp4_fragment_machine.specs.Implementation.InPlace.{AreBoxes}
use Rattle.mp4_fragment_machine.specs.Implementation.TrafLines.{moof_lines}
use Rattle.mp4_fragment_machine.specs.declared.counter.Counter.{Counter}
use Rattle.mp4_fragment_machine.proofs.CheckLemmas.{counted_whole}
use Rattle.mp4_fragment_machine.proofs.CountLemmas.{counted_ended, counted_later}
use Rattle.mp4_fragment_machine.proofs.FragmentLemmas.{GoesOn-emitted, StopsAt-emitted, boxes_fit, emitted, moof_len, some_moof}
use Rattle.mp4_fragment_machine.proofs.FragmentLineLemmas.{lines_are, size_stated}
use Rattle.mp4_fragment_machine.proofs.RefuseInPlaceLemmas.{few_rows}
use Rattle.mp4_fragment_machine.proofs.StepLemmas.{no_head}
use Rattle.mp4_fragment_machine.proofs.in_place.many_runs.list_fragment.Given.{Over}
use Rattle.mp4_fragment_machine.proofs.in_place.many_runs.list_fragment.Goals as goal
use Rattle.mp4_fragment_machine.proofs.in_place.many_runs.list_fragment.Goals.{After-accept, After-put_moof_lines}

pub read_in_place-requires-clause-steps : goal.read_in_place-requires-clause-steps
read_in_place-requires-clause-steps g c =
    let i = rw c.requires.operation at c.requires.can.counted in
    omega (arith, few_rows (operations.List c.args.command) c.args.carried.now.counter c.args.at i, i.inspected, i.far)

pub read_in_place-requires-clause-inspected : goal.read_in_place-requires-clause-inspected
read_in_place-requires-clause-inspected g c =
    let i = rw c.requires.operation at c.requires.can.counted in
    omega (arith, i.inspected, i.far)

pub accept-requires-clause-fragments : goal.accept-requires-clause-fragments
accept-requires-clause-fragments g c =
    let i = rw c.requires.operation at c.requires.can.counted in
    rw c.in-Ok.ensures.tally (omega (arith, i.fragments, i.far))

pub accept-requires-clause-samples : goal.accept-requires-clause-samples
accept-requires-clause-samples g c =
    let did = c.in-Ok.ensures in
    let i = rw c.requires.operation at c.requires.can.counted in
    rw did.tally (omega (arith, i.samples, i.far))

pub accept-requires-clause-media : goal.accept-requires-clause-media
accept-requires-clause-media g c =
    let did = c.in-Ok.ensures in
    let (input, are) = c.requires.are in
    let i = rw c.requires.operation at c.requires.can.counted in
    rw did.tally (omega (arith, i.media, did.media input are, are.mdat.near))

pub accept-requires-clause-steps : goal.accept-requires-clause-steps
accept-requires-clause-steps g c =
    let did = c.in-Ok.ensures in
    let i = rw c.requires.operation at c.requires.can.counted in
    omega (arith, did.rows_read, few_rows (operations.List c.args.command) c.args.carried.now.counter c.args.at i, i.inspected, i.far, did.few)

pub put_moof_lines-requires : goal.put_moof_lines-requires
put_moof_lines-requires g c = rw c.in-Ok.ensures.moof c.in-Ok.ensures.read

-- what was counted
tally : (g : Over) (c : After-accept g) → let h = moof_at c.args.boxes.now.moof.now c.args.at in
    c.accept.new.counter.tally ≡ plus (plus c.args.carried.now.counter.tally (inspected h)) (accepts (moof_samples h) (sum_by (λ (run : Run). run.bytes) (taken_runs h c.in-Some.list)))
tally g c =
    let did = c.in-Ok.ensures in
    let h = moof_at c.args.boxes.now.moof.now c.args.at in
    let before = plus c.args.carried.now.counter.tally (inspected h) in
    let samples : c.from.result ≡ moof_samples h = c.from.ensures ∙ rw did.moof at c.samples.ensures.samples in
    let same : accepts c.from.result c.in-Ok.read.runs.bytes ≡ accepts (moof_samples h) (sum_by (λ (run : Run). run.bytes) (taken_runs h c.in-Some.list)) = rw (samples, did.bytes) refl in
    c.accept.ensures.tally ∙ (ap (λ t. plus t (accepts c.from.result c.in-Ok.read.runs.bytes)) did.tally ∙ ap (plus before) same)

counted : (g : Over) (c : After-accept g) → let b = c.args.boxes.now in IsCounted (operations.List c.args.command) c.accept.new.counter (c.args.at + length b.moof.now + b.mdat.size) 0 (moof_samples (moof_at b.moof.now c.args.at))
counted g c =
    let did = c.in-Ok.ensures in
    let (input, are) = c.requires.are in
    let b = c.args.boxes.now in
    let h = moof_at b.moof.now c.args.at in
    let samples = c.from.ensures ∙ rw did.moof at c.samples.ensures.samples in
    counted_whole c.args.at input b are c.args.command c.args.carried.now.counter c.accept.new.counter (sum_by (λ (run : Run). run.bytes) (taken_runs h c.in-Some.list)) (rw c.requires.operation at c.requires.can.counted) did.few
    (omega (arith, did.bytes, did.media input are))
    (tally g c)
    (omega (arith, c.accept.ensures.rows_read, did.rows_read, ap (listed_by (operations.List c.args.command)) samples))

-- what was put
text : (g : Over) (c : After-put_moof_lines g) (input : List ℕ) (are : AreBoxes c.args.at input c.args.boxes.now) → let b = c.args.boxes.now in
    moof_lines c.args.command (moof_at b.moof.now c.args.at) c.in-Some.list (Some (length b.moof.now + b.mdat.size)) ≡ (accepted c.args.command (emitted c.args.at c.in-Some.list input b are 1)).text
text g c input are =
    let b = c.args.boxes.now in
    lines_are c.args.command (emitted c.args.at c.in-Some.list input b are 1) _ c.requires.lists (size_stated c.args.at (length b.moof.now) _ b.mdat.size are.mdat.header.size are.mdat.sized refl)

pub returns-clause-taken : goal.returns-clause-taken
returns-clause-taken g c = λ input are.
    let carried = c.args.carried.now in
    let list = c.in-Some.list in
    let b = c.args.boxes.now in
    let at = c.args.at in
    let command = c.args.command in
    let h = moof_at b.moof.now at in
    let low = rw c.in-Some.is at c.requires.can.claim in
    let o = environment (g.W.Sink.contents c.args.w.now) c.args.out.now c.args.ledger.now carried.counter.tally in
    let did = c.in-Ok.ensures in
    let accepts = (goal.at.returns-clause-taken g c).After-accept in
    let puts_lines = (goal.at.returns-clause-taken g c).After-put_moof_lines in
    let put = subst (λ l. HasPut (sent g.W.Sink.contents g.W.Sink.has_failed c.args.w.now c.put_moof_lines.new.w) c.args.out.now c.put_moof_lines.new.out l []) (text g puts_lines input are) (rw did.moof at c.in-Ok-put_moof_lines.ensures) in
    let fit = boxes_fit at input b are in
    let some = some_moof at input b are in
    let long = moof_len at input b are in
    let tracks = rw did.moof at c.settle_by.ensures.tracks in
    let len = rw tracks at c.settle_by.ensures.len in
    let few = rw did.moof at c.settle_by.ensures.few in
    let more = rw did.moof at c.settle_by.ensures.rows_read in
    let account = did.claim in
    let counter : Counter = record { tally = c.accept.new.counter.tally; steps = c.settle_by.new.steps } in
    let there : at + length b.moof.now + b.mdat.size ≡ at + (length b.moof.now + b.mdat.size) = omega arith in (
      omega (arith, some, long),
      omega (arith, fit.whole),
      rw (c.in-Some.is, c.requires.operation, c.requires.empty, tracks) (record {
        step = record {
          goes = GoesOn-emitted at list input b are did.read (did.placed input are) command 1 o low (g.W.Sink.contents c.put_moof_lines.new.w) c.put_moof_lines.new.out c.read_in_place.new.ledger c.accept.new.counter.tally (length b.moof.now + 64 * length (moof_runs h list)) refl account (tally g accepts) put.passes;
          unfailed = put.unfailed;
          claim = rw account (omega (arith, low, len));
        };
        operation = refl;
        state = (no_head [] refl, omega (arith, fit.near));
        counted = subst (λ k. IsCounted (operations.List command) counter k 0 0) there
            (counted_ended (operations.List command) c.accept.new.counter counter (at + length b.moof.now + b.mdat.size) (moof_samples h) (counted g accepts) refl (omega (arith, more)) few);
      }),
    )

pub returns-in-Err-put_moof_lines-clause-failed : goal.returns-in-Err-put_moof_lines-clause-failed
returns-in-Err-put_moof_lines-clause-failed g c = λ input are _.
    let carried = c.args.carried.now in
    let list = c.in-Some.list in
    let b = c.args.boxes.now in
    let at = c.args.at in
    let command = c.args.command in
    let h = moof_at b.moof.now at in
    let low = rw c.in-Some.is at c.requires.can.claim in
    let o = environment (g.W.Sink.contents c.args.w.now) c.args.out.now c.args.ledger.now carried.counter.tally in
    let did = c.in-Ok.ensures in
    let accepts = (goal.at.returns-in-Err-put_moof_lines-clause-failed g c).After-accept in
    let puts_lines = (goal.at.returns-in-Err-put_moof_lines-clause-failed g c).After-put_moof_lines in
    let put = subst (λ l. HasFailed (sent g.W.Sink.contents g.W.Sink.has_failed c.args.w.now c.put_moof_lines.new.w) c.args.out.now c.put_moof_lines.new.out l []) (text g puts_lines input are) (rw did.moof at c.in-Err-put_moof_lines.ensures) in
    let account = did.claim in
    rw (c.in-Some.is, c.requires.operation, c.requires.empty) (record {
      step = record {
        stops = λ more. StopsAt-emitted at list input b are did.read (did.placed input are) command 1 o low (g.W.Sink.contents c.put_moof_lines.new.w) c.put_moof_lines.new.out c.read_in_place.new.ledger c.accept.new.counter.tally (length b.moof.now + 64 * length (moof_runs h list)) refl account (tally g accepts) more put.breaks;
        failed = λ _. put.failed;
        unfailed = λ other. absurd (other refl);
      };
      operation = refl;
      tracks = refl;
      empty = refl;
      left = rw account (omega (arith, low));
      counted = counted_later (operations.List command) c.accept.new.counter _ most_counted (moof_samples h) 0 (counted g accepts).far (omega arith) (omega arith) (counted g accepts);
    })
