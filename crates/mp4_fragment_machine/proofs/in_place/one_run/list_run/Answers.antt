use Rattle.std.proofs.Common.{◌≡◌, ◌∙◌, ◌+◌, ◌*◌, length, Some, ap, arith, refl, subst, sym}
use Rattle.std.specs.List.{sum_by}
use Rattle.mp4_frag.specs.Moofs.{moof_samples}
use Rattle.mp4_frag.specs.RunLists.{taken_runs}
use Rattle.mp4_traf.specs.Runs.{moof_at}
use Rattle.mp4_traf.specs.declared.run.Run.{Run}
use Rattle.mp4_machine.specs.Ends.{sent}
use Rattle.mp4_machine.specs.Puts.{Puts}
use Rattle.mp4_machine.specs.Readings.{accepts, plus}
use Rattle.mp4_machine.proofs.PutLemmas.{HasPut-none}
use Rattle.mp4_grammar.specs.Contexts.{context}
use Rattle.mp4_grammar.specs.Items.{fragment, inspected}
use Rattle.mp4_recut.specs.declared.operation.Operation.TheVariants as operations
use Rattle.mp4_fragment_machine.specs.States.{IsCounted, listed_by}
use Rattle.mp4_fragment_machine.proofs.CheckLemmas.{counted_whole}
use Rattle.mp4_fragment_machine.proofs.CountLemmas.{counted_later}
use Rattle.mp4_fragment_machine.proofs.FragmentLineLemmas.{lines_are, no_samples, size_stated}
use Rattle.mp4_fragment_machine.proofs.FragmentLemmas.{inspected_more, media_fits, run_is, single_bytes, single_lines}
use Rattle.mp4_fragment_machine.proofs.RefuseInPlaceLemmas.{few_rows}
use Rattle.mp4_fragment_machine.proofs.in_place.one_run.list_run.Given.{Over}
use Rattle.mp4_fragment_machine.proofs.in_place.one_run.list_run.Goals as goal
use Rattle.mp4_fragment_machine.proofs.in_place.one_run.list_run.Goals.{After-accept}

pub inspect-requires-clause-inspected : goal.inspect-requires-clause-inspected
inspect-requires-clause-inspected g c = let i = c.requires.counted in omega (arith, i.inspected, i.far)

pub inspect-requires-clause-steps : goal.inspect-requires-clause-steps
inspect-requires-clause-steps g c =
    let i = c.requires.counted in
    omega (arith, few_rows (operations.List c.args.command) c.args.counter.now c.args.at i, i.inspected, i.far)

pub accept-requires-clause-fragments : goal.accept-requires-clause-fragments
accept-requires-clause-fragments g c = let i = c.requires.counted in rw c.inspect.ensures (omega (arith, i.fragments, i.far))

pub accept-requires-clause-samples : goal.accept-requires-clause-samples
accept-requires-clause-samples g c = let i = c.requires.counted in rw c.inspect.ensures (omega (arith, i.samples, i.far))

pub accept-requires-clause-media : goal.accept-requires-clause-media
accept-requires-clause-media g c =
    let is = c.requires.is.1 in
    let fits = media_fits c.args.at c.args.tracks.now c.requires.is.0 c.args.boxes.now c.args.single_run.now is in
    rw c.inspect.ensures (omega (arith, c.requires.counted.media, fits, is.boxes.mdat.near))

pub accept-requires-clause-steps : goal.accept-requires-clause-steps
accept-requires-clause-steps g c =
    let i = c.requires.counted in
    rw c.inspect.ensures (omega (arith, few_rows (operations.List c.args.command) c.args.counter.now c.args.at i, i.inspected, i.far, c.from.ensures, c.from-2.ensures))

pub put_run-requires : goal.put_run-requires
put_run-requires g c = run_is c.args.at c.args.tracks.now c.requires.is.0 c.args.boxes.now c.args.single_run.now c.requires.is.1

pub put_single_traf-requires-clause-run : goal.put_single_traf-requires-clause-run
put_single_traf-requires-clause-run g c = run_is c.args.at c.args.tracks.now c.requires.is.0 c.args.boxes.now c.args.single_run.now c.requires.is.1

-- what was counted
tally : (g : Over) (c : After-accept g) → let h = moof_at c.args.boxes.now.moof.now c.args.at in
    c.accept.new.counter.tally ≡ plus (plus c.args.counter.now.tally (inspected h)) (accepts (moof_samples h) (sum_by (λ (run : Run). run.bytes) (taken_runs h c.args.tracks.now)))
tally g c =
    let h = moof_at c.args.boxes.now.moof.now c.args.at in
    let run = c.args.single_run.now.run in
    let single = c.requires.is.1.single_run in
    let bytes = single_bytes h c.args.tracks.now c.args.single_run.now single in
    let read : c.inspect.new.counter.tally ≡ plus c.args.counter.now.tally (inspected h) = ap (λ k. k.tally) c.inspect.ensures ∙ inspected_more c.args.counter.now.tally h c.from.result (c.from.ensures ∙ single.samples) in
    let same : accepts c.from-3.result run.bytes ≡ accepts (moof_samples h) (sum_by (λ (r : Run). r.bytes) (taken_runs h c.args.tracks.now)) = rw (bytes, ← single.samples, c.from-3.ensures) refl in
    c.accept.ensures.tally ∙ (ap (λ t. plus t (accepts c.from-3.result run.bytes)) read ∙ ap (plus (plus c.args.counter.now.tally (inspected h))) same)

counted : (g : Over) (c : After-accept g) → let b = c.args.boxes.now in IsCounted (operations.List c.args.command) c.accept.new.counter (c.args.at + length b.moof.now + b.mdat.size) 0 0
counted g c =
    let at = c.args.at in
    let tracks = c.args.tracks.now in
    let is = c.requires.is.1 in
    let boxes = c.args.boxes.now in
    let run = c.args.single_run.now in
    let h = moof_at boxes.moof.now at in
    let whole = counted_whole at c.requires.is.0 boxes is.boxes c.args.command c.args.counter.now c.accept.new.counter (sum_by (λ (r : Run). r.bytes) (taken_runs h tracks)) c.requires.counted
    (omega (arith, is.single_run.samples, (run_is at tracks c.requires.is.0 boxes run is).few))
    (omega (arith, single_bytes h tracks run is.single_run, media_fits at tracks c.requires.is.0 boxes run is))
    (tally g c)
    (omega (arith, c.accept.ensures.rows_read, ap (λ k. k.steps.rows) c.inspect.ensures, c.from.ensures, c.from-2.ensures, c.from-3.ensures, is.single_run.samples, ap (listed_by (operations.List c.args.command)) (c.from-3.ensures ∙ is.single_run.samples))) in
    counted_later (operations.List c.args.command) c.accept.new.counter _ _ (moof_samples h) 0 (omega arith) (omega arith) whole.far whole

rows_read : (g : Over) (c : After-accept g) → let run = c.args.single_run.now.run in c.accept.new.counter.steps.rows ≡ c.args.counter.now.steps.rows + 2 * run.count + listed_by (operations.List c.args.command) run.count
rows_read g c = omega (arith, c.accept.ensures.rows_read, ap (λ k. k.steps.rows) c.inspect.ensures, c.from.ensures, c.from-2.ensures, ap (listed_by (operations.List c.args.command)) c.from-3.ensures)

pub returns-in-Check-clause-tally : goal.returns-in-Check-clause-tally
returns-in-Check-clause-tally g c = λ header. tally g (goal.at.returns-in-Check-clause-tally g c).After-accept

pub returns-in-Samples-clause-tally : goal.returns-in-Samples-clause-tally
returns-in-Samples-clause-tally g c = λ header. tally g (goal.at.returns-in-Samples-clause-tally g c).After-accept

pub returns-in-Fragments-clause-tally : goal.returns-in-Fragments-clause-tally
returns-in-Fragments-clause-tally g c = λ header. tally g (goal.at.returns-in-Fragments-clause-tally g c).After-accept

pub returns-in-Check-clause-rows_read : goal.returns-in-Check-clause-rows_read
returns-in-Check-clause-rows_read g c = rows_read g (goal.at.returns-in-Check-clause-rows_read g c).After-accept

pub returns-in-Samples-clause-rows_read : goal.returns-in-Samples-clause-rows_read
returns-in-Samples-clause-rows_read g c = rows_read g (goal.at.returns-in-Samples-clause-rows_read g c).After-accept

pub returns-in-Fragments-clause-rows_read : goal.returns-in-Fragments-clause-rows_read
returns-in-Fragments-clause-rows_read g c = rows_read g (goal.at.returns-in-Fragments-clause-rows_read g c).After-accept

pub returns-in-Check-clause-counted : goal.returns-in-Check-clause-counted
returns-in-Check-clause-counted g c = counted g (goal.at.returns-in-Check-clause-counted g c).After-accept

pub returns-in-Samples-clause-counted : goal.returns-in-Samples-clause-counted
returns-in-Samples-clause-counted g c = counted g (goal.at.returns-in-Samples-clause-counted g c).After-accept

pub returns-in-Fragments-clause-counted : goal.returns-in-Fragments-clause-counted
returns-in-Fragments-clause-counted g c = counted g (goal.at.returns-in-Fragments-clause-counted g c).After-accept

pub returns-in-Check-clause-puts : goal.returns-in-Check-clause-puts
returns-in-Check-clause-puts g c = λ header sized. rw c.in-Check.is (HasPut-none _ _ _)

pub returns-in-Samples-clause-puts : goal.returns-in-Samples-clause-puts
returns-in-Samples-clause-puts g c = λ header sized.
    let text = single_lines (moof_at c.args.boxes.now.moof.now c.args.at) c.args.tracks.now c.args.single_run.now c.requires.is.1.single_run in
    rw c.in-Samples.is
    (subst (λ l. Puts (sent g.W.Sink.contents g.W.Sink.has_failed c.args.w.now c.put_run.new.w) c.args.out.now c.put_run.new.out l c.put_run.result) (sym text) c.put_run.ensures)

pub returns-in-Fragments-clause-puts : goal.returns-in-Fragments-clause-puts
returns-in-Fragments-clause-puts g c = λ header sized.
    let at = c.args.at in
    let tracks = c.args.tracks.now in
    let boxes = c.args.boxes.now in
    let f = fragment (context at (Some tracks) 1) tracks boxes.moof.now header in
    let text = lines_are c.args.command f _ (no_samples c.args.command c.in-Fragments.is) (size_stated at (length boxes.moof.now) _ boxes.mdat.size header.size sized refl) in
    subst (λ l. Puts (sent g.W.Sink.contents g.W.Sink.has_failed c.args.w.now c.put_single_traf.new.w) c.args.out.now c.put_single_traf.new.out l c.put_single_traf.result) text c.put_single_traf.ensures
