use Rattle.std.proofs.Common.{◌∙◌, ap, arith, sym}
use Rattle.mp4_traf.specs.Runs.{moof_at}
use Rattle.mp4_fragment_machine.proofs.FragmentLemmas.{inspected_more, moof_whole}
use Rattle.mp4_fragment_machine.proofs.in_place.attempt.read_in_place.Goals as goal

pub begins_early-requires-clause-whole : goal.begins_early-requires-clause-whole
begins_early-requires-clause-whole c = moof_whole c.args.at c.requires.are.0 c.args.boxes.now c.requires.are.1

pub read-requires-clause-whole : goal.read-requires-clause-whole
read-requires-clause-whole c = moof_whole c.args.at c.requires.are.0 c.args.boxes.now c.requires.are.1

pub returns-clause-placed : goal.returns-clause-placed
returns-clause-placed c = λ input are. rw c.in-Ok.ensures.moof at (c.in-Some.ensures.placed input are cc)

pub returns-clause-tally : goal.returns-clause-tally
returns-clause-tally c =
    let h = moof_at c.args.boxes.now.moof.now c.args.at in
    let samples = rw c.in-Ok.ensures.moof at c.samples.ensures.samples in
    ap (λ k. k.tally) c.inspect.ensures ∙ inspected_more c.args.counter.now.tally h c.from.result (c.from.ensures ∙ samples)

pub returns-clause-rows_read : goal.returns-clause-rows_read
returns-clause-rows_read c =
    let more = rw c.in-Ok.ensures.moof at c.in-Some.ensures.rows_read in
    omega (arith, ap (λ k. k.steps.rows) c.inspect.ensures, more, c.in-Ok.ensures.ok)

pub returns-in-Err-clause-found : goal.returns-in-Err-clause-found
returns-in-Err-clause-found c =
    let read = c.read.ensures in
    record {
      may = sym c.begins_early.ensures ∙ c.if-not-begins_early.false;
      fault = (read.fault c.in-Err.fault).0 c.in-Err.is ∙ sym c.of.ensures.fault;
      all = λ good. omega (arith, c.of.ensures.rows, read.rows_read good);
      few = λ good. omega (arith, read.rows_read good, read.few);
      none = λ bad. omega (arith, c.of.ensures.rows, ap (λ k. k.rows) (read.unread bad));
    }
