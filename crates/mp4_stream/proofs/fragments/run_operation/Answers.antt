use Rattle.std.proofs.Common.{◌≡◌, ◌∙◌, ap, arith, refl, rules, sym}
use Rattle.mp4_machine.proofs.RunLemmas.{Runs-same}
use Rattle.mp4_stream.specs.Feeders.{fragments_of}
use Rattle.mp4_stream.proofs.FeederLemmas.{begun-is}
use Rattle.mp4_stream.proofs.FragmentLemmas.{claims_by_boxes, first_number, never_over, peak_bound}
use Rattle.mp4_stream.proofs.fragments.run_operation.Goals as goal

pub read_stream-answer-requires-clause-begun : goal.read_stream-answer-requires-clause-begun
read_stream-answer-requires-clause-begun g c = rw c.new-machine.ensures (begun-is c.args.operation)

pub returns : goal.returns
returns g c =
    let tally = c.read_stream-answer.new.machine.counter.tally in
    let peak : c.give_up.new.ledger.peak ≡ c.read_stream-answer.new.ledger.peak = rw c.give_up.ensures refl in
    let ran = rw (c.new-machine.ensures, first_number c.args.operation) at c.read_stream-answer.ensures.runs in
    let operation = rw c.new-machine.ensures at c.read_stream-answer.ensures.task in
    let same = Runs-same refl refl (sym peak) ran in
    let is = rw operation at c.of.ensures.is in
    rw is (record {
      runs = record {
        effects = tally.fragments;
        inspected = tally.inspected;
        runs = same.0;
        fragments = ap (fragments_of c.args.operation tally.fragments) (sym same.1);
        all = rw is at c.of.ensures.all;
        some = rw (operation, is) at c.of.ensures.some;
        few = rw (operation, is) at c.of.ensures.few;
        by_boxes = claims_by_boxes c.args.operation _ c.read_stream-answer.result same.0;
      };
      within = omega (arith, peak, c.peak.ensures.within, c.read_stream-answer.ensures.limit);
      back = search rules;
      peak = c.peak.ensures.peak ∙ sym peak;
      bound = omega (arith, peak, peak_bound c.args.operation _ c.read_stream-answer.result ran.0);
      enough = never_over c.args.operation _ c.read_stream-answer.result ran.0;
    })
