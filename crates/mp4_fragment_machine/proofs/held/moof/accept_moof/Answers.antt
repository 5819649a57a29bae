use Rattle.std.proofs.Common.{ap, arith, refl, rules, length, ◌+◌, ◌*◌, Err, ◌∙◌}
use Rattle.mp4_box.specs.Order.{least}
use Rattle.mp4_frag.specs.Moofs.{fault_before_times, moof_runs, moof_samples, moof_trafs, time_faults}
use Rattle.mp4_traf.specs.Runs.{moof_at}
use Rattle.mp4_machine.proofs.AccountLemmas.{within_limit}
use Rattle.mp4_machine.specs.Inputs.{environment}
use Rattle.mp4_recut.specs.Operations.{operation_meaning, number_in}
use Rattle.mp4_recut.proofs.PastLemmas.{operation-past}
use Rattle.mp4_fragment_machine.proofs.CountLemmas.{counted_judged, counted_moof}
use Rattle.mp4_fragment_machine.proofs.BufferedBoxLemmas.{GoesOn-moof, Refuses-judged, StopsAt-runs, begins_some, none_of, refused_not_written}
use Rattle.mp4_fragment_machine.proofs.NumberLemmas.{number_same}
use Rattle.mp4_fragment_machine.proofs.StepLemmas.{counted_stop}
use Rattle.mp4_fragment_machine.proofs.held.moof.accept_moof.Goals as goal

pub returns-in-Err-clause-waits : goal.returns-in-Err-clause-waits
returns-in-Err-clause-waits c = λ u.
    let buffered = c.args.buffered in
    let carried = c.args.carried.now in
    let list = c.in-Some.list in
    let low = rw c.in-Some.is at c.requires.can.claim in
    let judged = c.read_moof.ensures in
    let some = begins_some buffered.size buffered.bytes c.requires.begins c.requires.whole in
    rw (c.in-Some.is, c.back.ensures) (record {
      step = record {
        stops = λ more. Refuses-judged (operation_meaning carried.operation) (environment u.written u.waiting c.args.ledger.now carried.counter.tally) buffered.at (number_in carried.operation carried.counter.tally) list buffered.kind buffered.size buffered.bytes c.requires.whole low
            c.read_moof.new.counter.tally more c.in-Err.fault c.in-Err.ensures.fault judged.tally (λ is. ap (λ k. k.tally) (judged.unread is));
        failed = λ is. absurd cc;
        unfailed = λ _. refl;
      };
      operation = refl;
      tracks = refl;
      empty = c.requires.empty;
      left = omega (arith, low);
      counted = counted_stop carried.operation c.read_moof.new.counter (buffered.at + buffered.size) (counted_judged carried.operation carried.counter c.read_moof.new.counter (moof_at buffered.bytes buffered.at) list buffered.at buffered.size c.requires.can.counted some c.requires.near judged.few judged.tally judged.rows judged.unread);
    })

pub returns-in-Ok-list-clause-waits : goal.returns-in-Ok-list-clause-waits
returns-in-Ok-list-clause-waits c = λ u.
    let buffered = c.args.buffered in
    let carried = c.args.carried.now in
    let list = c.in-Some.list in
    let h = moof_at buffered.bytes buffered.at in
    let low = rw c.in-Some.is at c.requires.can.claim in
    let judged = c.read_moof.ensures in
    let some = begins_some buffered.size buffered.bytes c.requires.begins c.requires.whole in
    let good = none_of (fault_before_times h list) (least (time_faults (moof_trafs h list))) c.in-Ok.ensures.good in
    let ok = rw c.in-Ok.ensures.moof at c.in-Ok-list.ensures.ok in
    let listed = rw c.in-Ok.ensures.moof at c.in-Ok-list.ensures.rows_read in
    rw (c.in-Some.is, c.requires.empty, ok) (record {
      step = record {
        goes = rw (number_same carried.operation carried.counter.tally c.read_moof.new.counter.tally judged.fragments, judged.tally good.0)
            (GoesOn-moof (operation_meaning carried.operation) (environment u.written u.waiting c.args.ledger.now carried.counter.tally) buffered.at (number_in carried.operation carried.counter.tally) list buffered.kind buffered.size buffered.bytes c.requires.whole low good.0 good.1 some);
        unfailed = refl;
        claim = search rules;
      };
      operation = refl;
      state = search rules;
      counted = counted_moof carried.operation carried.counter _ h buffered.at buffered.size (moof_samples h + moof_samples h) (moof_samples h) c.requires.can.counted some c.requires.near (judged.few good.0) (judged.tally good.0)
          (omega (arith, listed, judged.rows good.0)) refl (omega arith);
    })

pub returns-in-Err-list-clause-waits : goal.returns-in-Err-list-clause-waits
returns-in-Err-list-clause-waits c = λ u.
    let buffered = c.args.buffered in
    let carried = c.args.carried.now in
    let list = c.in-Some.list in
    let h = moof_at buffered.bytes buffered.at in
    let low = rw c.in-Some.is at c.requires.can.claim in
    let judged = c.read_moof.ensures in
    let some = begins_some buffered.size buffered.bytes c.requires.begins c.requires.whole in
    let good = none_of (fault_before_times h list) (least (time_faults (moof_trafs h list))) c.in-Ok.ensures.good in
    let err = c.in-Err-list.ensures.err in
    let over = rw c.in-Ok.ensures.moof at c.list.ensures.over_limit in
    rw (c.in-Some.is, c.of_refusal.ensures, c.back-in-Err-list.ensures, err) (record {
      step = record {
        stops = λ more. rw (judged.tally good.0)
            (StopsAt-runs (operation_meaning carried.operation) (environment u.written u.waiting c.args.ledger.now carried.counter.tally) buffered.at (number_in carried.operation carried.counter.tally) list buffered.kind buffered.size buffered.bytes c.requires.whole low good.0 good.1
            (operation-past carried.operation) more c.in-Err-list.refused (λ e. over.0 (c.in-Err-list.is ∙ ap Err e))
            (λ e. within_limit c.args.ledger.now.limit (c.args.ledger.now.live + 64 * length (moof_runs h list)) (c.in-Err-list.is ∙ ap Err e) over.1));
        failed = λ is. absurd (refused_not_written c.in-Err-list.refused is);
        unfailed = λ _. refl;
      };
      operation = refl;
      tracks = refl;
      empty = c.requires.empty;
      left = omega (arith, low);
      counted = rw c.in-Err-list.ensures.unread
          (counted_stop carried.operation c.read_moof.new.counter (buffered.at + buffered.size) (counted_judged carried.operation carried.counter c.read_moof.new.counter h list buffered.at buffered.size c.requires.can.counted some c.requires.near judged.few judged.tally judged.rows judged.unread));
    })
