use Rattle.std.proofs.Common.{ap, refl, Err, ◌∙◌, ◌++◌, ◌+◌, ◌*◌, ◌≤◌, arith, length}
use Rattle.mp4_init.specs.declared.moov.InitStop.TheVariants as init
use Rattle.mp4_init.specs.Moovs.{moov_tracks}
use Rattle.mp4_init.proofs.OffsetLemmas.{tracks_anywhere}
use Rattle.mp4_ledger.specs.Memory.{claimed, given_back}
use Rattle.mp4_machine.proofs.HoldingLemmas.{begins_whole}
use Rattle.mp4_machine.specs.Inputs.{environment}
use Rattle.mp4_recut.specs.Operations.{operation_meaning, number_in}
use Rattle.mp4_recut.proofs.PastLemmas.{operation-past}
use Rattle.mp4_fragment_machine.proofs.CountLemmas.{counted_later}
use Rattle.mp4_fragment_machine.proofs.BufferedBoxLemmas.{GoesOn-moov_put, StopsAt-moov, WriteFailed-moov, begins_some, not_written, table_within}
use Rattle.mp4_fragment_machine.proofs.StepLemmas.{counted_stop, given_back-none}
use Rattle.mp4_fragment_machine.proofs.held.moov.take_moov.Goals as goal

pub tracks-requires-clause-whole : goal.tracks-requires-clause-whole
tracks-requires-clause-whole g c =
    let buffered = c.args.buffered in
    rw c.bytes.ensures.bytes (begins_whole buffered.size buffered.bytes c.bytes.ensures.valid c.requires.begins c.requires.whole)

pub put_moov-requires : goal.put_moov-requires
put_moov-requires g c =
    let buffered = c.args.buffered in
    let list = rw (c.bytes.ensures.bytes, c.offset.ensures.at) at c.in-Ok.ensures.list in
    rw c.bytes-2.ensures.bytes (record {
      whole = begins_whole buffered.size buffered.bytes c.bytes.ensures.valid c.requires.begins c.requires.whole;
      room = omega (arith, c.requires.near, c.requires.whole);
      list = list ∙ tracks_anywhere buffered.bytes 0 buffered.at;
    })

pub returns-in-Err : goal.returns-in-Err
returns-in-Err g c =
    let buffered = c.args.buffered in
    let carried = c.args.carried.now in
    let low : buffered.size ≤ c.args.ledger.now.live = omega (arith, rw c.requires.none at c.requires.can.claim) in
    let said = rw (c.bytes.ensures.bytes, c.offset.ensures.at) at c.tracks.ensures.fault in
    let refused = rw (c.bytes.ensures.bytes, c.offset.ensures.at) at c.tracks.ensures.refused in
    let over = rw (c.bytes.ensures.bytes, c.offset.ensures.at) at c.tracks.ensures.over_limit in
    let err = c.in-Err.ensures.err in
    rw (c.stop_of.ensures, c.back.ensures, err, c.requires.none) (record {
      step = record {
        stops = λ more. rw (given_back-none (given_back c.args.ledger.now buffered.size))
            (StopsAt-moov (operation_meaning carried.operation) (environment (g.W.Sink.contents c.args.w.now) c.args.out.now c.args.ledger.now carried.counter.tally) buffered.at (number_in carried.operation carried.counter.tally) buffered.kind buffered.size buffered.bytes c.requires.whole low (operation-past carried.operation) more c.in-Err.why
            (λ f e. (said f).0 (c.in-Err.is ∙ ap Err e))
            (λ r e. (refused r (c.in-Err.is ∙ ap Err e), λ is. (over.0 (c.in-Err.is ∙ ap Err e ∙ ap (λ q. Err (init.Refused q)) is)).1, λ is. table_within c.args.ledger.now.limit (c.args.ledger.now.live + 64 * length (moov_tracks buffered.at buffered.bytes)) (c.in-Err.is ∙ ap Err e ∙ ap (λ q. Err (init.Refused q)) is) (refused r (c.in-Err.is ∙ ap Err e)) over.1)));
        failed = λ is. absurd (not_written c.in-Err.why is);
        unfailed = λ _. refl;
      };
      operation = refl;
      tracks = refl;
      empty = c.requires.empty;
      left = omega arith;
      counted = counted_stop carried.operation carried.counter buffered.at c.requires.can.counted;
    })

pub returns-in-Ok-put_moov : goal.returns-in-Ok-put_moov
returns-in-Ok-put_moov g c =
    let buffered = c.args.buffered in
    let carried = c.args.carried.now in
    let low : buffered.size ≤ c.args.ledger.now.live = omega (arith, rw c.requires.none at c.requires.can.claim) in
    let list = rw (c.bytes.ensures.bytes, c.offset.ensures.at) at c.in-Ok.ensures.list in
    let good = rw (c.bytes.ensures.bytes, c.offset.ensures.at) at c.in-Ok.ensures.good in
    let put = rw c.bytes-2.ensures.bytes at c.in-Ok-put_moov.ensures in
    rw (c.requires.none, c.requires.empty, c.put_tracks.ensures, c.offset-2.ensures.at, c.size.ensures, c.back-in-Ok-put_moov.ensures, c.in-Ok.ensures.ok, list) (record {
      step = record {
        goes = GoesOn-moov_put (operation_meaning carried.operation) (environment (g.W.Sink.contents c.args.w.now) c.args.out.now c.args.ledger.now carried.counter.tally) buffered.at (number_in carried.operation carried.counter.tally) buffered.kind buffered.size buffered.bytes c.requires.whole low (begins_some buffered.size buffered.bytes c.requires.begins c.requires.whole) good
            (g.W.Sink.contents c.put_moov.new.w) c.put_moov.new.out put.passes;
        unfailed = put.unfailed;
        claim = omega (arith, low);
      };
      operation = refl;
      state = (omega arith, c.requires.near);
      counted = counted_later carried.operation carried.counter buffered.at (buffered.at + buffered.size) 0 0 (omega arith) (omega arith) (omega (arith, c.requires.near)) c.requires.can.counted;
    })

pub returns-in-Err-put_moov : goal.returns-in-Err-put_moov
returns-in-Err-put_moov g c =
    let buffered = c.args.buffered in
    let carried = c.args.carried.now in
    let low : buffered.size ≤ c.args.ledger.now.live = omega (arith, rw c.requires.none at c.requires.can.claim) in
    let list = rw (c.bytes.ensures.bytes, c.offset.ensures.at) at c.in-Ok.ensures.list in
    let good = rw (c.bytes.ensures.bytes, c.offset.ensures.at) at c.in-Ok.ensures.good in
    let put = rw c.bytes-2.ensures.bytes at c.in-Err-put_moov.ensures in
    let n = 64 * length (moov_tracks buffered.at buffered.bytes) in
    rw (c.requires.none, c.back-in-Err-put_moov-2.ensures, c.back-in-Err-put_moov.ensures, c.in-Ok.ensures.ok, list) (record {
      step = record {
        stops = λ more later. rw (given_back-none (given_back (given_back (claimed c.args.ledger.now n) buffered.size) n))
            (WriteFailed-moov (operation_meaning carried.operation) (environment (g.W.Sink.contents c.args.w.now) c.args.out.now c.args.ledger.now carried.counter.tally) buffered.at (number_in carried.operation carried.counter.tally) buffered.kind buffered.size buffered.bytes c.requires.whole low (begins_some buffered.size buffered.bytes c.requires.begins c.requires.whole) good
            (g.W.Sink.contents c.put_moov.new.w) c.put_moov.new.out put.breaks (more ++ later));
        failed = λ _. put.failed;
        unfailed = λ other. absurd (other refl);
      };
      operation = refl;
      tracks = refl;
      empty = c.requires.empty;
      left = omega arith;
      counted = counted_stop carried.operation carried.counter buffered.at c.requires.can.counted;
    })
