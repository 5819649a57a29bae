use Rattle.std.proofs.Common.{◌<◌, ◌+◌, ap, arith, refl, subst, Err}
use Rattle.mp4_box.proofs.HeaderLemmas.{whole_is, need-least}
use Rattle.mp4_box.specs.Headers.{HasRoom}
use Rattle.mp4_machine.specs.Inputs.{environment}
use Rattle.mp4_machine.proofs.AccountLemmas.{within_limit}
use Rattle.mp4_recut.specs.Operations.{operation_meaning, number_in}
use Rattle.mp4_recut.proofs.PastLemmas.{operation-past}
use Rattle.mp4_fragment_machine.specs.Implementation.Steps.{with_head}
use Rattle.mp4_fragment_machine.specs.declared.state.State.TheVariants as states
use Rattle.mp4_fragment_machine.proofs.HeadLemmas.{Refuses-unsized, Refuses-large, GoesOn-keep, StopsAt-keep}
use Rattle.mp4_fragment_machine.proofs.BufferedBoxLemmas.{refused_not_written}
use Rattle.mp4_fragment_machine.proofs.StepLemmas.{Advances-then, StopsIn-refused, counted_stop}
use Rattle.mp4_fragment_machine.proofs.begin.buffer_on.Goals as goal

pub returns-in_default : goal.returns-in_default
returns-in_default g c =
    let carried = c.args.carried.now in
    let can = c.requires.can in
    let number = number_in carried.operation carried.counter.tally in
    rw c.at_fault.ensures
    (StopsIn-refused c.args.at refl refl refl c.requires.empty can.claim can.counted
    (λ more. Refuses-unsized (operation_meaning carried.operation) (environment (g.W.Sink.contents c.args.w.now) c.args.out.now c.args.ledger.now carried.counter.tally) c.args.at number carried.tracks c.args.header.now c.args.header_bytes.now c.args.limit can.claim (c.requires.reads number) more c.in_default.is))

pub returns-then-size-limit : goal.returns-then-size-limit
returns-then-size-limit g c =
    let carried = c.args.carried.now in
    let can = c.requires.can in
    let number = number_in carried.operation carried.counter.tally in
    rw c.at_fault-then-size-limit.ensures
    (StopsIn-refused c.args.at refl refl refl c.requires.empty can.claim can.counted
    (λ more. Refuses-large (operation_meaning carried.operation) (environment (g.W.Sink.contents c.args.w.now) c.args.out.now c.args.ledger.now carried.counter.tally) c.args.at number carried.tracks c.args.header.now c.args.header_bytes.now c.args.limit can.claim (c.requires.reads number) c.in-Exact.size c.in-Exact.is more c.if-size-limit.true))

pub claim-requires-clause-room : goal.claim-requires-clause-room
claim-requires-clause-room g c =
    let room = subst (λ s. HasRoom s c.args.header.now.header_len) c.in-Exact.is c.requires.room in
    let w = whole_is c.args.header_bytes.now c.args.header.now c.requires.is in
    omega (arith, room, w.1, c.requires.len)

pub hold-requires-clause-begins : goal.hold-requires-clause-begins
hold-requires-clause-begins g c = rw c.in-Ok.ensures.buffered (c.args.header.now, c.requires.is, c.in-Exact.is)

pub returns-in-Ok : goal.returns-in-Ok
returns-in-Ok g c =
    let carried = c.args.carried.now in
    let can = c.requires.can in
    let number = number_in carried.operation carried.counter.tally in
    let claimed = c.in-Ok.ensures in
    let room = subst (λ s. HasRoom s c.args.header.now.header_len) c.in-Exact.is c.requires.room in
    let w = whole_is c.args.header_bytes.now c.args.header.now c.requires.is in
    let some : 0 < c.in-Exact.size = omega (arith, room, need-least c.args.header_bytes.now, w.1) in
    Advances-then _ c.claim.new.ledger (with_head c.args.header_bytes.now carried) carried _ (states.Header c.args.at) (states.Buffering c.in-Ok.buffered) _
    (record {
      claim = can.claim;
      operation = refl;
      tracks = refl;
      goes = rw (claimed.buffered, claimed.ok) (GoesOn-keep (operation_meaning carried.operation) (environment (g.W.Sink.contents c.args.w.now) c.args.out.now c.args.ledger.now carried.counter.tally) c.args.at number carried.tracks c.args.header.now c.args.header_bytes.now c.args.limit can.claim (c.requires.reads number) c.in-Exact.size c.in-Exact.is c.if-size-limit.false some);
    })
    c.hold.ensures

pub returns-in-Err : goal.returns-in-Err
returns-in-Err g c =
    let carried = c.args.carried.now in
    let can = c.requires.can in
    let number = number_in carried.operation carried.counter.tally in
    let refused = c.in-Err.ensures in
    rw (c.of_refusal.ensures, refused.err) (record {
      step = record {
        stops = λ more. StopsAt-keep (operation_meaning carried.operation) (environment (g.W.Sink.contents c.args.w.now) c.args.out.now c.args.ledger.now carried.counter.tally) c.args.at number carried.tracks c.args.header.now c.args.header_bytes.now c.args.limit can.claim (c.requires.reads number) c.in-Exact.size c.in-Exact.is c.if-size-limit.false
            (operation-past carried.operation) more c.in-Err.refused (λ e. refused.over_limit.0 (ap Err e)) (λ e. within_limit c.args.ledger.now.limit (c.args.ledger.now.live + c.in-Exact.size) (ap Err e) refused.over_limit.1);
        failed = λ is. absurd (refused_not_written c.in-Err.refused is);
        unfailed = λ _. refl;
      };
      operation = refl;
      tracks = refl;
      empty = c.requires.empty;
      left = can.claim;
      counted = counted_stop carried.operation carried.counter c.args.at can.counted;
    })
