use Rattle.std.proofs.Common.{◌≡◌, ◌∙◌, ◌++◌, refl, sym, true, false}
use Rattle.mp4_recut.specs.Operations.{operation_meaning, number_in}
use Rattle.mp4_recut.specs.Splitting.{is_dropped}
use Rattle.mp4_machine.specs.Inputs.{environment}
use Rattle.mp4_fragment_machine.specs.Places.{Untouched}
use Rattle.mp4_fragment_machine.specs.Implementation.Steps.{borrowed}
use Rattle.mp4_fragment_machine.proofs.CopyLemmas.{WriteFailed-copy}
use Rattle.mp4_fragment_machine.proofs.StepLemmas.{counted_stop}
use Rattle.mp4_fragment_machine.proofs.begin.pass_over.Goals as goal

pub returns-in-List : goal.returns-in-List
returns-in-List g c = λ account can.
    let u : Untouched = record { written = g.W.Sink.contents c.args.w.now; waiting = c.args.out.now; failed = g.W.Sink.has_failed c.args.w.now } in
    c.leave_out.ensures u account c.args.carried.now c.args.header_bytes.now can (λ b. rw c.in-List.is refl)

pub returns-then-is_dropped : goal.returns-then-is_dropped
returns-then-is_dropped g c = λ account can.
    let u : Untouched = record { written = g.W.Sink.contents c.args.w.now; waiting = c.args.out.now; failed = g.W.Sink.has_failed c.args.w.now } in
    let dropped : is_dropped c.args.header.now.kind.0 ≡ true = sym c.is_dropped.ensures ∙ c.if-is_dropped.true in
    c.leave_out-then-is_dropped.ensures u account c.args.carried.now c.args.header_bytes.now can (λ b. rw (c.in-Split.is, dropped) refl)

pub returns-in-Ok : goal.returns-in-Ok
returns-in-Ok g c = λ account can.
    let carried : is_dropped c.args.header.now.kind.0 ≡ false = sym c.is_dropped.ensures ∙ c.if-is_dropped.false in
    c.copy.ensures (borrowed g.W.Sink.contents g.W.Sink.has_failed c.args.w.now c.put.new.w c.args.out.now c.put.new.self account account) c.args.carried.now c.args.header_bytes.now can refl c.in-Ok.ensures.puts.unfailed (λ b. rw (c.in-Split.is, carried) refl) c.in-Ok.ensures.puts.passes

pub returns-in-Err : goal.returns-in-Err
returns-in-Err g c = λ account can.
    let k = c.args.carried.now in
    let carried : is_dropped c.args.header.now.kind.0 ≡ false = sym c.is_dropped.ensures ∙ c.if-is_dropped.false in
    let put = c.in-Err.ensures.puts in
    record {
      step = record {
        stops = λ more later. WriteFailed-copy (operation_meaning k.operation) (environment (g.W.Sink.contents c.args.w.now) c.args.out.now account k.counter.tally) c.args.at (number_in k.operation k.counter.tally) k.tracks c.args.header.now c.args.header_bytes.now can.len can.is c.requires.end c.requires.other (λ b. rw (c.in-Split.is, carried) refl) c.requires.room
            (g.W.Sink.contents c.put.new.w) c.put.new.self put.breaks can.can.claim (more ++ later);
        failed = λ _. put.failed;
        unfailed = λ other. absurd (other refl);
      };
      operation = refl;
      tracks = refl;
      empty = can.empty;
      left = can.can.claim;
      counted = counted_stop k.operation k.counter c.args.at can.can.counted;
    }
