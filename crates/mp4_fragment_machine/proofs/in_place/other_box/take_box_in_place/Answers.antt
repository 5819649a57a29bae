use Rattle.std.proofs.Common.{◌≡◌, ◌∙◌, false, refl, sym, true}
use Rattle.mp4_machine.specs.Inputs.{environment}
use Rattle.mp4_recut.specs.Operations.{operation_meaning, number_in}
use Rattle.mp4_recut.specs.Splitting.{is_dropped}
use Rattle.mp4_fragment_machine.proofs.StepLemmas.{counted_stop}
use Rattle.mp4_fragment_machine.proofs.OtherInPlaceLemmas.{GoesOn-copied_box, GoesOn-silent_box, GoesTo-box, WriteFailed-box, box_some}
use Rattle.mp4_fragment_machine.proofs.in_place.other_box.take_box_in_place.Goals as goal

pub returns-in-List : goal.returns-in-List
returns-in-List g c = λ at account is can.
    let k = c.args.carried.now in
    let meaning = operation_meaning k.operation in
    let number = number_in k.operation k.counter.tally in
    let input = c.args.input.now in
    let b = c.args.span.now in
    let o = environment (g.W.Sink.contents c.args.w.now) c.args.out.now account k.counter.tally in (
      box_some meaning at number k.tracks input b is,
      is.whole,
      GoesTo-box at input b is c.requires.empty can refl refl (GoesOn-silent_box meaning at number k.tracks input b is o (λ l. rw c.in-List.is refl)),
    )

pub returns-then-is_dropped : goal.returns-then-is_dropped
returns-then-is_dropped g c = λ at account is can.
    let k = c.args.carried.now in
    let meaning = operation_meaning k.operation in
    let number = number_in k.operation k.counter.tally in
    let input = c.args.input.now in
    let b = c.args.span.now in
    let dropped : is_dropped b.kind.0 ≡ true = sym c.is_dropped.ensures ∙ c.if-is_dropped.true in
    let o = environment (g.W.Sink.contents c.args.w.now) c.args.out.now account k.counter.tally in (
      box_some meaning at number k.tracks input b is,
      is.whole,
      GoesTo-box at input b is c.requires.empty can refl refl (GoesOn-silent_box meaning at number k.tracks input b is o (λ l. rw (c.in-Split.is, dropped) refl)),
    )

pub returns-in-Ok : goal.returns-in-Ok
returns-in-Ok g c = λ at account is can.
    let k = c.args.carried.now in
    let meaning = operation_meaning k.operation in
    let number = number_in k.operation k.counter.tally in
    let input = c.args.input.now in
    let b = c.args.span.now in
    let copied : is_dropped b.kind.0 ≡ false = sym c.is_dropped.ensures ∙ c.if-is_dropped.false in
    let o = environment (g.W.Sink.contents c.args.w.now) c.args.out.now account k.counter.tally in (
      box_some meaning at number k.tracks input b is,
      is.whole,
      GoesTo-box at input b is c.requires.empty can refl c.in-Ok.ensures.puts.unfailed
          (GoesOn-copied_box meaning at number k.tracks input b is o (g.W.Sink.contents c.put.new.w) c.put.new.self (λ l. rw (c.in-Split.is, copied) refl) c.in-Ok.ensures.puts.passes),
    )

pub returns-in-Err : goal.returns-in-Err
returns-in-Err g c = λ at account is can.
    let k = c.args.carried.now in
    let meaning = operation_meaning k.operation in
    let number = number_in k.operation k.counter.tally in
    let input = c.args.input.now in
    let b = c.args.span.now in
    let copied : is_dropped b.kind.0 ≡ false = sym c.is_dropped.ensures ∙ c.if-is_dropped.false in
    let put = c.in-Err.ensures.puts in
    let o = environment (g.W.Sink.contents c.args.w.now) c.args.out.now account k.counter.tally in
    record { step = record { stops = λ more later. rw c.requires.empty (WriteFailed-box meaning at number k.tracks input b is o (g.W.Sink.contents c.put.new.w) c.put.new.self (λ l. rw (c.in-Split.is, copied) refl) put.breaks can.claim more later); failed = λ _. put.failed; unfailed = λ other. absurd (other refl) }; operation = refl; tracks = refl; empty = c.requires.empty; left = can.claim; counted = counted_stop k.operation k.counter at can.counted }
