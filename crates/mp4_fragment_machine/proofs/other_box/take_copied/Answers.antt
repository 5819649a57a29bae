use Rattle.std.proofs.Common.{◌≡◌, ◌-◌, ◌≤◌, ◌++◌, [], append_assoc, length, arith, refl, subst, sym}
use Rattle.mp4_ledger.specs.Memory.{given_back}
use Rattle.mp4_machine.specs.Inputs.{WriteFailed, environment}
use Rattle.mp4_machine.specs.Readings.{says}
use Rattle.mp4_machine.specs.Bodies.{extent_after}
use Rattle.mp4_machine.proofs.ContinuationLemmas.{IsLeft-after, sized_before, some_taken}
use Rattle.mp4_machine.proofs.StepLemmas.{GoesOn-then}
use Rattle.mp4_grammar.specs.Contexts.{context, table_of}
use Rattle.mp4_recut.specs.Operations.{operation_meaning, number_in}
use Rattle.mp4_fragment_machine.specs.Places.{InHeader, claim_of, continuation_at, reads_at}
use Rattle.mp4_fragment_machine.specs.States.{bound_in, in_extent}
use Rattle.mp4_fragment_machine.proofs.CopyLemmas.{GoesOn-copied, GoesOn-says_over, Refuses-copied, WriteFailed-copied}
use Rattle.mp4_fragment_machine.proofs.ExtentLemmas.{claim_in, counted-after}
use Rattle.mp4_fragment_machine.proofs.StepLemmas.{counted_stop, no_head}
use Rattle.mp4_fragment_machine.proofs.other_box.take_copied.Goals as goal

pub returns-in-Err : goal.returns-in-Err
returns-in-Err g c = λ carried account may.
    let can = may.can in
    let body = c.args.body in
    let input = c.args.input.now in
    let n = c.min-most.result in
    let a = g.W.Sink.contents c.args.w.now in
    let b = g.W.Sink.contents c.put.new.w in
    let tally = carried.counter.tally in
    let table = table_of carried.tracks in
    let meaning = operation_meaning carried.operation in
    let number = number_in carried.operation tally in
    let place = in_extent (λ x. says x) body.at body.kind carried.tracks number body.left table body.extent in
    let low : table ≤ account.live = subst (λ m. m ≤ account.live) (claim_in (λ x. says x) body.at body.kind carried.tracks number body.left table body.extent) can.claim in
    let put = rw c.split_at.ensures.front at c.in-Err.ensures.puts in
    record {
      step = record {
        stops = λ more later. subst (λ l. WriteFailed (environment a c.args.out.now account tally) (environment b c.put.new.self (given_back account table) tally) (claim_of place) (reads_at meaning place l)) (sym (append_assoc input more later))
            (WriteFailed-copied meaning body.at body.kind a b c.args.out.now c.put.new.self account tally carried.tracks number body.left table n body.extent input (more ++ later)
            (omega (arith, c.min-most.ensures)) (omega (arith, c.min-most.ensures)) low put.breaks);
        failed = λ _. put.failed;
        unfailed = λ other. absurd (other refl);
      };
      operation = refl;
      tracks = refl;
      empty = may.state.0;
      left = low;
      counted = counted_stop carried.operation carried.counter (bound_in body.extent) can.counted;
    }

pub returns-in-Err-take : goal.returns-in-Err-take
returns-in-Err-take g c = λ carried account may.
    let can = may.can in
    let body = c.args.body in
    let far = c.in-Err-take.ensures in
    let same : c.min-most.result ≡ body.left = omega (arith, c.min-most.ensures, far.far) in
    let put = rw (c.split_at.ensures.front, same) at c.in-Ok.ensures.puts in
    let table = table_of carried.tracks in
    let number = number_in carried.operation carried.counter.tally in
    let low : table ≤ account.live = subst (λ m. m ≤ account.live) (claim_in (λ x. says x) body.at body.kind carried.tracks number body.left table body.extent) can.claim in
    rw far.err (record {
      step = record {
        stops = λ more. Refuses-copied (operation_meaning carried.operation) body.at body.kind (g.W.Sink.contents c.args.w.now) (g.W.Sink.contents c.put.new.w) c.args.out.now c.put.new.self account carried.counter.tally carried.tracks number body.left table body.extent c.args.input.now more far.open low far.far put.passes;
        failed = λ is. absurd cc;
        unfailed = λ _. put.unfailed;
      };
      operation = refl;
      tracks = refl;
      empty = may.state.0;
      left = low;
      counted = counted_stop carried.operation carried.counter (bound_in body.extent) can.counted;
    })

pub returns-in-Some : goal.returns-in-Some
returns-in-Some g c = λ carried account may.
    let can = may.can in
    let body = c.args.body in
    let input = c.args.input.now in
    let next_at = c.in-Some.next in
    let came = c.in-Ok-take.ensures in
    let n = c.in-Ok-take.count in
    let (over, same) = rw came.left at c.in-Some.ensures.some in
    let sized = sized_before n next_at body.extent same in
    let is = may.state in
    let ends = rw sized at is.1.near in
    let counted = rw sized at can.counted in
    let a = g.W.Sink.contents c.args.w.now in
    let b = g.W.Sink.contents c.put.new.w in
    let tally = carried.counter.tally in
    let table = table_of carried.tracks in
    let meaning = operation_meaning carried.operation in
    let number = number_in carried.operation tally in
    let next = context next_at carried.tracks number in
    let most : c.min-most.result ≡ n = omega (arith, c.min-most.ensures, came.taken) in
    let put = rw (c.split_at.ensures.front, most) at c.in-Ok.ensures.puts in
    let low : table ≤ account.live = subst (λ m. m ≤ account.live) (claim_in (λ x. says x) body.at body.kind carried.tracks number body.left table body.extent) can.claim in
    let passed = GoesOn-copied meaning body.at body.kind a b c.args.out.now c.put.new.self account tally carried.tracks number body.left table n body.extent input (omega (arith, came.taken)) (omega (arith, came.taken)) is.1.within put.passes in (
      some_taken body.left (length input) n body.extent is.1.more came.all came.taken may.some,
      omega (arith, came.taken),
      rw is.0 (record {
        step = record {
          goes = GoesOn-then can.claim (rw same at passed) (continuation_at meaning (InHeader next [])) (GoesOn-says_over meaning body.at body.kind (environment b c.put.new.self account tally) next (body.left - n) over);
          unfailed = put.unfailed;
          claim = low;
        };
        operation = refl;
        state = (no_head [] refl, ends);
        counted = counted;
      }),
    )

pub returns-in-None : goal.returns-in-None
returns-in-None g c = λ carried account may.
    let can = may.can in
    let body = c.args.body in
    let input = c.args.input.now in
    let came = c.in-Ok-take.ensures in
    let n = c.in-Ok-take.count in
    let more = rw came.left at c.in-None.ensures.none in
    let is = may.state in
    let tally = carried.counter.tally in
    let table = table_of carried.tracks in
    let number = number_in carried.operation tally in
    let most : c.min-most.result ≡ n = omega (arith, c.min-most.ensures, came.taken) in
    let put = rw (c.split_at.ensures.front, most) at c.in-Ok.ensures.puts in
    let low : table ≤ account.live = subst (λ m. m ≤ account.live) (claim_in (λ x. says x) body.at body.kind carried.tracks number body.left table body.extent) can.claim in (
      some_taken body.left (length input) n body.extent is.1.more came.all came.taken may.some,
      omega (arith, came.taken),
      rw came.left (record {
        step = record {
          goes = GoesOn-copied (operation_meaning carried.operation) body.at body.kind (g.W.Sink.contents c.args.w.now) (g.W.Sink.contents c.put.new.w) c.args.out.now c.put.new.self account tally carried.tracks number body.left table n body.extent input (omega (arith, came.taken)) (omega (arith, came.taken)) is.1.within put.passes;
          unfailed = put.unfailed;
          claim = subst (λ m. m ≤ account.live) (sym (claim_in (λ x. says x) body.at body.kind carried.tracks number (body.left - n) table (extent_after n body.extent))) low;
        };
        operation = refl;
        state = (is.0, IsLeft-after body.left n body.extent is.1 more);
        counted = counted-after carried.operation carried.counter n 0 body.extent can.counted;
      }),
    )
