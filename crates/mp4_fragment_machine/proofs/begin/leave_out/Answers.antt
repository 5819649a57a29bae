use Rattle.std.proofs.Common.{◌-◌, ◌+◌, ◌≤◌, [], arith, refl, subst, sym}
use Rattle.mp4_grammar.specs.Contexts.{context, table_of}
use Rattle.mp4_machine.specs.Inputs.{environment}
use Rattle.mp4_machine.proofs.InputLemmas.{Moves-none}
use Rattle.mp4_recut.specs.Operations.{operation_meaning, number_in}
use Rattle.mp4_machine.specs.Bodies.{extent_of, left_of}
use Rattle.mp4_machine.proofs.ContinuationLemmas.{GoesOn-over, IsLeft-begun}
use Rattle.mp4_machine.specs.Readings.{no_effects}
use Rattle.mp4_grammar.specs.Items.{reads_in}
use Rattle.mp4_fragment_machine.specs.Places.{InHeader, continuation_at}
use Rattle.mp4_fragment_machine.proofs.CountLemmas.{counted_later}
use Rattle.mp4_fragment_machine.proofs.HeadLemmas.{GoesOn-both, GoesOn-other, GoesOn-other_body}
use Rattle.mp4_fragment_machine.proofs.ExtentLemmas.{claim_in, counted-begun}
use Rattle.mp4_fragment_machine.proofs.begin.leave_out.Goals as goal

pub returns-in-Empty : goal.returns-in-Empty
returns-in-Empty c = λ u account k x can silence.
    let header = c.args.header.now in
    let at = c.args.at in
    let (size, is, all, far, near) = c.in-Empty.ensures in
    let meaning = operation_meaning k.operation in
    let number = number_in k.operation k.counter.tally in
    let o = environment u.written u.waiting account k.counter.tally in
    let next = context (at + size) k.tracks number in
    rw (far, can.empty) (record {
      step = record {
        goes = GoesOn-both can.can.claim (GoesOn-other meaning o at number k.tracks header x can.len can.is c.requires.end c.requires.other silence size is (omega (arith, all)))
            (GoesOn-over (reads_in meaning) (λ end. context end k.tracks number) (table_of k.tracks) o at header.kind o (λ _. no_effects) (at + size) (size - header.header_len) (continuation_at meaning (InHeader next [])) (omega (arith, all)) refl (Moves-none o (table_of k.tracks)) (omega arith) (λ later. refl));
        unfailed = refl;
        claim = can.can.claim;
      };
      operation = refl;
      state = (omega arith, rw far at near);
      counted = counted_later k.operation k.counter at (at + size) 0 0 (omega arith) (omega arith) (omega (arith, near, far)) can.can.counted;
    })

pub returns-in-Bytes : goal.returns-in-Bytes
returns-in-Bytes c = λ u account k x can silence.
    let header = c.args.header.now in
    let at = c.args.at in
    let size = header.size in
    let number = number_in k.operation k.counter.tally in
    let table = table_of k.tracks in
    let (same, some) = c.in-Bytes.ensures in
    rw same (record {
      step = record {
        goes = GoesOn-other_body (operation_meaning k.operation) (environment u.written u.waiting account k.counter.tally) at number k.tracks header x can.len can.is c.requires.end c.requires.other silence size refl some;
        unfailed = refl;
        claim = subst (λ m. m ≤ account.live) (sym (claim_in (λ _. no_effects) at header.kind k.tracks number (left_of at header size) table (extent_of at 0 size))) can.can.claim;
      };
      operation = refl;
      state = (can.empty, IsLeft-begun at 0 header size some, tt);
      counted = counted-begun k.operation k.counter at header size some can.can.counted;
    })
