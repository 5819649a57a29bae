use Rattle.std.proofs.Common.{◌-◌, ◌+◌, ◌≤◌, arith, refl, subst, sym}
use Rattle.mp4_grammar.specs.Contexts.{context, table_of}
use Rattle.mp4_machine.specs.Bodies.{extent_of, left_of}
use Rattle.mp4_machine.specs.Readings.{says}
use Rattle.mp4_machine.proofs.ContinuationLemmas.{IsLeft-begun}
use Rattle.mp4_machine.specs.Inputs.{environment}
use Rattle.mp4_recut.specs.Operations.{operation_meaning, number_in}
use Rattle.mp4_fragment_machine.specs.Implementation.Steps.{environment_before}
use Rattle.mp4_fragment_machine.proofs.CountLemmas.{counted_later}
use Rattle.mp4_fragment_machine.proofs.HeadLemmas.{GoesOn-both}
use Rattle.mp4_fragment_machine.proofs.CopyLemmas.{GoesOn-copy, GoesOn-copy_body, GoesOn-says_over}
use Rattle.mp4_fragment_machine.proofs.ExtentLemmas.{claim_in, counted-begun}
use Rattle.mp4_fragment_machine.proofs.begin.copy.Goals as goal

pub returns-in-Empty : goal.returns-in-Empty
returns-in-Empty c = λ l k x can account unfailed effects p.
    let header = c.args.header.now in
    let at = c.args.at in
    let (size, is, all, far, near) = c.in-Empty.ensures in
    let meaning = operation_meaning k.operation in
    let number = number_in k.operation k.counter.tally in
    rw (far, account, can.empty) (record {
      step = record {
        goes = GoesOn-both can.can.claim (GoesOn-copy meaning (environment_before l k) at number k.tracks header x can.len can.is c.requires.end c.requires.other effects size is (omega (arith, all)) l.written' l.waiting' p)
            (GoesOn-says_over meaning at header.kind (environment l.written' l.waiting' l.account k.counter.tally) (context (at + size) k.tracks number) (size - header.header_len) (omega (arith, all)));
        unfailed = unfailed;
        claim = can.can.claim;
      };
      operation = refl;
      state = (omega arith, rw far at near);
      counted = counted_later k.operation k.counter at (at + size) 0 0 (omega arith) (omega arith) (omega (arith, near, far)) can.can.counted;
    })

pub returns-in-Bytes : goal.returns-in-Bytes
returns-in-Bytes c = λ l k x can account unfailed effects p.
    let header = c.args.header.now in
    let at = c.args.at in
    let size = header.size in
    let number = number_in k.operation k.counter.tally in
    let table = table_of k.tracks in
    let (same, some) = c.in-Bytes.ensures in
    rw (same, account) (record {
      step = record {
        goes = GoesOn-copy_body (operation_meaning k.operation) (environment_before l k) at number k.tracks header x can.len can.is c.requires.end c.requires.other effects size refl some l.written' l.waiting' p;
        unfailed = unfailed;
        claim = subst (λ m. m ≤ l.account.live) (sym (claim_in (λ y. says y) at header.kind k.tracks number (left_of at header size) table (extent_of at 0 size))) can.can.claim;
      };
      operation = refl;
      state = (can.empty, IsLeft-begun at 0 header size some);
      counted = counted-begun k.operation k.counter at header size some can.can.counted;
    })
