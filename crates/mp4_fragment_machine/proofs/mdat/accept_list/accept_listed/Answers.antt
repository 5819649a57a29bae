use Rattle.std.proofs.Common.{◌≡◌, ◌+◌, ◌-◌, ◌≤◌, ℕ, List, [], Some, arith, refl}
use Rattle.mp4_frag.specs.Moofs.{moof_samples}
use Rattle.mp4_box.proofs.HeaderLemmas.{need-least, whole_is}
use Rattle.mp4_machine.specs.Inputs.{GoesOn, environment}
use Rattle.mp4_grammar.specs.Commands.{command_meaning}
use Rattle.mp4_recut.specs.declared.operation.Operation.TheVariants as operations
use Rattle.mp4_grammar.specs.Contexts.{context}
use Rattle.mp4_fragment_machine.specs.Places.{InMdatHeader, Untouched, claim_of, continuation_at}
use Rattle.mp4_recut.specs.Operations.{number_in}
use Rattle.mp4_fragment_machine.specs.Implementation.Steps.{GoesTo, MayBeginFragment, ledger_alone}
use Rattle.mp4_fragment_machine.specs.States.{IsCounted, bound_after, in_mdat, moof_in}
use Rattle.mp4_fragment_machine.specs.declared.state.Carried.{Carried}
use Rattle.mp4_fragment_machine.specs.declared.state.State.TheVariants as states
use Rattle.mp4_fragment_machine.proofs.MdatHeaderLemmas.{GoesOn-fragment_at, Refuses-fragment, WriteFailed-fragment, claimed_after, claims, listed_good, rows_of}
use Rattle.mp4_fragment_machine.proofs.BodyLemmas.{claimed_apart}
use Rattle.mp4_fragment_machine.proofs.EndLemmas.{Ends, GoesTo-ended}
use Rattle.mp4_fragment_machine.proofs.EnterLemmas.{GoesTo-entered}
use Rattle.mp4_fragment_machine.proofs.CountLemmas.{counted_later, counted_unlisted}
use Rattle.mp4_fragment_machine.proofs.StepLemmas.{GoesTo-after}
use Rattle.mp4_fragment_machine.proofs.mdat.accept_list.accept_listed.Goals as goal
use Rattle.mp4_fragment_machine.proofs.mdat.accept_list.accept_listed.Goals.{In-Ok-emit}
use Rattle.mp4_fragment_machine.proofs.mdat.accept_list.accept_listed.Given.{Over}

pub returns-in-Err : goal.returns-in-Err
returns-in-Err g c = λ x may.
    let w = c.args.pending_moof in
    let carried = c.args.carried.now in
    let list = c.in-Some.list in
    let h = c.args.header.now in
    let can = rw (c.in-Some.is, may.operation) at may.can in
    let i = rw c.in-Some.is at may.pending_moof in
    let o = environment (g.W.Sink.contents c.args.w.now) c.args.out.now c.args.ledger.now carried.counter.tally in
    let low = rw (claimed_after 1 w (Some list) i carried.header_bytes) at can.claim in
    rw (c.in-Some.is, may.operation, c.back.ensures) (record { step = record { stops = λ more. Refuses-fragment c.args.command 1 o w list h x (rows_of list w i) may.len may.is low more c.in-Err.fault (λ later. c.in-Err.ensures.fault (command_meaning c.args.command) 1 x later may.len may.is); failed = λ is. absurd cc; unfailed = λ _. refl }; operation = refl; tracks = refl; empty = may.empty; left = omega (arith, claimed_apart (Some list) (Some w), low); counted = counted_unlisted (operations.List c.args.command) carried.counter (w.moof.at + w.moof.size) (moof_samples (moof_in w)) can.counted })

pub emit-requires-clause-some : goal.emit-requires-clause-some
emit-requires-clause-some g c = omega (arith, (whole_is c.requires.0 c.args.header.now c.requires.1.is).1, need-least c.requires.0)

pub emit-requires-clause-good : goal.emit-requires-clause-good
emit-requires-clause-good g c = listed_good c.args.command 1 c.args.pending_moof c.in-Some.list c.args.header.now (c.in-Ok.ensures.good 1)

pub emit-requires-clause-counted : goal.emit-requires-clause-counted
emit-requires-clause-counted g c = rw c.requires.1.operation at c.requires.1.can.counted

pub end_fragment-requires-clause-claim : goal.end_fragment-requires-clause-claim
end_fragment-requires-clause-claim g c =
    let can = rw (c.in-Some.is, c.requires.1.operation) at c.requires.1.can in
    let i = rw c.in-Some.is at c.requires.1.pending_moof in
    let claim = rw (claimed_after 1 c.args.pending_moof (Some c.in-Some.list) i c.args.carried.now.header_bytes) at can.claim in
    omega (arith, claim)

-- its fragment is accepted and written
accepted : (g : Over) (c : In-Ok-emit g) (x : List ℕ) → MayBeginFragment (operations.List c.args.command) c.args.carried.now c.args.ledger.now c.args.pending_moof c.args.header.now x → let carried = c.args.carried.now in let ledger = c.args.ledger.now in let moof = InMdatHeader (context c.args.pending_moof.moof.at (Some c.in-Some.list) 1) c.in-Some.list c.args.pending_moof.moof.bytes x in
    (claim_of moof ≤ ledger.live) × GoesOn (environment (g.W.Sink.contents c.args.w.now) c.args.out.now ledger carried.counter.tally) (environment (g.W.Sink.contents c.emit.new.w) c.emit.new.out ledger c.emit.new.counter.tally)
    (continuation_at (command_meaning c.args.command) moof) [] (continuation_at (command_meaning c.args.command) (in_mdat 1 (Some c.in-Some.list) c.args.pending_moof (c.offset.result + c.size.result) c.args.header.now c.in-Ok-emit.needed c.args.header.now.size))
accepted g c x may =
    let w = c.args.pending_moof in
    let carried = c.args.carried.now in
    let list = c.in-Some.list in
    let h = c.args.header.now in
    let can = rw (c.in-Some.is, may.operation) at may.can in
    let i = rw c.in-Some.is at may.pending_moof in
    let o = environment (g.W.Sink.contents c.args.w.now) c.args.out.now c.args.ledger.now carried.counter.tally in
    let o' = environment (g.W.Sink.contents c.emit.new.w) c.emit.new.out c.args.ledger.now c.emit.new.counter.tally in
    let low = rw (claimed_after 1 w (Some list) i carried.header_bytes) at can.claim in
    let effects = c.in-Ok-emit.ensures in
    let at : c.offset.result + c.size.result ≡ w.moof.at + w.moof.size = omega (arith, c.offset.ensures.at, c.size.ensures) in (
      omega (arith, claims c.args.command 1 o w list h x (rows_of list w i) may.len may.is low, low),
      GoesOn-fragment_at c.args.command 1 o w list h x (rows_of list w i) may.len may.is low c.in-Ok.ensures.near c.in-Ok.ensures.mdat (listed_good c.args.command 1 w list h (c.in-Ok.ensures.good 1)) _ at o' c.in-Ok-emit.needed may.room effects.needed refl effects.tally effects.puts.passes,
    )

pub returns-in-Empty : goal.returns-in-Empty
returns-in-Empty g c = λ x may.
    let w = c.args.pending_moof in
    let carried = c.args.carried.now in
    let list = c.in-Some.list in
    let h = c.args.header.now in
    let next = c.offset.result + c.size.result in
    let u : Untouched = record { written = g.W.Sink.contents c.emit.new.w; waiting = c.emit.new.out; failed = g.W.Sink.has_failed c.emit.new.w } in
    let (low, goes) = accepted g (goal.at.returns-in-Empty g c).In-Ok-emit x may in
    let (size, is, all, far, near) = c.in-Empty.ensures in
    let at : next ≡ w.moof.at + w.moof.size = omega (arith, c.offset.ensures.at, c.size.ensures) in
    let can = rw (c.in-Some.is, may.operation) at may.can in
    let i = rw c.in-Some.is at may.pending_moof in
    let claim = rw (claimed_after 1 w (Some list) i carried.header_bytes) at can.claim in
    let k : Carried = record { operation = operations.List c.args.command; tracks = Some list; header_bytes = carried.header_bytes; counter = c.emit.new.counter } in
    let ended = c.end_fragment.ensures in
    let ends : Ends c.args.ledger.now c.end_fragment.new.ledger k.counter c.end_fragment.new.counter list c.end_fragment.new.tracks w = record { tracks = ended.tracks; len = ended.len; back = ended.back; tally = ended.tally; least = omega (arith, ended.rows_read); few = ended.few } in
    let counted = rw is at c.in-Ok-emit.ensures.counted in
    let left : GoesTo (ledger_alone u c.args.ledger.now c.end_fragment.new.ledger) k (record k { tracks = Some c.end_fragment.new.tracks; counter = c.end_fragment.new.counter }) (in_mdat (number_in k.operation k.counter.tally) k.tracks w next h c.in-Ok-emit.needed h.size) [] (states.Header c.in-Empty.next) =
    rw (is, far) (GoesTo-ended u c.args.ledger.now c.end_fragment.new.ledger k c.end_fragment.new.counter list c.end_fragment.new.tracks w (next + size) next (size - h.header_len) h.kind refl ends (omega (arith, all)) (rw far at near) may.empty claim (rw at counted)) in
    rw (c.in-Some.is, may.operation)
    (GoesTo-after left low refl c.in-Ok-emit.ensures.puts.unfailed goes)

pub returns-in-Bytes : goal.returns-in-Bytes
returns-in-Bytes g c = λ x may.
    let w = c.args.pending_moof in
    let carried = c.args.carried.now in
    let list = c.in-Some.list in
    let h = c.args.header.now in
    let can = rw (c.in-Some.is, may.operation) at may.can in
    let i = rw c.in-Some.is at may.pending_moof in
    let claimed = rw (claimed_after 1 w (Some list) i carried.header_bytes) at can.claim in
    let next = c.offset.result + c.size.result in
    let at : next ≡ w.moof.at + w.moof.size = omega (arith, c.offset.ensures.at, c.size.ensures) in
    let u : Untouched = record { written = g.W.Sink.contents c.emit.new.w; waiting = c.emit.new.out; failed = g.W.Sink.has_failed c.emit.new.w } in
    let (low, goes) = accepted g (goal.at.returns-in-Bytes g c).In-Ok-emit x may in
    let (same, some) = c.in-Bytes.ensures in
    let k : Carried = record { operation = operations.List c.args.command; tracks = Some list; header_bytes = carried.header_bytes; counter = c.emit.new.counter } in
    let counted : IsCounted k.operation k.counter (bound_after next h.size) 0 (moof_samples (moof_in w)) = rw at c.in-Ok-emit.ensures.counted in
    rw (c.in-Some.is, may.operation, same)
    (GoesTo-after (GoesTo-entered u c.args.ledger.now k w next h c.in-Ok-emit.needed some i may.empty claimed counted) low refl c.in-Ok-emit.ensures.puts.unfailed goes)

pub returns-in-Err-emit : goal.returns-in-Err-emit
returns-in-Err-emit g c = λ x may.
    let w = c.args.pending_moof in
    let carried = c.args.carried.now in
    let list = c.in-Some.list in
    let h = c.args.header.now in
    let can = rw (c.in-Some.is, may.operation) at may.can in
    let i = rw c.in-Some.is at may.pending_moof in
    let o = environment (g.W.Sink.contents c.args.w.now) c.args.out.now c.args.ledger.now carried.counter.tally in
    let low = rw (claimed_after 1 w (Some list) i carried.header_bytes) at can.claim in
    let effects = c.in-Err-emit.ensures in
    let counted = effects.counted in
    rw (c.in-Some.is, may.operation, c.back-in-Err-emit.ensures) (record {
      step = record {
        stops = λ more later. WriteFailed-fragment c.args.command 1 o w list h x (rows_of list w i) may.len may.is low c.in-Ok.ensures.near c.in-Ok.ensures.mdat (listed_good c.args.command 1 w list h (c.in-Ok.ensures.good 1))
            (g.W.Sink.contents c.emit.new.w) c.emit.new.out c.emit.new.counter.tally more later effects.tally effects.puts.breaks;
        failed = λ _. effects.puts.failed;
        unfailed = λ other. absurd (other refl);
      };
      operation = refl;
      tracks = refl;
      empty = may.empty;
      left = omega (arith, claimed_apart (Some list) (Some w), low);
      counted = counted_later (operations.List c.args.command) c.emit.new.counter _ _ _ 0 counted.far (omega arith) (omega arith) counted;
    })
