use Rattle.std.proofs.Common.{◌≡◌, ◌∙◌, ◌+◌, ◌++◌, Some, arith, refl, rules, sym, take}
use Rattle.mp4_machine.proofs.InputLemmas.{GoesOn-none}
use Rattle.mp4_machine.specs.HeaderBytes.{bytes_of}
use Rattle.mp4_machine.specs.Inputs.{environment}
use Rattle.mp4_frag.specs.Moofs.{moof_samples}
use Rattle.mp4_recut.specs.Operations.{operation_meaning, number_in}
use Rattle.mp4_fragment_machine.specs.States.{moof_in}
use Rattle.mp4_fragment_machine.proofs.MdatHeaderLemmas.{Refuses-after, claimed_after}
use Rattle.mp4_fragment_machine.proofs.BodyLemmas.{claimed_apart}
use Rattle.mp4_fragment_machine.proofs.CountLemmas.{counted_unlisted}
use Rattle.mp4_fragment_machine.proofs.StepLemmas.{GoesTo-then, StopsIn-then, accepts_mdat_header}
use Rattle.mp4_fragment_machine.proofs.mdat.header.take_mdat_header.Goals as goal
use Rattle.mp4_fragment_machine.proofs.mdat.header.take_mdat_header.Goals.{in-List, in-Split}

pub returns-in-More : goal.returns-in-More
returns-in-More g c =
    let more = c.in-More.ensures in
    rw c.wait_on.ensures (
      more.some,
      more.most,
      GoesTo-then (accepts_mdat_header c.args.carried.now c.args.pending_moof c.requires.state.1 c.requires.can.claim more.bytes)
          (record { step = record { goes = GoesOn-none _ _; unfailed = refl; claim = c.requires.can.claim }; operation = refl; state = (more.short, c.requires.state.1); counted = c.requires.can.counted }),
    )

pub returns-in-BadSize : goal.returns-in-BadSize
returns-in-BadSize g c =
    let carried = c.args.carried.now in
    let can = c.requires.can in
    let w = c.args.pending_moof in
    let number = number_in carried.operation carried.counter.tally in
    let bad = c.in-BadSize.ensures in
    let header_bytes = carried.header_bytes ++ take bad.count c.args.input.now in
    let low = rw (claimed_after number w carried.tracks c.requires.state.1 carried.header_bytes) at can.claim in
    let at : c.offset.result + c.size.result ≡ w.moof.at + w.moof.size = omega (arith, c.offset.ensures.at, c.size.ensures) in
    rw (c.at_fault.ensures, bad.kind, c.back.ensures)
    (StopsIn-then bad.count c.args.input.now (accepts_mdat_header carried w {header_bytes = header_bytes} c.requires.state.1 can.claim refl)
    (record { step = record { stops = λ more. Refuses-after (operation_meaning carried.operation) number (environment (g.W.Sink.contents c.args.w.now) c.args.out.now c.args.ledger.now carried.counter.tally) w carried.tracks c.requires.state.1 low header_bytes more _ at bad.len bad.is; failed = λ is. absurd cc; unfailed = λ _. refl }; operation = refl; tracks = refl; empty = bad.empty; left = omega (arith, claimed_apart carried.tracks (Some w), low); counted = counted_unlisted carried.operation carried.counter (w.moof.at + w.moof.size) (moof_samples (moof_in w)) can.counted }))

pub returns-in-Ok : goal.returns-in-Ok
returns-in-Ok g c =
    let all = c.in-Complete.ensures.0 in
    elim c.match-carried.branch [
      | in-List w ↦ rw (w.w-is, w.out-is, w.ledger-is, w.carried-is) (all.some, all.most, GoesTo-then (accepts_mdat_header c.args.carried.now c.args.pending_moof c.requires.state.1 c.requires.can.claim all.are) (rw (sym w.begun-is ∙ c.in-Ok.is) at (w.accept_listed-begun.ensures (bytes_of c.in-Complete.bytes) (search rules))))
      | in-Split w ↦ rw (w.w-is, w.out-is, w.ledger-is, w.carried-is) (all.some, all.most, GoesTo-then (accepts_mdat_header c.args.carried.now c.args.pending_moof c.requires.state.1 c.requires.can.claim all.are) (rw (sym w.begun-is ∙ c.in-Ok.is) at (w.accept_recut-begun.ensures (bytes_of c.in-Complete.bytes) (search rules))))
    ]

pub returns-in-Err : goal.returns-in-Err
returns-in-Err g c =
    let all = c.in-Complete.ensures.0 in
    elim c.match-carried.branch [
      | in-List w ↦ rw (w.w-is, w.out-is, w.ledger-is, w.carried-is) (StopsIn-then c.in-Complete.count c.args.input.now (accepts_mdat_header c.args.carried.now c.args.pending_moof c.requires.state.1 c.requires.can.claim all.are) (rw (sym w.begun-is ∙ c.in-Err.is) at (w.accept_listed-begun.ensures (bytes_of c.in-Complete.bytes) (search rules))))
      | in-Split w ↦ rw (w.w-is, w.out-is, w.ledger-is, w.carried-is) (StopsIn-then c.in-Complete.count c.args.input.now (accepts_mdat_header c.args.carried.now c.args.pending_moof c.requires.state.1 c.requires.can.claim all.are) (rw (sym w.begun-is ∙ c.in-Err.is) at (w.accept_recut-begun.ensures (bytes_of c.in-Complete.bytes) (search rules))))
    ]
