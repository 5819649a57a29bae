use Rattle.std.proofs.Common.{◌∙◌, ◌≤◌, ◌++◌, Err, None, ap, refl, rules, sym, take}
use Rattle.mp4_box.specs.declared.rules.Rule.TheVariants.{NoMoov, SecondMoov, StrayMdat}
use Rattle.mp4_machine.specs.Bodies.{least_end, longest}
use Rattle.mp4_machine.specs.HeaderBytes.{bytes_of}
use Rattle.mp4_machine.specs.Inputs.{environment}
use Rattle.mp4_grammar.specs.Contexts.{context}
use Rattle.mp4_grammar.specs.declared.kinds.Kind.TheVariants.{Moov, Moof, Mdat}
use Rattle.mp4_machine.proofs.InputLemmas.{GoesOn-none}
use Rattle.mp4_recut.specs.Operations.{operation_meaning, number_in}
use Rattle.mp4_fragment_machine.proofs.HeadLemmas.{Refuses-bad, Refuses-far, reads-kind}
use Rattle.mp4_fragment_machine.proofs.StepLemmas.{Advances-refused, GoesTo-then, StopsIn-refused, StopsIn-then, accepts_head}
use Rattle.mp4_fragment_machine.proofs.header.take_header.Goals as goal
use Rattle.mp4_fragment_machine.proofs.header.take_header.Goals.{in-Moov-None, in-Moov-Some, in-Moof-Some, in-Moof-None, in-Other-default, in-Mdat-default}

pub returns-in-More : goal.returns-in-More
returns-in-More g c =
    let more = c.in-More.ensures in (
      more.some,
      more.most,
      GoesTo-then (accepts_head c.args.carried.now c.args.at c.requires.can.claim more.bytes)
          (record { step = record { goes = GoesOn-none _ _; unfailed = refl; claim = c.requires.can.claim }; operation = refl; state = (more.short, c.requires.state.1); counted = c.requires.can.counted }),
    )

pub returns-in-BadSize : goal.returns-in-BadSize
returns-in-BadSize g c =
    let carried = c.args.carried.now in
    let can = c.requires.can in
    let bad = c.in-BadSize.ensures in
    let header_bytes = carried.header_bytes ++ take bad.count c.args.input.now in
    rw (c.at_fault.ensures, bad.kind)
    (StopsIn-then bad.count c.args.input.now (accepts_head carried c.args.at {header_bytes = header_bytes} can.claim refl)
    (StopsIn-refused c.args.at refl refl refl bad.empty can.claim can.counted
    (λ more. Refuses-bad (operation_meaning carried.operation) (environment (g.W.Sink.contents c.args.w.now) c.args.out.now c.args.ledger.now carried.counter.tally) c.args.at (number_in carried.operation carried.counter.tally) carried.tracks header_bytes bad.len can.claim more bad.is)))

pub returns-then-is_too_long : goal.returns-then-is_too_long
returns-then-is_too_long g c =
    let all = c.in-Complete.ensures.0 in
    let k = c.args.carried.now in
    let can = c.requires.can in
    rw c.at_fault-then-is_too_long.ensures
    (StopsIn-then c.in-Complete.count c.args.input.now (accepts_head k c.args.at can.claim all.are)
    (StopsIn-refused c.args.at refl refl refl all.empty can.claim can.counted
    (λ more. Refuses-far (operation_meaning k.operation) (environment (g.W.Sink.contents c.args.w.now) c.args.out.now c.args.ledger.now k.counter.tally) c.args.at (number_in k.operation k.counter.tally) k.tracks c.in-Complete.header (bytes_of c.in-Complete.bytes) all.len can.claim all.is more (c.is_too_long.ensures.0 c.if-is_too_long.true))))

pub buffer_on-begun-requires-clause-reads : goal.buffer_on-begun-requires-clause-reads
buffer_on-begun-requires-clause-reads g c = λ number later.
    let all = c.in-Complete.ensures.0 in
    let near : least_end c.args.at c.in-Complete.header c.in-Complete.header.size ≤ longest = search rules in
    reads-kind (operation_meaning c.args.carried.now.operation) (context c.args.at c.args.carried.now.tracks number) c.in-Complete.header c.bytes-head.result.now (rw c.bytes-head.ensures all.len) (rw c.bytes-head.ensures all.is) Moov None later near (sym c.kind_of.ensures ∙ c.in-Moov-None.is-0) c.in-Moov-None.is-1

pub buffer_on-begun-requires-in-Moof-Some-clause-reads : goal.buffer_on-begun-requires-in-Moof-Some-clause-reads
buffer_on-begun-requires-in-Moof-Some-clause-reads g c = λ number later.
    let all = c.in-Complete.ensures.0 in
    let near : least_end c.args.at c.in-Complete.header c.in-Complete.header.size ≤ longest = search rules in
    reads-kind (operation_meaning c.args.carried.now.operation) (context c.args.at c.args.carried.now.tracks number) c.in-Complete.header c.bytes-head.result.now (rw c.bytes-head.ensures all.len) (rw c.bytes-head.ensures all.is) Moof _ later near (sym c.kind_of.ensures ∙ c.in-Moof-Some.is-0) c.in-Moof-Some.is-1

pub returns-in-Ok : goal.returns-in-Ok
returns-in-Ok g c =
    let all = c.in-Complete.ensures.0 in
    let k = c.args.carried.now in
    let can = c.requires.can in
    let near : least_end c.args.at c.in-Complete.header c.in-Complete.header.size ≤ longest = search rules in
    elim c.match-kind_of.branch [
      | in-Moov-None w ↦ rw (w.w-is, w.out-is, w.ledger-is, w.carried-is) (all.some, all.most, GoesTo-then (accepts_head k c.args.at can.claim all.are) (rw (c.bytes-head.ensures, sym w.begun-is ∙ c.in-Ok.is) at w.buffer_on-begun.ensures))
      | in-Moof-Some w ↦ rw (w.w-is, w.out-is, w.ledger-is, w.carried-is) (all.some, all.most, GoesTo-then (accepts_head k c.args.at can.claim all.are) (rw (c.bytes-head.ensures, sym w.begun-is ∙ c.in-Ok.is) at w.buffer_on-begun-in-Moof-Some.ensures))
      | in-Other-default w ↦ rw (w.w-is, w.out-is, w.ledger-is, w.carried-is) (all.some, all.most, GoesTo-then (accepts_head k c.args.at can.claim all.are) (rw (c.bytes-head.ensures, sym w.begun-is ∙ c.in-Ok.is) at w.pass_over-begun.ensures c.args.ledger.now (record { len = all.len; is = all.is; empty = all.empty; can = record { claim = can.claim; counted = can.counted } })))
      | in-Moov-Some w ↦ rw (w.w-is, w.out-is, w.ledger-is, w.carried-is) (all.some, all.most, GoesTo-then (accepts_head k c.args.at can.claim all.are) (Advances-refused g.W.Sink.contents g.W.Sink.has_failed c.args.w.now c.args.out.now c.args.ledger.now k c.args.at c.in-Complete.header (bytes_of c.in-Complete.bytes) c.next_header.new.part Moov SecondMoov all.empty can all.len all.is near (sym c.kind_of.ensures ∙ w.in-Moov-Some.is-0) (λ number later. rw w.in-Moov-Some.is-1 refl) (sym c.in-Ok.is ∙ (w.begun-is ∙ ap Err w.at_fault-in-Moov-Some.ensures))))
      | in-Moof-None w ↦ rw (w.w-is, w.out-is, w.ledger-is, w.carried-is) (all.some, all.most, GoesTo-then (accepts_head k c.args.at can.claim all.are) (Advances-refused g.W.Sink.contents g.W.Sink.has_failed c.args.w.now c.args.out.now c.args.ledger.now k c.args.at c.in-Complete.header (bytes_of c.in-Complete.bytes) c.next_header.new.part Moof NoMoov all.empty can all.len all.is near (sym c.kind_of.ensures ∙ w.in-Moof-None.is-0) (λ number later. rw w.in-Moof-None.is-1 refl) (sym c.in-Ok.is ∙ (w.begun-is ∙ ap Err w.at_fault-in-Moof-None.ensures))))
      | in-Mdat-default w ↦ rw (w.w-is, w.out-is, w.ledger-is, w.carried-is) (all.some, all.most, GoesTo-then (accepts_head k c.args.at can.claim all.are) (Advances-refused g.W.Sink.contents g.W.Sink.has_failed c.args.w.now c.args.out.now c.args.ledger.now k c.args.at c.in-Complete.header (bytes_of c.in-Complete.bytes) c.next_header.new.part Mdat StrayMdat all.empty can all.len all.is near (sym c.kind_of.ensures ∙ w.in-Mdat-default.is-0) (λ number later. refl) (sym c.in-Ok.is ∙ (w.begun-is ∙ ap Err w.at_fault-in-Mdat-default.ensures))))
    ]

pub returns-in-Err : goal.returns-in-Err
returns-in-Err g c =
    let all = c.in-Complete.ensures.0 in
    let k = c.args.carried.now in
    let can = c.requires.can in
    let near : least_end c.args.at c.in-Complete.header c.in-Complete.header.size ≤ longest = search rules in
    elim c.match-kind_of.branch [
      | in-Moov-None w ↦ rw (w.w-is, w.out-is, w.ledger-is, w.carried-is) (StopsIn-then c.in-Complete.count c.args.input.now (accepts_head k c.args.at can.claim all.are) (rw (c.bytes-head.ensures, sym w.begun-is ∙ c.in-Err.is) at w.buffer_on-begun.ensures))
      | in-Moof-Some w ↦ rw (w.w-is, w.out-is, w.ledger-is, w.carried-is) (StopsIn-then c.in-Complete.count c.args.input.now (accepts_head k c.args.at can.claim all.are) (rw (c.bytes-head.ensures, sym w.begun-is ∙ c.in-Err.is) at w.buffer_on-begun-in-Moof-Some.ensures))
      | in-Other-default w ↦ rw (w.w-is, w.out-is, w.ledger-is, w.carried-is) (StopsIn-then c.in-Complete.count c.args.input.now (accepts_head k c.args.at can.claim all.are) (rw (c.bytes-head.ensures, sym w.begun-is ∙ c.in-Err.is) at w.pass_over-begun.ensures c.args.ledger.now (record { len = all.len; is = all.is; empty = all.empty; can = record { claim = can.claim; counted = can.counted } })))
      | in-Moov-Some w ↦ rw (w.w-is, w.out-is, w.ledger-is, w.carried-is) (StopsIn-then c.in-Complete.count c.args.input.now (accepts_head k c.args.at can.claim all.are) (Advances-refused g.W.Sink.contents g.W.Sink.has_failed c.args.w.now c.args.out.now c.args.ledger.now k c.args.at c.in-Complete.header (bytes_of c.in-Complete.bytes) c.next_header.new.part Moov SecondMoov all.empty can all.len all.is near (sym c.kind_of.ensures ∙ w.in-Moov-Some.is-0) (λ number later. rw w.in-Moov-Some.is-1 refl) (sym c.in-Err.is ∙ (w.begun-is ∙ ap Err w.at_fault-in-Moov-Some.ensures))))
      | in-Moof-None w ↦ rw (w.w-is, w.out-is, w.ledger-is, w.carried-is) (StopsIn-then c.in-Complete.count c.args.input.now (accepts_head k c.args.at can.claim all.are) (Advances-refused g.W.Sink.contents g.W.Sink.has_failed c.args.w.now c.args.out.now c.args.ledger.now k c.args.at c.in-Complete.header (bytes_of c.in-Complete.bytes) c.next_header.new.part Moof NoMoov all.empty can all.len all.is near (sym c.kind_of.ensures ∙ w.in-Moof-None.is-0) (λ number later. rw w.in-Moof-None.is-1 refl) (sym c.in-Err.is ∙ (w.begun-is ∙ ap Err w.at_fault-in-Moof-None.ensures))))
      | in-Mdat-default w ↦ rw (w.w-is, w.out-is, w.ledger-is, w.carried-is) (StopsIn-then c.in-Complete.count c.args.input.now (accepts_head k c.args.at can.claim all.are) (Advances-refused g.W.Sink.contents g.W.Sink.has_failed c.args.w.now c.args.out.now c.args.ledger.now k c.args.at c.in-Complete.header (bytes_of c.in-Complete.bytes) c.next_header.new.part Mdat StrayMdat all.empty can all.len all.is near (sym c.kind_of.ensures ∙ w.in-Mdat-default.is-0) (λ number later. refl) (sym c.in-Err.is ∙ (w.begun-is ∙ ap Err w.at_fault-in-Mdat-default.ensures))))
    ]
