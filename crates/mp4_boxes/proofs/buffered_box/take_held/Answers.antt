use Rattle.std.proofs.Common.{take, arith}
use Rattle.mp4_machine.proofs.HoldingLemmas.{begins_more}
use Rattle.mp4_machine.proofs.StepLemmas.{GoesTo-then, StopsIn-then}
use Rattle.mp4_boxes.proofs.StateLemmas.{accepts_held}
use Rattle.mp4_boxes.proofs.buffered_box.take_held.Goals as goal

pub hold-requires-clause-begins : goal.hold-requires-clause-begins
hold-requires-clause-begins g c =
    let buffered = c.args.buffered in
    rw c.take-count.ensures.buffered (begins_more buffered.size buffered.bytes (take c.take-count.result c.args.input.now) c.requires.state.3)

pub returns-in-Ok : goal.returns-in-Ok
returns-in-Ok g c =
    let came = c.take-count.ensures in
    let goes = rw came.buffered at c.in-Ok.ensures in
    (omega (arith, came.taken, c.requires.some, c.requires.state.1), omega (arith, came.taken), GoesTo-then (accepts_held c.args.buffered c.requires.claim) goes.0, goes.1)

pub returns-in-Err : goal.returns-in-Err
returns-in-Err g c =
    let stops = rw c.take-count.ensures.buffered at c.in-Err.ensures in
    (StopsIn-then c.take-count.result c.args.input.now (accepts_held c.args.buffered c.requires.claim) stops.0, stops.1)
