use Rattle.std.proofs.Common.{◌+◌, arith}
use Rattle.mp4_frag.specs.Moofs.{moof_samples}
use Rattle.mp4_recut.specs.declared.operation.Operation.TheVariants as operations
use Rattle.mp4_fragment_machine.specs.States.{IsCounted, bound_after, moof_in}
use Rattle.mp4_fragment_machine.proofs.CountLemmas.{counted_listed}
use Rattle.mp4_fragment_machine.proofs.mdat.list.emit.Given.{Over}
use Rattle.mp4_fragment_machine.proofs.mdat.list.emit.Goals as goal
use Rattle.mp4_fragment_machine.proofs.mdat.list.emit.Goals.{After-accept}

counted : (g : Over) (c : After-accept g) → let w = c.args.pending_moof.now in IsCounted (operations.List c.args.command) c.accept.new.counter (bound_after (w.moof.at + w.moof.size) c.args.header.now.size) 0 (moof_samples (moof_in w))
counted g c =
    let w = c.args.pending_moof.now in
    let totals = c.add_up_runs-totals in
    let is = totals.ensures in
    counted_listed (w.moof.at + w.moof.size) _ (moof_samples (moof_in w)) totals.result.samples totals.result.bytes c.args.header.now c.payload_of.result (omega (arith, c.offset.ensures.at, c.size.ensures)) c.payload_of.ensures.start c.payload_of.ensures.end c.requires.room c.requires.some c.requires.near is.within is.open is.samples is.few
    c.args.command c.args.counter.now _ c.requires.counted c.accept.ensures.tally (rw is.samples at c.accept.ensures.rows_read)

pub returns-in-Ok-clause-counted : goal.returns-in-Ok-clause-counted
returns-in-Ok-clause-counted g c = counted g (goal.at.returns-in-Ok-clause-counted g c).After-accept

pub returns-in-Err-clause-counted : goal.returns-in-Err-clause-counted
returns-in-Err-clause-counted g c = counted g (goal.at.returns-in-Err-clause-counted g c).After-accept
