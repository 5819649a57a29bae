use Rattle.std.proofs.Common.{◌+◌, List, Option, refl, subst}
use Rattle.mp4_init.specs.declared.table.Track.{Track}
use Rattle.mp4_fragment_machine.specs.Places.{Untouched}
use Rattle.mp4_fragment_machine.specs.States.{known}
use Rattle.mp4_fragment_machine.specs.Implementation.Splits.{EntersMedia}
use Rattle.mp4_fragment_machine.specs.Implementation.Recuts.{recut_fragment}
use Rattle.mp4_fragment_machine.specs.Implementation.Steps.{ledger_alone}
use Rattle.mp4_fragment_machine.specs.declared.state.Carried.{Carried}
use Rattle.mp4_fragment_machine.specs.declared.pending_moof.PendingMoof.{PendingMoof}
use Rattle.mp4_fragment_machine.proofs.StepLemmas.{GoesTo-after}
use Rattle.mp4_fragment_machine.proofs.mdat.accept_recut.accept_recut.Goals as goal

pub returns-in-Ok : goal.returns-in-Ok
returns-in-Ok g c = λ x may.
    let w = c.args.pending_moof in
    let carried = c.args.carried.now in
    let number = carried.counter.tally.fragments + 1 in
    let can = rw (c.in-Some.is, may.operation) at may.can in
    let u : Untouched = record { written = g.W.Sink.contents c.begin_fragment.new.w; waiting = c.begin_fragment.new.out; failed = g.W.Sink.has_failed c.begin_fragment.new.w } in
    let mid : Carried = record { operation = carried.operation; tracks = carried.tracks; header_bytes = carried.header_bytes; counter = c.begin_fragment.new.counter } in
    let begun = c.in-Ok.ensures x may.len may.is in
    let split = c.in-Ok.split in
    let enters = λ (p : PendingMoof) (t : Option (List Track)). EntersMedia c.args.cut (recut_fragment p (known t) number c.args.header.now) c.args.header.now split (ledger_alone u c.begin_fragment.new.ledger c.enter_media.new.ledger) mid c.enter_media.new.carried c.enter_media.result in
    let entered = subst (enters w) c.in-Some.is (subst (λ p. enters p carried.tracks) begun.same (c.enter_media.ensures c.args.cut number u may.operation)) in
    rw (c.in-Some.is, may.operation)
    (GoesTo-after (entered begun.split) can.claim may.operation begun.unfailed begun.goes)

pub returns-in-Err : goal.returns-in-Err
returns-in-Err g c = λ x may.
    let list = c.in-Some.list in
    let begun = c.in-Err.ensures x may.len may.is in
    let carried = c.args.carried.now in
    let can = rw (c.in-Some.is, may.operation) at may.can in
    rw (c.in-Some.is, may.operation) (record { step = begun.step; operation = refl; tracks = refl; empty = may.empty; left = begun.left; counted = begun.counted can.counted })
