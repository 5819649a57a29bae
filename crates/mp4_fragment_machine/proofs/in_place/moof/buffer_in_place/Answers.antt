use Rattle.std.proofs.Common.{◌+◌, ap, Err}
use Rattle.mp4_machine.proofs.AccountLemmas.{within_limit}
use Rattle.mp4_recut.proofs.PastLemmas.{operation-past}
use Rattle.mp4_fragment_machine.specs.States.{known}
use Rattle.mp4_fragment_machine.proofs.StepLemmas.{GoesTo-then, StopsIn-then}
use Rattle.mp4_fragment_machine.proofs.MoofInPlaceLemmas.{accepts_moof, moof_begins, stops_moof}
use Rattle.mp4_fragment_machine.proofs.in_place.moof.buffer_in_place.Goals as goal

pub accept_moof-requires-clause-begins : goal.accept_moof-requires-clause-begins
accept_moof-requires-clause-begins c =
    let r = c.requires in
    rw (c.in-Ok.ensures.buffered, c.split_at.ensures.front) (moof_begins c.args.carried.now c.args.at (known c.args.carried.now.tracks) c.args.input.now c.args.moof.now r.is r.most r.known r.empty)

pub returns-in-Ok-accept_moof-clause-waits : goal.returns-in-Ok-accept_moof-clause-waits
returns-in-Ok-accept_moof-clause-waits c = λ u.
    let r = c.requires in
    let claimed = c.in-Ok.ensures in
    GoesTo-then (accepts_moof c.args.carried.now c.args.at (known c.args.carried.now.tracks) c.args.input.now c.args.moof.now r.is r.most r.known r.empty r.can.claim) (rw (claimed.buffered, claimed.ok, c.split_at.ensures.front) at (c.in-Ok-accept_moof.ensures.waits u))

pub returns-in-Err-accept_moof-clause-waits : goal.returns-in-Err-accept_moof-clause-waits
returns-in-Err-accept_moof-clause-waits c = λ u.
    let r = c.requires in
    let claimed = c.in-Ok.ensures in
    StopsIn-then c.args.moof.now.size c.args.input.now (accepts_moof c.args.carried.now c.args.at (known c.args.carried.now.tracks) c.args.input.now c.args.moof.now r.is r.most r.known r.empty r.can.claim) (rw (claimed.buffered, claimed.ok, c.split_at.ensures.front) at (c.in-Err-accept_moof.ensures.waits u))

pub returns-in-Err-clause-waits : goal.returns-in-Err-clause-waits
returns-in-Err-clause-waits c = λ u.
    let r = c.requires in
    let refused = c.in-Err.ensures in
    let a = c.args.ledger.now in
    rw (c.of_refusal.ensures, refused.err)
    (stops_moof c.args.carried.now c.args.at (known c.args.carried.now.tracks) c.args.input.now c.args.moof.now r.is r.most r.known r.empty u a r.can.claim r.can.counted (operation-past c.args.carried.now.operation) c.in-Err.refused
    (λ e. refused.over_limit.0 (ap Err e)) (λ e. within_limit a.limit (a.live + c.args.moof.now.size) (ap Err e) refused.over_limit.1))
