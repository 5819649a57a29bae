use Rattle.std.proofs.Common.{◌≡◌, ◌-◌, None, Ok, Err, refl, arith}
use Rattle.mp4_machine.specs.Ends.{sent}
use Rattle.mp4_machine.specs.FedMachines.{Shown}
use Rattle.mp4_machine.proofs.FedLemmas.{peak_after, takes-live}
use Rattle.mp4_machine.proofs.FedMachineLemmas.{fed-by}
use Rattle.mp4_machine.proofs.fed_machine.FedMachine.advance.Goals as goal

pub overflow_sub-self : goal.overflow_sub-self
overflow_sub-self g c =
    let low = rw (← c.self.view_is) at c.requires.claim in
    let taken = rw c.mark-earlier.ensures.marked at c.feed-answer.ensures.takes in
    let left = takes-live c.feed-answer.result low taken c.feed-answer.ensures.spent in
    omega (arith, left.0, c.live.ensures.live, c.live-2.ensures.live, c.self.invariant.held, low)

pub overflow_sub-own : goal.overflow_sub-own
overflow_sub-own g c =
    let low = rw (← c.self.view_is) at c.requires.claim in
    let taken = rw c.mark-earlier.ensures.marked at c.feed-answer.ensures.takes in
    let left = takes-live c.feed-answer.result low taken c.feed-answer.ensures.spent in
    omega (arith, left.0, c.live.ensures.live, c.peak-most.ensures.peak, c.peak-most.ensures.most, c.self.invariant.held, low)

pub lift_back-requires : goal.lift_back-requires
lift_back-requires g c =
    let low = rw (← c.self.view_is) at c.requires.claim in
    let taken = rw c.mark-earlier.ensures.marked at c.feed-answer.ensures.takes in
    let left = takes-live c.feed-answer.result low taken c.feed-answer.ensures.spent in
    omega (arith, left.1, c.mark-earlier.ensures.earlier, c.mark-earlier.ensures.within)

pub invariant_of-self-in-Err : goal.invariant_of-self-in-Err
invariant_of-self-in-Err g c =
    let low = rw (← c.self.view_is) at c.requires.claim in
    let taken = rw c.mark-earlier.ensures.marked at c.feed-answer.ensures.takes in
    let left = takes-live c.feed-answer.result low taken c.feed-answer.ensures.spent in
    record {
      held = omega (arith, left.0, c.live.ensures.live, c.live-2.ensures.live, c.self.invariant.held, low);
      within = omega (arith, c.in-Err.ensures.spent);
      quiet = λ is. absurd cc;
      near = λ is. absurd cc;
      sent = λ is. absurd cc;
      spent = λ e is. c.in-Err.ensures.spent;
    }

pub returns-in-Ok : goal.returns-in-Ok
returns-in-Ok g c =
    let low = rw (← c.self.view_is) at c.requires.claim in
    let runs = rw (← c.self.view_is) at c.requires.runs in
    let taken = rw c.mark-earlier.ensures.marked at c.in-Ok.ensures in
    let i = c.self.inside in
    let m = g.M.Machine in
    let p : Shown = record { continuation = m.continuation i.machine; counted = m.counted i.machine; stop = None; peak = i.peak; fragments = i.block.whole } in
    let peak : c.max-self-inside.result ≡ peak_after i.peak (c.args.ledger.now.live - p.continuation.claim) c.feed-answer.new.ledger.peak = rw (c.max-self-inside.ensures, c.peak-most.ensures.peak, c.live.ensures.live, c.self.invariant.held) refl in
    rw (← c.self.view_is, c.lift_back.ensures, c.mark-earlier.ensures.earlier, peak, runs)
    (fed-by p (m.continuation c.feed-answer.new.machine) (m.counted c.feed-answer.new.machine) (sent g.W.Sink.contents g.W.Sink.has_failed c.args.w.now c.feed-answer.new.w) c.args.ledger.now c.feed-answer.new.ledger refl c.self.invariant.within low c.mark-earlier.ensures.most c.args.input.now _ _ (c.self.invariant.sent runs) refl (Ok tt) taken)

pub returns-in-Err : goal.returns-in-Err
returns-in-Err g c =
    let low = rw (← c.self.view_is) at c.requires.claim in
    let runs = rw (← c.self.view_is) at c.requires.runs in
    let taken = rw c.mark-earlier.ensures.marked at c.in-Err.ensures in
    let i = c.self.inside in
    let m = g.M.Machine in
    let p : Shown = record { continuation = m.continuation i.machine; counted = m.counted i.machine; stop = i.stop; peak = i.peak; fragments = i.block.whole } in
    let peak : c.max-self-inside.result ≡ peak_after i.peak (c.args.ledger.now.live - p.continuation.claim) c.feed-answer.new.ledger.peak = rw (c.max-self-inside.ensures, c.peak-most.ensures.peak, c.live.ensures.live, c.self.invariant.held) refl in
    rw (← c.self.view_is, c.lift_back.ensures, c.mark-earlier.ensures.earlier, peak)
    (fed-by p (m.continuation c.feed-answer.new.machine) (m.counted c.feed-answer.new.machine) (sent g.W.Sink.contents g.W.Sink.has_failed c.args.w.now c.feed-answer.new.w) c.args.ledger.now c.feed-answer.new.ledger runs c.self.invariant.within low c.mark-earlier.ensures.most c.args.input.now _ _ (c.self.invariant.sent runs) refl (Err c.in-Err.stop) taken)
