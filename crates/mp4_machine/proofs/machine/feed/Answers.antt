use Rattle.std.proofs.Common.{arith, rules, ap, Err, ◌∙◌, refl}
use Rattle.std.proofs.lemmas.List.{take_rest, length-drop}
use Rattle.mp4_machine.specs.Ends.{sent}
use Rattle.mp4_machine.specs.Inputs.{change}
use Rattle.mp4_machine.proofs.InputLemmas.{GoesOn-none, GoesOn-take_more, MaySend, MaySend-stopped, MaySend-taken, StopsAt-take_more, Takes-err, TakesAll-sent, TakesAll-unsent}
use Rattle.mp4_machine.proofs.machine.feed.Goals as goal
use Rattle.mp4_machine.proofs.machine.feed.Goals.{else-loop-at-test, then-loop-at-test+in-Err+in_default}

pub loop-at-init : goal.loop-at-init
loop-at-init g c = record {
  within = omega arith;
  goes_on = GoesOn-none _ (g.M.Machine.continuation c.args.machine.now);
  answer = refl;
  claim = c.requires.claim;
  quiet = c.requires.quiet;
  near = c.requires.near;
  task = refl;
  kept = refl;
}

pub loop-at-preserved : goal.loop-at-preserved
loop-at-preserved g c =
    let taken = simp take_rest at c.in-Ok.ensures.takes in
    let count = simp take_rest at c.in-Ok.ensures.taken in
    record {
      within = omega (arith, count, length-drop c.loop-at.at c.args.input.now);
      goes_on = GoesOn-take_more {p = g.M.Machine.continuation c.args.machine.now} c.requires.claim c.loop-at.at c.args.input.now c.loop-at.invariant.goes_on c.in-Ok.count _ taken.ok;
      answer = c.loop-at.invariant.answer;
      claim = c.in-Ok.ensures.claim;
      quiet = c.in-Ok.ensures.quiet;
      near = c.in-Ok.ensures.near;
      task = c.in-Ok.ensures.task ∙ c.loop-at.invariant.task;
      kept = taken.kept (λ e. absurd cc) ∙ c.loop-at.invariant.kept;
    }

pub returns-in-Write : goal.returns-in-Write
returns-in-Write g c =
    let taken = simp take_rest at c.in-Err.ensures.takes in
    record {
      takes = Takes-err (λ more. StopsAt-take_more {p = g.M.Machine.continuation c.args.machine.now} c.requires.claim c.loop-at.at c.args.input.now c.loop-at.invariant.goes_on _ more c.in-Err.stop (taken.err more)) (λ e. taken.failed (ap Err e)) (λ other. absurd (other c.in-Write.is));
      claim = c.in-Err.ensures.claim;
      quiet = tt;
      near = tt;
      sent = λ other. absurd (other (ap Err c.in-Write.is));
      bytes = λ i. search rules;
      spent = c.in-Err.ensures.spent;
      task = c.in-Err.ensures.task ∙ c.loop-at.invariant.task;
    }

pub returns-in-Ok-send : goal.returns-in-Ok-send
returns-in-Ok-send g c =
    let may : MaySend (change (sent g.W.Sink.contents g.W.Sink.has_failed c.args.w.now c.loop-at-test.w) c.args.out.now c.loop-at-test.out c.args.ledger.now c.loop-at-test.ledger (g.M.Machine.counted c.args.machine.now) (g.M.Machine.counted c.loop-at-test.machine)) (g.M.Machine.continuation c.args.machine.now) c.args.input.now (g.M.Machine.continuation c.loop-at-test.machine) (g.M.Machine.task c.args.machine.now) (g.M.Machine.task c.loop-at-test.machine) c.loop-at-test.answer =
    elim c.loop-at-test.branch [
      | else-loop-at-test w ↦
          let i = c.loop-at.invariant in
          rw (w.machine-is, w.ledger-is, w.out-is, w.w-is, w.answer-is, i.answer) (MaySend-taken c.loop-at.at c.args.input.now w.loop-at-test.false i.goes_on i.kept i.claim i.quiet i.near i.task)
      | then-loop-at-test+in-Err+in_default w ↦
          let i = c.loop-at.invariant in
          let taken = simp take_rest at w.in-Err.ensures.takes in
          rw (w.machine-is, w.ledger-is, w.out-is, w.w-is, w.answer-is) (MaySend-stopped c.loop-at.at c.args.input.now w.in-Err.stop c.requires.claim i.goes_on i.kept taken w.in_default.not-Write w.in-Err.ensures.claim w.in-Err.ensures.spent (w.in-Err.ensures.task ∙ i.task))
    ] in
    TakesAll-sent may (λ i. search rules) _ _ _ c.in-Ok-send.ensures.puts.passes c.in-Ok-send.ensures.puts.unfailed c.in-Ok-send.ensures.sent

pub returns-in-Err-send : goal.returns-in-Err-send
returns-in-Err-send g c =
    let may : MaySend (change (sent g.W.Sink.contents g.W.Sink.has_failed c.args.w.now c.loop-at-test.w) c.args.out.now c.loop-at-test.out c.args.ledger.now c.loop-at-test.ledger (g.M.Machine.counted c.args.machine.now) (g.M.Machine.counted c.loop-at-test.machine)) (g.M.Machine.continuation c.args.machine.now) c.args.input.now (g.M.Machine.continuation c.loop-at-test.machine) (g.M.Machine.task c.args.machine.now) (g.M.Machine.task c.loop-at-test.machine) c.loop-at-test.answer =
    elim c.loop-at-test.branch [
      | else-loop-at-test w ↦
          let i = c.loop-at.invariant in
          rw (w.machine-is, w.ledger-is, w.out-is, w.w-is, w.answer-is, i.answer) (MaySend-taken c.loop-at.at c.args.input.now w.loop-at-test.false i.goes_on i.kept i.claim i.quiet i.near i.task)
      | then-loop-at-test+in-Err+in_default w ↦
          let i = c.loop-at.invariant in
          let taken = simp take_rest at w.in-Err.ensures.takes in
          rw (w.machine-is, w.ledger-is, w.out-is, w.w-is, w.answer-is) (MaySend-stopped c.loop-at.at c.args.input.now w.in-Err.stop c.requires.claim i.goes_on i.kept taken w.in_default.not-Write w.in-Err.ensures.claim w.in-Err.ensures.spent (w.in-Err.ensures.task ∙ i.task))
    ] in
    rw (c.in-Err-send.ensures.puts.failed, c.give_back.ensures.counted)
    (TakesAll-unsent may (λ i. search rules) _ _ _ _ _ c.in-Err-send.ensures.puts.breaks c.give_back.ensures.back c.give_back.ensures.spent c.give_back.ensures.task)
