use Rattle.std.proofs.Common.{refl, rules}
use Rattle.mp4_machine.proofs.InputLemmas.{GoesOn-none}
use Rattle.mp4_fragment_machine.proofs.held.hold.Goals as goal

pub returns-then-not-is_whole : goal.returns-then-not-is_whole
returns-then-not-is_whole g c = record { step = record { goes = GoesOn-none _ _; unfailed = refl; claim = c.requires.can.claim }; operation = refl; state = search rules; counted = c.requires.can.counted }

pub returns-in-Ok : goal.returns-in-Ok
returns-in-Ok g c = c.in-Ok.ensures.waits (record { written = g.W.Sink.contents c.args.w.now; waiting = c.args.out.now; failed = g.W.Sink.has_failed c.args.w.now })

pub returns-in-Err : goal.returns-in-Err
returns-in-Err g c = c.in-Err.ensures.waits (record { written = g.W.Sink.contents c.args.w.now; waiting = c.args.out.now; failed = g.W.Sink.has_failed c.args.w.now })
