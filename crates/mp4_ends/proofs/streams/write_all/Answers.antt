use Rattle.std.proofs.Common.{sym, take-append-drop, take, drop}
use Rattle.mp4_ends.proofs.streams.write_all.Goals as goal

pub returns-in-Err-clause-front : goal.returns-in-Err-clause-front
returns-in-Err-clause-front g c =
    let n = c.in-Err.field-0.taken in
    (take n c.args.from.now, drop n c.args.from.now, c.in-Err.ensures.short.1, sym (take-append-drop n c.args.from.now))
