use Rattle.mp4_pieces.proofs.PlainLemmas.{first_is}
use Rattle.mp4_pieces.proofs.plain.first_of.Goals as goal

pub returns : goal.returns
returns c = λ cut is.
    rw c.plain_at.ensures
    (first_is cut c.args.moof_bytes.now c.args.run.now c.args.at.now c.args.count c.sums_between-sums.result.bytes c.sums_between-sums.result.ticks
    c.requires.cursor is c.sums_between-sums.ensures.bytes c.sums_between-sums.ensures.ticks)
