use Rattle.std.proofs.Common.{drop}
use Rattle.mp4_traf.specs.Rows.{rows_of}
use Rattle.mp4_pieces.proofs.PlainLemmas.{in_time_or_one}
use Rattle.mp4_pieces.proofs.plain.count_in_time.Goals as goal

pub returns : goal.returns
returns c =
    in_time_or_one c.args.ticks c.args.most c.count_within.result (drop c.args.row (rows_of c.args.run.now c.args.moof_bytes.now)) c.max.result c.requires.some
    c.count_within.ensures.few c.count_within.ensures.within c.count_within.ensures.full c.max.ensures
