use Rattle.std.proofs.Common.{append_assoc, arith}
use Rattle.mp4_lines.proofs.DecimalLemmas.{decimal_split_eight}
use Rattle.mp4_lines.proofs.text.Text.push_sixteen_at_most.Goals as goal

pub returns-else-number-lt100000000 : goal.returns-else-number-lt100000000
returns-else-number-lt100000000 g c =
    rw (c.push_eight.ensures.text, c.push_eight_at_most-else-number-lt100000000.ensures.text, decimal_split_eight c.args.number (omega arith) (omega arith)) (simp append_assoc)
