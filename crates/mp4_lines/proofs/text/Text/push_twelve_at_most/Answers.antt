use Rattle.std.proofs.Common.{append_assoc, arith}
use Rattle.mp4_lines.proofs.DecimalLemmas.{decimal_split_eight}
use Rattle.mp4_lines.proofs.text.Text.push_twelve_at_most.Goals as goal

pub returns-else-number-lt100000000-clause-text : goal.returns-else-number-lt100000000-clause-text
returns-else-number-lt100000000-clause-text g c =
    rw (c.push_eight.ensures.text, c.push_four_at_most.ensures.text, decimal_split_eight c.args.number (omega arith) (omega arith)) (simp append_assoc)
