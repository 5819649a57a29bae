use Rattle.std.proofs.Common.{append_assoc, arith}
use Rattle.mp4_lines.proofs.DecimalLemmas.{decimal_split}
use Rattle.mp4_lines.proofs.text.Text.push_eight_at_most.Goals as goal

pub returns-else-number-lt10000-clause-text : goal.returns-else-number-lt10000-clause-text
returns-else-number-lt10000-clause-text g c =
    rw (c.push_array.ensures.text, c.push_four_at_most-else-number-lt10000.ensures.text, c.decimal_four.ensures, decimal_split c.args.number (omega arith) (omega arith)) (simp append_assoc)
