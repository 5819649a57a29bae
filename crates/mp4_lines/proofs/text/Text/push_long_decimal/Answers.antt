use Rattle.std.proofs.Common.{append_assoc, arith}
use Rattle.mp4_lines.proofs.DecimalLemmas.{decimal_split_eight}
use Rattle.mp4_lines.proofs.text.Text.push_long_decimal.Goals as goal

pub returns : goal.returns
returns g c =
    rw (c.push_eight.ensures.text, c.push_twelve_at_most.ensures.text, decimal_split_eight c.args.number (omega arith) (omega arith)) (simp append_assoc)
