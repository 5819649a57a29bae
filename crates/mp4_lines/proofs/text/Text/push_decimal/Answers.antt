use Rattle.std.proofs.Common.{ap, arith, length, length-append, ◌∙◌}
use Rattle.std.specs.Fmt.{decimal}
use Rattle.mp4_lines.proofs.DecimalLemmas.{long_length, short_length}
use Rattle.mp4_lines.proofs.text.Text.push_decimal.Goals as goal

pub returns-else-number-lt1000-clause-len : goal.returns-else-number-lt1000-clause-len
returns-else-number-lt1000-clause-len g c =
    omega (arith, ap length c.push_long_decimal.ensures ∙ length-append c.args.self.now (decimal c.args.number), long_length c.args.number c.ranges.number.fits)

pub returns-else-number-lt1000-clause-short : goal.returns-else-number-lt1000-clause-short
returns-else-number-lt1000-clause-short g c = λ low.
    omega (arith, ap length c.push_long_decimal.ensures ∙ length-append c.args.self.now (decimal c.args.number), short_length c.args.number low)
