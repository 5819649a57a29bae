use Rattle.std.proofs.Common.{◌*◌, ◌∙◌, ap, arith, length}
use Rattle.mp4_lines.specs.declared.triples.TheConstants.{SHORT_DECIMALS}
use Rattle.mp4_lines.proofs.TripleLemmas.{four_at, short_digits}
use Rattle.mp4_lines.proofs.triples.short_decimal.Goals as goal

pub returns-clause-digits : goal.returns-clause-digits
returns-clause-digits c = rw c.entry_of.ensures (short_digits c.args.number c.requires)

pub returns-clause-len : goal.returns-clause-len
returns-clause-len c = ap length (c.entry_of.ensures ∙ four_at (c.args.number * 4) SHORT_DECIMALS (omega (arith, c.requires)))
