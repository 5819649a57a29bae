use Rattle.std.proofs.Common.{ap, length, refl, ◌∙◌}
use Rattle.mp4_lines.proofs.TripleLemmas.{triples}
use Rattle.mp4_lines.proofs.triples.decimal_triple.Goals as goal

pub returns-clause-digits : goal.returns-clause-digits
returns-clause-digits c = rw (c.entry_of.ensures, triples c.args.number c.requires) refl

pub returns-clause-len : goal.returns-clause-len
returns-clause-len c = ap length (c.entry_of.ensures ∙ triples c.args.number c.requires)
