use Rattle.std.proofs.Common.{refl}
use Rattle.mp4_lines.proofs.DecimalLemmas.{decimal_pairs}
use Rattle.mp4_lines.proofs.digits.decimal_pair.Goals as goal

pub returns : goal.returns
returns c =
    let digits = decimal_pairs c.args.number c.requires in
    rw (digits.0, digits.1) refl
