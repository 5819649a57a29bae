use Rattle.std.proofs.Common.{refl}
use Rattle.mp4_lines.proofs.DecimalLemmas.{hex_pairs}
use Rattle.mp4_lines.proofs.digits.hex_pair.Goals as goal

pub returns : goal.returns
returns c =
    let digits = hex_pairs c.args.byte c.ranges.byte.fits in
    rw (digits.0, digits.1) refl
