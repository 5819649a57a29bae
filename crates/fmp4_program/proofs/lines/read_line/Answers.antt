use Rattle.std.proofs.Common.{refl}
use Rattle.fmp4_program.proofs.lines.read_line.Goals as goal

pub returns : goal.returns
returns c = rw (c.push_bytes-2.ensures.text, c.push_decimal.ensures.text, c.push_bytes.ensures.text, c.new-line.ensures) refl
