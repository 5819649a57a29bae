use Rattle.std.proofs.Common.{refl}
use Rattle.fmp4_program.proofs.lines.fault_line.Goals as goal

pub returns : goal.returns
returns c =
    rw (c.push_bytes-6.ensures.text, c.push_decimal-2.ensures.text, c.push_bytes-5.ensures.text, c.push_kind.ensures.text, c.push_bytes-4.ensures.text, c.push_bytes-3.ensures.text, c.push_bytes-2.ensures.text, c.push_decimal.ensures.text, c.push_bytes.ensures.text, c.new-line.ensures, c.as_bytes.ensures.value, c.name.ensures.name, c.from.ensures, c.number.ensures) refl
