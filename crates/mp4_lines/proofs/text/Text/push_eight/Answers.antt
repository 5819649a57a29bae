use Rattle.std.proofs.Common.{append_assoc}
use Rattle.mp4_lines.specs.Digits.{eight_digits}
use Rattle.mp4_lines.proofs.text.Text.push_eight.Goals as goal

pub returns-clause-text : goal.returns-clause-text
unfolding eight_digits
returns-clause-text g c =
    rw (c.push_array-2.ensures.text, c.push_array.ensures.text, c.decimal_four.ensures, c.decimal_four-2.ensures) (simp append_assoc)
