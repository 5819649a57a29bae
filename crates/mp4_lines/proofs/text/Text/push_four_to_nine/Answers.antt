use Rattle.std.proofs.Common.{◌≡◌, ◌/◌, append_assoc, arith}
use Rattle.mp4_lines.proofs.DecimalLemmas.{decimal_split_three}
use Rattle.mp4_lines.proofs.text.Text.push_four_to_nine.Goals as goal

pub returns-then-number-lt1000000-clause-text : goal.returns-then-number-lt1000000-clause-text
returns-then-number-lt1000000-clause-text g c =
    rw (c.push_three.ensures.text, c.push_three_at_most.ensures.text, decimal_split_three c.args.number (omega arith) (omega arith)) (simp append_assoc)

pub returns-else-number-lt1000000-clause-text : goal.returns-else-number-lt1000000-clause-text
returns-else-number-lt1000000-clause-text g c =
    let number = c.args.number in
    let high : number / 1000 / 1000 ≡ number / 1000000 = omega arith in
    rw (c.push_three-else-number-lt1000000-2.ensures.text, c.push_three-else-number-lt1000000.ensures.text, c.push_three_at_most-else-number-lt1000000.ensures.text, decimal_split_three number (omega arith) (omega arith), decimal_split_three (number / 1000) (omega arith) (omega arith), high) (simp append_assoc)
