use Rattle.std.proofs.Common.{append_assoc, arith, refl}
use Rattle.mp4_lines.proofs.DecimalLemmas.{decimal_one, decimal_two, decimal_three, decimal_as_four}
use Rattle.mp4_lines.proofs.text.Text.push_four_at_most.Goals as goal

pub returns-then-number-lt10-clause-text : goal.returns-then-number-lt10-clause-text
returns-then-number-lt10-clause-text g c =
    rw (c.push_array.ensures.text, decimal_one c.args.number (omega arith)) refl

pub returns-then-number-lt100-clause-text : goal.returns-then-number-lt100-clause-text
returns-then-number-lt100-clause-text g c =
    rw (c.push_array-then-number-lt100.ensures.text, c.decimal_pair.ensures, decimal_two c.args.number (omega arith) (omega arith)) refl

pub returns-then-number-lt1000-clause-text : goal.returns-then-number-lt1000-clause-text
returns-then-number-lt1000-clause-text g c =
    rw (c.push_array-then-number-lt1000-2.ensures.text, c.push_array-then-number-lt1000.ensures.text, c.decimal_pair-then-number-lt1000.ensures, decimal_three c.args.number (omega arith) (omega arith)) (simp append_assoc)

pub returns-else-number-lt1000-clause-text : goal.returns-else-number-lt1000-clause-text
returns-else-number-lt1000-clause-text g c =
    rw (c.push_array-else-number-lt1000.ensures.text, c.decimal_four.ensures, decimal_as_four c.args.number (omega arith) (omega arith)) refl
