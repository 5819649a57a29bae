use Rattle.std.proofs.Common.{◌≡◌, ◌/◌, ◌≤◌, ap, arith, length}
use Rattle.mp4_lines.proofs.DecimalLemmas.{decimal_split}
use Rattle.mp4_lines.proofs.MoreLemmas.{has_four, without_four}
use Rattle.mp4_lines.proofs.cached_number.rewrite_digits.Goals as goal

pub overflow_sub-len : goal.overflow_sub-len
overflow_sub-len c =
    let long : 10000 ≤ c.args.from = omega (arith, c.if-high-ne0.true, c.if-high-from.true) in
    omega (arith, c.len.ensures.len, ap length c.requires.from, has_four c.args.from long c.ranges.from.fits)

pub returns-then-high-from : goal.returns-then-high-from
returns-then-high-from c =
    let long : 10000 ≤ c.args.from = omega (arith, c.if-high-ne0.true, c.if-high-from.true) in
    let to_long : 10000 ≤ c.args.to = omega (arith, c.if-high-ne0.true) in
    let same : c.args.to / 10000 ≡ c.args.from / 10000 = omega (arith, c.if-high-from.true) in
    rw (c.push_array.ensures.text, c.truncate.ensures, c.len.ensures.len, c.requires.from, c.decimal_four.ensures, without_four c.args.from long c.ranges.from.fits, decimal_split c.args.to to_long c.ranges.to.fits, same)
