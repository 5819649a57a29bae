use Rattle.std.proofs.Common.{◌≡◌, ◌-◌, ◌*◌, ◌/◌, ◌%◌, append_assoc, arith}
use Rattle.mp4_lines.proofs.DecimalLemmas.{decimal_split}
use Rattle.mp4_lines.proofs.cached_number.CachedNumber.push_to.Goals as goal

pub returns-else-self-lt10000-clause-text : goal.returns-else-self-lt10000-clause-text
returns-else-self-lt10000-clause-text g c =
    let number = c.self.inside.number in
    let low : number - number / 10000 * 10000 ≡ number % 10000 = omega arith in
    rw (c.push_array.ensures.text, c.push_text.ensures.text, c.decimal_four.ensures, c.self.invariant.1, c.self.invariant.0, ← c.self.view_is, low, decimal_split number (omega arith) (omega arith)) (simp append_assoc)
