use Rattle.std.proofs.Common.{◌+◌, ◌-◌, ◌≡◌, ◌<◌, ◌≤◌, arith, length, ℕ}
use Rattle.std.proofs.lemmas.Fmt.{length-decimal-le}
use Rattle.std.specs.Fmt.{decimal}
use Rattle.mp4_lines.proofs.TripleLemmas.{short_len}
use Rattle.mp4_lines.proofs.triples.short_decimal_len.Goals as goal

-- a byte that is a number's length, as a digit
some : (byte len : ℕ) → byte ≡ 48 + len → 48 ≤ byte
some byte len is = omega (arith, is)

less : (byte len : ℕ) → byte ≡ 48 + len → byte - 48 ≡ len
less byte len is = omega (arith, is)

few : (byte n : ℕ) → n < 1000 → byte ≡ 48 + length (decimal n) → byte - 48 ≤ 3
few byte n here is = omega (arith, is, length-decimal-le 3 n (omega arith) (omega (arith, here)) (omega (arith, here)))

pub overflow_sub-result : goal.overflow_sub-result
overflow_sub-result c = some _ (length (decimal c.args.number)) (short_len c.args.number c.requires)

pub returns-clause-len : goal.returns-clause-len
returns-clause-len c = less _ (length (decimal c.args.number)) (short_len c.args.number c.requires)

pub returns-clause-few : goal.returns-clause-few
returns-clause-few c = few _ c.args.number c.requires (short_len c.args.number c.requires)
