-- Bytes of which all are put, and the first count; and digits of which the last four change.
use Rattle.std.proofs.Common.{◌≡◌, ◌∙◌, ℕ, ◌+◌, ◌-◌, ◌/◌, ◌%◌, ◌^◌, ◌<◌, ◌≤◌, List, ◌++◌, length, take, ap, sym, arith, length-append}
use Rattle.std.proofs.Math.Seq.{take-append-add, take-append_seam}
use Rattle.std.proofs.lemmas.List.{length-take-le, take-take}
use Rattle.std.specs.Fmt.{decimal}
use Rattle.mp4_lines.specs.Digits.{decimal_four}
use Rattle.mp4_lines.proofs.DecimalLemmas.{decimal_split}

-- ys was put after the first `at` bytes: of all that is there the first n count
pub more : (all bytes ys : List ℕ) (at n : ℕ) → take (at + length ys) all ≡ take at bytes ++ ys → n ≤ length ys → at + length ys ≤ length bytes
    → take (at + n) all ≡ take at bytes ++ take n ys
more all bytes ys at n put few fits =
    let text : length (take at bytes) ≡ at = length-take-le at bytes (omega (arith, fits)) in
    sym (take-take (at + n) (at + length ys) all (omega (arith, few)))
    ∙ ap (take (at + n)) put
    ∙ ap (λ m. take (m + n) (take at bytes ++ ys)) (sym text)
    ∙ take-append-add (take at bytes) ys n

-- ys was appended to a text: with the first n of it, it is so long
pub front : (all old ys : List ℕ) (from n end : ℕ) → take end all ≡ old ++ ys → length old ≡ from → from + n ≤ end → take (from + n) all ≡ old ++ take n ys
front all old ys from n end text long within =
    sym (take-take (from + n) end all within)
    ∙ ap (take (from + n)) text
    ∙ ap (λ m. take (m + n) (old ++ ys)) (sym long)
    ∙ take-append-add old ys n

-- a number of five digits or more has four after the others
pub has_four : (n : ℕ) → 10000 ≤ n → n < 2 ^ 64 → length (decimal n) ≡ length (decimal (n / 10000)) + 4
has_four n from fits = ap length (decimal_split n from fits) ∙ length-append (decimal (n / 10000)) (decimal_four (n % 10000))

-- which are cut off
pub without_four : (n : ℕ) → 10000 ≤ n → n < 2 ^ 64 → take (length (decimal n) - 4) (decimal n) ≡ decimal (n / 10000)
without_four n from fits =
    let shorter : length (decimal n) - 4 ≡ length (decimal (n / 10000)) = omega (arith, has_four n from fits) in
    rw (shorter, decimal_split n from fits) (take-append_seam (decimal (n / 10000)) (decimal_four (n % 10000)))
