-- Bytes in hexadecimal, one byte after the other.
use Rattle.std.proofs.Common.{◌≡◌, ◌∙◌, ◌+◌, ◌/◌, ◌%◌, ◌<◌, ℕ, List, [], ◌∷◌, ◌++◌, length, ap, refl, take, get_or}
use Rattle.std.proofs.lemmas.List.{take_more}
use Rattle.mp4_lines.specs.Digits.{hex_bytes, hex_digit}

hex_bytes-append : (xs ys : List ℕ) → hex_bytes (xs ++ ys) ≡ hex_bytes xs ++ hex_bytes ys
hex_bytes-append [] ys = refl
hex_bytes-append (x ∷ xs) ys = ap (λ l. hex_digit (x / 16) ∷ hex_digit (x % 16) ∷ l) (hex_bytes-append xs ys)

-- one byte more is two digits more
pub hex_bytes-take_more : (i : ℕ) (xs : List ℕ) → i < length xs
    → hex_bytes (take (i + 1) xs) ≡ hex_bytes (take i xs) ++ hex_digit (get_or xs i 0 / 16) ∷ hex_digit (get_or xs i 0 % 16) ∷ []
hex_bytes-take_more i xs here = ap hex_bytes (take_more xs i 0 here) ∙ hex_bytes-append (take i xs) (get_or xs i 0 ∷ [])
