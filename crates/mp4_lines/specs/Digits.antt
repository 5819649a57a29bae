-- Digits in decimal, and bytes in hexadecimal.
use Rattle.std.specs.Prelude.{ℕ, ◌+◌, ◌-◌, ◌/◌, ◌%◌, List, [], ◌∷◌, ◌++◌, nat_lt, if◌then◌else◌}

-- the two decimal digits of a number below 100
abbrev pub decimal_pair : ℕ → List ℕ
decimal_pair n = (48 + n / 10) ∷ (48 + n % 10) ∷ []

-- the three of a number below 1,000
abbrev pub decimal_triple : ℕ → List ℕ
decimal_triple n = (48 + n / 100) ∷ decimal_pair (n % 100)

-- the four of a number below 10,000
abbrev pub decimal_four : ℕ → List ℕ
decimal_four n = decimal_pair (n / 100) ++ decimal_pair (n % 100)

-- the eight of a number below 100,000,000
unfoldable pub eight_digits : ℕ → List ℕ
eight_digits n = decimal_four (n / 10000) ++ decimal_four (n % 10000)

-- the digit of a number below 16, in lower case
abbrev pub hex_digit : ℕ → ℕ
hex_digit n = if nat_lt n 10 then 48 + n else 97 + (n - 10)

-- the two digits of a byte
abbrev pub hex_pair : ℕ → List ℕ
hex_pair b = hex_digit (b / 16) ∷ hex_digit (b % 16) ∷ []

-- two digits for each byte
abbrev pub hex_bytes : List ℕ → List ℕ
hex_bytes [] = []
hex_bytes (b ∷ bytes) = hex_digit (b / 16) ∷ hex_digit (b % 16) ∷ hex_bytes bytes
