-- The two tables of digits, and numbers as the digits that are left of them and the last four or eight.
use Rattle.std.proofs.Common.{◌≡◌, ℕ, zero, suc, ◌+◌, ◌-◌, ◌*◌, ◌/◌, ◌%◌, ◌^◌, ◌<◌, ◌≤◌, Bool, true, ◌&&◌, T, eqb, [], ◌∷◌, ◌++◌, length, get_or, arith, inl, inr, eq-zero-or-pos, eqb→eq, append_assoc}
use lib.Ieee.Fits.{and_l, and_r}
use Rattle.std.specs.Fmt.{decimal}
use Rattle.std.proofs.lemmas.Fmt.{decimal_digit, decimal_step, length-decimal-le}
use Rattle.itoa.proofs.Decimal as itoa
use Rattle.mp4_lines.specs.Digits.{decimal_pair, decimal_triple, decimal_four, eight_digits, hex_digit}
use Rattle.mp4_lines.specs.declared.digits.TheConstants.{DECIMAL_PAIRS, HEX_PAIRS}

-- ---- the tables

abbrev are_decimal : ℕ → Bool
are_decimal zero = true
are_decimal (suc p) = (eqb (get_or DECIMAL_PAIRS (p * 2) 0) (48 + p / 10) && eqb (get_or DECIMAL_PAIRS (p * 2 + 1) 0) (48 + p % 10)) && are_decimal p

decimal_below : (n p : ℕ) → T (are_decimal n) → p < n → (get_or DECIMAL_PAIRS (p * 2) 0 ≡ 48 + p / 10) × (get_or DECIMAL_PAIRS (p * 2 + 1) 0 ≡ 48 + p % 10)
decimal_below zero p t here = absurd (omega arith)
decimal_below (suc n) p t here =
    elim (eq-zero-or-pos (n - p)) [
      | inl z ↦ let same : p ≡ n = omega arith in let entry = and_l _ (are_decimal n) t in rw same (eqb→eq _ _ (and_l _ _ entry), eqb→eq _ _ (and_r _ _ entry))
      | inr g ↦ decimal_below n p (and_r _ (are_decimal n) t) (omega arith)
    ]

pub decimal_pairs : (p : ℕ) → p < 100 → (get_or DECIMAL_PAIRS (p * 2) 0 ≡ 48 + p / 10) × (get_or DECIMAL_PAIRS (p * 2 + 1) 0 ≡ 48 + p % 10)
decimal_pairs p here = decimal_below 100 p tt here

abbrev are_hex : ℕ → Bool
are_hex zero = true
are_hex (suc b) = (eqb (get_or HEX_PAIRS (b * 2) 0) (hex_digit (b / 16)) && eqb (get_or HEX_PAIRS (b * 2 + 1) 0) (hex_digit (b % 16))) && are_hex b

hex_below : (n b : ℕ) → T (are_hex n) → b < n → (get_or HEX_PAIRS (b * 2) 0 ≡ hex_digit (b / 16)) × (get_or HEX_PAIRS (b * 2 + 1) 0 ≡ hex_digit (b % 16))
hex_below zero b t here = absurd (omega arith)
hex_below (suc n) b t here =
    elim (eq-zero-or-pos (n - b)) [
      | inl z ↦ let same : b ≡ n = omega arith in let entry = and_l _ (are_hex n) t in rw same (eqb→eq _ _ (and_l _ _ entry), eqb→eq _ _ (and_r _ _ entry))
      | inr g ↦ hex_below n b (and_r _ (are_hex n) t) (omega arith)
    ]

pub hex_pairs : (b : ℕ) → b < 256 → (get_or HEX_PAIRS (b * 2) 0 ≡ hex_digit (b / 16)) × (get_or HEX_PAIRS (b * 2 + 1) 0 ≡ hex_digit (b % 16))
hex_pairs b here = hex_below 256 b tt here

-- ---- numbers

-- of one digit to four
pub decimal_one : (n : ℕ) → n < 10 → decimal n ≡ (48 + n) ∷ []
decimal_one n below = decimal_digit n below

pub decimal_two : (n : ℕ) → 10 ≤ n → n < 100 → decimal n ≡ decimal_pair n
decimal_two n from below = itoa.decimal_two n from below

pub decimal_three : (n : ℕ) → 100 ≤ n → n < 1000 → decimal n ≡ (48 + n / 100) ∷ decimal_pair (n % 100)
decimal_three n from below = rw (itoa.decimal_pair n from (omega arith), decimal_digit (n / 100) (omega arith))

pub decimal_as_four : (n : ℕ) → 1000 ≤ n → n < 10000 → decimal n ≡ decimal_four n
decimal_as_four n from below = rw (itoa.decimal_pair n (omega arith) (omega arith), itoa.decimal_two (n / 100) (omega arith) (omega arith))

-- with three digits after the others, with four, and with eight
pub decimal_split_three : (n : ℕ) → 1000 ≤ n → n < 2 ^ 64 → decimal n ≡ decimal (n / 1000) ++ decimal_triple (n % 1000)
decimal_split_three n from fits =
    let a : n / 10 / 100 ≡ n / 1000 = omega arith in
    let b : n / 10 % 100 / 10 ≡ n % 1000 / 100 = omega arith in
    let c : n / 10 % 100 % 10 ≡ n % 1000 % 100 / 10 = omega arith in
    let d : n % 10 ≡ n % 1000 % 100 % 10 = omega arith in
    rw (decimal_step n (omega arith) fits, itoa.decimal_pair (n / 10) (omega arith) (omega arith), a, b, c, d) (append_assoc (decimal (n / 1000)) ((48 + n % 1000 / 100) ∷ (48 + n % 1000 % 100 / 10) ∷ []) ((48 + n % 1000 % 100 % 10) ∷ []))

pub decimal_split : (n : ℕ) → 10000 ≤ n → n < 2 ^ 64 → decimal n ≡ decimal (n / 10000) ++ decimal_four (n % 10000)
decimal_split n from fits = itoa.decimal_four n from fits

pub decimal_split_eight : (n : ℕ) → 100000000 ≤ n → n < 2 ^ 64 → decimal n ≡ decimal (n / 100000000) ++ eight_digits (n % 100000000)
unfolding eight_digits
decimal_split_eight n from fits =
    let a : n / 10000 / 10000 ≡ n / 100000000 = omega arith in
    let b : n / 10000 % 10000 ≡ n % 100000000 / 10000 = omega arith in
    let c : n % 10000 ≡ n % 100000000 % 10000 = omega arith in
    rw (decimal_split n (omega arith) fits, decimal_split (n / 10000) (omega arith) (omega arith), a, b, c) (append_assoc (decimal (n / 100000000)) (decimal_four (n % 100000000 / 10000)) (decimal_four (n % 100000000 % 10000)))

-- a number of 32 bits has at most ten digits, and one of 64 bits at most twenty
pub short_length : (n : ℕ) → n < 2 ^ 32 → length (decimal n) ≤ 10
short_length n low = length-decimal-le 10 n (omega arith) (omega (arith, low)) (omega (arith, low))

pub long_length : (n : ℕ) → n < 2 ^ 64 → length (decimal n) ≤ 20
long_length n fits = length-decimal-le 20 n (omega arith) (omega (arith, fits)) fits
