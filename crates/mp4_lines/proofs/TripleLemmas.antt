-- The two tables of the numbers below 1000, which are seen to be right by one walk each.
use Rattle.std.proofs.Common.{◌≡◌, ◌∙◌, ℕ, zero, suc, ◌+◌, ◌*◌, ◌/◌, ◌%◌, ◌<◌, Bool, true, false, ◌&&◌, T, eqb, List, [], ◌∷◌, drop, length, get_or, take, refl, ap, arith, eqb→eq, subst}
use Rattle.std.proofs.Math.Dec.{ltb}
use Rattle.std.proofs.lemmas.Bool.{ltb-true, ltb-false}
use Rattle.std.specs.Fmt.{decimal}
use lib.Ieee.Fits.{and_l, and_r}
use Rattle.mp4_lines.specs.declared.triples.TheConstants.{DECIMAL_TRIPLES, SHORT_DECIMALS}
use Rattle.mp4_lines.proofs.DecimalLemmas.{decimal_one, decimal_two, decimal_three}

-- four bytes for each number from n on
abbrev fours : (ℕ → ℕ → ℕ → ℕ → ℕ → Bool) → ℕ → List ℕ → Bool
fours fits n [] = true
fours fits n (a ∷ []) = true
fours fits n (a ∷ b ∷ []) = true
fours fits n (a ∷ b ∷ c ∷ []) = true
fours fits n (a ∷ b ∷ c ∷ d ∷ rest) = fits n a b c d && fours fits (suc n) rest

fours_at : (fits : ℕ → ℕ → ℕ → ℕ → ℕ → Bool) (k n : ℕ) (l : List ℕ) → T (fours fits n l) → k * 4 + 3 < length l
    → T (fits (n + k) (get_or l (k * 4) 0) (get_or l (k * 4 + 1) 0) (get_or l (k * 4 + 2) 0) (get_or l (k * 4 + 3) 0))
fours_at fits k n [] t here = absurd (omega (arith, here))
fours_at fits k n (a ∷ []) t here = absurd (omega (arith, here))
fours_at fits k n (a ∷ b ∷ []) t here = absurd (omega (arith, here))
fours_at fits k n (a ∷ b ∷ c ∷ []) t here = absurd (omega (arith, here))
fours_at fits zero n (a ∷ b ∷ c ∷ d ∷ rest) t here =
    let e : n + 0 ≡ n = omega arith in
    rw e (and_l _ (fours fits (suc n) rest) t)
fours_at fits (suc k) n (a ∷ b ∷ c ∷ d ∷ rest) t here =
    let e : n + suc k ≡ suc n + k = omega arith in
    let at : (i : ℕ) → suc k * 4 + i ≡ suc (suc (suc (suc (k * 4 + i)))) = λ i. omega arith in
    let at_0 : suc k * 4 ≡ suc (suc (suc (suc (k * 4)))) = omega arith in
    rw (e, at 1, at 2, at 3, at_0) (fours_at fits k (suc n) rest (and_r (fits n a b c d) _ t) (omega (arith, here)))

-- three digits, and how many the number has
abbrev len_by : Bool → Bool → ℕ
len_by true u = 1
len_by false true = 2
len_by false false = 3

abbrev len_of : ℕ → ℕ
len_of n = len_by (ltb n 10) (ltb n 100)

abbrev is_triple : ℕ → ℕ → ℕ → ℕ → ℕ → Bool
is_triple n a b c d = (eqb a (48 + n / 100) && (eqb b (48 + n % 100 / 10) && eqb c (48 + n % 100 % 10))) && eqb d (48 + len_of n)

-- its digits, from the first on
abbrev is_short_by : Bool → Bool → ℕ → ℕ → ℕ → ℕ → Bool
is_short_by true u n a b c = eqb a (48 + n)
is_short_by false true n a b c = eqb a (48 + n / 10) && eqb b (48 + n % 10)
is_short_by false false n a b c = eqb a (48 + n / 100) && (eqb b (48 + n % 100 / 10) && eqb c (48 + n % 100 % 10))

abbrev is_short : ℕ → ℕ → ℕ → ℕ → ℕ → Bool
is_short n a b c d = is_short_by (ltb n 10) (ltb n 100) n a b c

-- the entry of a number
entry_at : (fits : ℕ → ℕ → ℕ → ℕ → ℕ → Bool) (l : List ℕ) (p : ℕ) → T (fours fits 0 l) → p * 4 + 3 < length l
    → T (fits p (get_or l (p * 4) 0) (get_or l (p * 4 + 1) 0) (get_or l (p * 4 + 2) 0) (get_or l (p * 4 + 3) 0))
entry_at fits l p t here =
    let same : 0 + p ≡ p = omega arith in
    subst (λ n. T (fits n (get_or l (p * 4) 0) (get_or l (p * 4 + 1) 0) (get_or l (p * 4 + 2) 0) (get_or l (p * 4 + 3) 0))) same (fours_at fits p 0 l t here)

digits_by : (u v : Bool) (n a b c d : ℕ) → n < 1000 → ltb n 10 ≡ u → ltb n 100 ≡ v → T (is_short_by u v n a b c) → (take (len_by u v) (a ∷ b ∷ c ∷ d ∷ []) ≡ decimal n) × (len_by u v ≡ length (decimal n))
digits_by true v n a b c d here one two t =
    let digits = decimal_one n (ltb-true n 10 one) in
    (rw (eqb→eq a (48 + n) t, digits) refl, rw digits refl)
digits_by false true n a b c d here one two t =
    let digits = decimal_two n (ltb-false n 10 one) (ltb-true n 100 two) in
    (rw (eqb→eq a (48 + n / 10) (and_l _ _ t), eqb→eq b (48 + n % 10) (and_r (eqb a (48 + n / 10)) _ t), digits) refl, rw digits refl)
digits_by false false n a b c d here one two t =
    let digits = decimal_three n (ltb-false n 100 two) here in
    let last = and_r (eqb a (48 + n / 100)) _ t in
    (rw (eqb→eq a (48 + n / 100) (and_l _ _ t), eqb→eq b (48 + n % 100 / 10) (and_l _ _ last), eqb→eq c (48 + n % 100 % 10) (and_r (eqb b (48 + n % 100 / 10)) _ last), digits) refl, rw digits refl)

-- four bytes of a list
pub four_at : (k : ℕ) (l : List ℕ) → k + 3 < length l → take 4 (drop k l) ≡ get_or l k 0 ∷ get_or l (k + 1) 0 ∷ get_or l (k + 2) 0 ∷ get_or l (k + 3) 0 ∷ []
four_at zero [] here = absurd (omega (arith, here))
four_at zero (a ∷ []) here = absurd (omega (arith, here))
four_at zero (a ∷ b ∷ []) here = absurd (omega (arith, here))
four_at zero (a ∷ b ∷ c ∷ []) here = absurd (omega (arith, here))
four_at zero (a ∷ b ∷ c ∷ d ∷ rest) here = refl
four_at (suc k) [] here = absurd (omega (arith, here))
four_at (suc k) (a ∷ l) here =
    let at : (i : ℕ) → suc k + i ≡ suc (k + i) = λ i. omega arith in
    rw (at 1, at 2, at 3) (four_at k l (omega (arith, here)))

three : (p : ℕ) → p < 1000 → p * 4 + 3 < 4000
three p here = omega (arith, here)

-- the two tables
pub triples : (p : ℕ) → p < 1000 → take 4 (drop (p * 4) DECIMAL_TRIPLES) ≡ (48 + p / 100) ∷ (48 + p % 100 / 10) ∷ (48 + p % 100 % 10) ∷ get_or DECIMAL_TRIPLES (p * 4 + 3) 0 ∷ []
triples p here =
    let t = and_l _ _ (entry_at is_triple DECIMAL_TRIPLES p tt (omega arith)) in
    let rest = and_r (eqb (get_or DECIMAL_TRIPLES (p * 4) 0) (48 + p / 100)) _ t in
    let first : get_or DECIMAL_TRIPLES (p * 4) 0 ≡ 48 + p / 100 = eqb→eq _ _ (and_l _ _ t) in
    let second : get_or DECIMAL_TRIPLES (p * 4 + 1) 0 ≡ 48 + p % 100 / 10 = eqb→eq _ _ (and_l _ _ rest) in
    let third : get_or DECIMAL_TRIPLES (p * 4 + 2) 0 ≡ 48 + p % 100 % 10 = eqb→eq _ _ (and_r _ _ rest) in
    let four = four_at (p * 4) DECIMAL_TRIPLES (three p here) in
    rw (four, first, second, third) refl

short : (p : ℕ) → p < 1000 → (take (len_of p) (get_or SHORT_DECIMALS (p * 4) 0 ∷ get_or SHORT_DECIMALS (p * 4 + 1) 0 ∷ get_or SHORT_DECIMALS (p * 4 + 2) 0 ∷ get_or SHORT_DECIMALS (p * 4 + 3) 0 ∷ []) ≡ decimal p) × (len_of p ≡ length (decimal p))
short p here = digits_by (ltb p 10) (ltb p 100) p _ _ _ _ here refl refl (entry_at is_short SHORT_DECIMALS p tt (omega arith))

pub short_digits : (p : ℕ) → p < 1000 → take (length (decimal p)) (take 4 (drop (p * 4) SHORT_DECIMALS)) ≡ decimal p
short_digits p here = let s = short p here in rw (four_at (p * 4) SHORT_DECIMALS (omega (arith, here))) (subst (λ n. take n (get_or SHORT_DECIMALS (p * 4) 0 ∷ get_or SHORT_DECIMALS (p * 4 + 1) 0 ∷ get_or SHORT_DECIMALS (p * 4 + 2) 0 ∷ get_or SHORT_DECIMALS (p * 4 + 3) 0 ∷ []) ≡ decimal p) s.1 s.0)

pub short_len : (p : ℕ) → p < 1000 → get_or DECIMAL_TRIPLES (p * 4 + 3) 0 ≡ 48 + length (decimal p)
short_len p here =
    let t = entry_at is_triple DECIMAL_TRIPLES p tt (omega arith) in
    eqb→eq _ _ (and_r (eqb (get_or DECIMAL_TRIPLES (p * 4) 0) (48 + p / 100) && (eqb (get_or DECIMAL_TRIPLES (p * 4 + 1) 0) (48 + p % 100 / 10) && eqb (get_or DECIMAL_TRIPLES (p * 4 + 2) 0) (48 + p % 100 % 10))) _ t) ∙ ap (λ n. 48 + n) (short p here).1
