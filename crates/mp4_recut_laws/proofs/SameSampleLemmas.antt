-- Lists of samples with the same reports, whatever is reported of each, are the same list.
use Rattle.std.proofs.Common.{◌≡◌, ◌∙◌, ℕ, ℤ, pos, negsuc, zero, suc, List, [], ◌∷◌, ◌++◌, length, drop, ap, arith, refl}
use Rattle.std.specs.List.{flat_map}
use Rattle.mp4_recut_laws.specs.MediaSamples.{MediaSample}

-- the sign and the size of a number
abbrev sign : ℤ → ℕ
sign (pos n) = 0
sign (negsuc n) = 1

abbrev size : ℤ → ℕ
size (pos n) = n
size (negsuc n) = n

same_number : (a b : ℤ) → sign a ≡ sign b → size a ≡ size b → a ≡ b
same_number (pos m) (pos n) e f = ap pos f
same_number (pos m) (negsuc n) e f = absurd (omega (arith, e))
same_number (negsuc m) (pos n) e f = absurd (omega (arith, e))
same_number (negsuc m) (negsuc n) e f = ap negsuc f

-- all that is known of a sample, and how many bytes it has
abbrev spelled : MediaSample → List ℕ
spelled s = s.track ∷ s.time ∷ sign s.composition ∷ size s.composition ∷ s.duration ∷ s.flags ∷ s.entry ∷ length s.bytes ∷ s.bytes

-- the number at an index
abbrev number : ℕ → List ℕ → ℕ
number n [] = 0
number zero (x ∷ xs) = x
number (suc n) (x ∷ xs) = number n xs

-- lists of one length before others
split : (xs ys r q : List ℕ) → length xs ≡ length ys → xs ++ r ≡ ys ++ q → (xs ≡ ys) × (r ≡ q)
split [] [] r q l e = (refl, e)
split [] (y ∷ ys) r q l e = absurd (omega (arith, l))
split (x ∷ xs) (y ∷ ys) r q l e =
    let (same, rest) = split xs ys r q (omega (arith, l)) (ap (drop 1) e) in
    (ap (λ t. x ∷ t) same ∙ ap (λ a. a ∷ ys) (ap (number 0) e), rest)
split (x ∷ xs) [] r q l e = absurd (omega (arith, l))

-- samples of which the same is known are the same
same_sample : (s t : MediaSample) → s.track ≡ t.track → s.time ≡ t.time → s.composition ≡ t.composition → s.duration ≡ t.duration → s.flags ≡ t.flags → s.entry ≡ t.entry → s.bytes ≡ t.bytes → s ≡ t
same_sample s t track time composition duration flags entry bytes =
    ap (λ x. record s { track = x }) track
    ∙ ap (λ x. record s { track = t.track; time = x }) time
    ∙ ap (λ x. record s { track = t.track; time = t.time; composition = x }) composition
    ∙ ap (λ x. record s { track = t.track; time = t.time; composition = t.composition; duration = x }) duration
    ∙ ap (λ x. record s { track = t.track; time = t.time; composition = t.composition; duration = t.duration; flags = x }) flags
    ∙ ap (λ x. record s { track = t.track; time = t.time; composition = t.composition; duration = t.duration; flags = t.flags; entry = x }) entry
    ∙ ap (λ x. record t { bytes = x }) bytes

same_spelled : (xs ys : List MediaSample) → flat_map spelled xs ≡ flat_map spelled ys → xs ≡ ys
same_spelled [] [] e = refl
same_spelled [] (y ∷ ys) e = absurd (omega (arith, ap length e))
same_spelled (x ∷ xs) [] e = absurd (omega (arith, ap length e))
same_spelled (x ∷ xs) (y ∷ ys) e =
    let (bytes, rest) = split x.bytes y.bytes (flat_map spelled xs) (flat_map spelled ys) (ap (number 7) e) (ap (drop 8) e) in
    let first : x ≡ y = same_sample x y (ap (number 0) e) (ap (number 1) e) (same_number x.composition y.composition (ap (number 2) e) (ap (number 3) e)) (ap (number 4) e) (ap (number 5) e) (ap (number 6) e) bytes in
    ap (λ s. s ∷ xs) first ∙ ap (λ l. y ∷ l) (same_spelled xs ys rest)

pub same_samples : (xs ys : List MediaSample) → ((report : MediaSample → List ℕ) → flat_map report xs ≡ flat_map report ys) → xs ≡ ys
same_samples xs ys same = same_spelled xs ys (same spelled)
