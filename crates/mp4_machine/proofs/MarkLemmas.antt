-- How many fragments are whole in some bytes of a text, by its marks.
use Rattle.std.proofs.Common.{◌≡◌, ℕ, ◌+◌, ◌<◌, ◌≤◌, List, [], ◌∷◌, ◌++◌, Bool, true, false, ap, sym, ◌∙◌, refl, arith}
use Rattle.std.proofs.lemmas.Bool.Decides.{nat_tests}
use Rattle.std.specs.List.{AllByRecursion}
use Rattle.std.specs.Prelude.{nat_lt, if◌then◌else◌}
use Rattle.mp4_machine.specs.Readings.{moved, whole_in}
use Rattle.mp4_machine.specs.declared.fragment_end.FragmentEnd.{FragmentEnd}

less : (m n : ℕ) → m < n → nat_lt m n ≡ true
less m n h = grind (arith, nat_tests)

not_less : (m n : ℕ) → n ≤ m → nat_lt m n ≡ false
not_less m n h = grind (arith, nat_tests)

pub whole_in-append : (n before : ℕ) (xs ys : List FragmentEnd) → whole_in n before (xs ++ ys) ≡ whole_in n (whole_in n before xs) ys
whole_in-append n before [] ys = refl
whole_in-append n before (x ∷ xs) ys = whole_in-append n (if nat_lt n x.end then before else x.count) xs ys

pub moved-append : (k : ℕ) (xs ys : List FragmentEnd) → moved k (xs ++ ys) ≡ moved k xs ++ moved k ys
moved-append k [] ys = refl
moved-append k (x ∷ xs) ys = rw (moved-append k xs ys) refl

pub moved-moved : (j k : ℕ) (xs : List FragmentEnd) → moved j (moved k xs) ≡ moved (j + k) xs
moved-moved j k [] = refl
moved-moved j k (x ∷ xs) =
    let e : j + (k + x.end) ≡ j + k + x.end = omega arith in
    rw (e, moved-moved j k xs) refl

pub moved-none : (xs : List FragmentEnd) → moved 0 xs ≡ xs
moved-none [] = refl
moved-none (x ∷ xs) =
    let e : 0 + x.end ≡ x.end = omega arith in
    rw (e, moved-none xs) refl

-- as many after k bytes as without them
pub whole_in-moved : (k n before : ℕ) (xs : List FragmentEnd) → whole_in (k + n) before (moved k xs) ≡ whole_in n before xs
whole_in-moved k n before [] = refl
whole_in-moved k n before (x ∷ xs) = by (nat_lt n x.end) refl (λ b. whole_in-moved k n b xs)
  where
    by : (t : Bool) → nat_lt n x.end ≡ t → ((b : ℕ) → whole_in (k + n) b (moved k xs) ≡ whole_in n b xs) → whole_in (k + n) before (moved k (x ∷ xs)) ≡ whole_in n before (x ∷ xs)
    by true e others =
        let after : nat_lt (k + n) (k + x.end) ≡ true = grind (arith, nat_tests, e) in
        ap (λ b. whole_in (k + n) (if b then before else x.count) (moved k xs)) after ∙ others before ∙ ap (λ b. whole_in n (if b then before else x.count) xs) (sym e)
    by false e others =
        let within : nat_lt (k + n) (k + x.end) ≡ false = grind (arith, nat_tests, e) in
        ap (λ b. whole_in (k + n) (if b then before else x.count) (moved k xs)) within ∙ others x.count ∙ ap (λ b. whole_in n (if b then before else x.count) xs) (sym e)

-- marks that come later say nothing of the first n bytes
pub whole_in-late : (k n before : ℕ) (xs : List FragmentEnd) → n < k → whole_in n before (moved k xs) ≡ before
whole_in-late k n before [] h = refl
whole_in-late k n before (x ∷ xs) h = ap (λ b. whole_in n (if b then before else x.count) (moved k xs)) (less n (k + x.end) (omega arith)) ∙ whole_in-late k n before xs h

-- all marks lie in the first k bytes: more bytes have no more
pub whole_in-early : (k n before : ℕ) (xs : List FragmentEnd) → AllByRecursion (λ x. x.end ≤ k) xs → whole_in (k + n) before xs ≡ whole_in k before xs
whole_in-early k n before [] h = refl
whole_in-early k n before (x ∷ xs) h =
    ap (λ b. whole_in (k + n) (if b then before else x.count) xs) (not_less (k + n) x.end (omega (arith, h.0)))
    ∙ whole_in-early k n x.count xs h.1
    ∙ ap (λ b. whole_in k (if b then before else x.count) xs) (sym (not_less k x.end h.0))

-- of two texts, one after the other, where no mark of the first is past it
pub whole_in-both : (j before middle : ℕ) (xs ys : List FragmentEnd) → ((n : ℕ) → whole_in (j + n) before xs ≡ middle) → (n : ℕ) → whole_in (j + n) before (xs ++ moved j ys) ≡ whole_in n middle ys
whole_in-both j before middle xs ys h n =
    whole_in-append (j + n) before xs (moved j ys) ∙ ap (λ k. whole_in (j + n) k (moved j ys)) (h n) ∙ whole_in-moved j n middle ys

-- marks that end past the bytes count for nothing
pub whole_in-past : (n before : ℕ) (xs : List FragmentEnd) → AllByRecursion (λ x. n < x.end) xs → whole_in n before xs ≡ before
whole_in-past n before [] h = refl
whole_in-past n before (x ∷ xs) h = ap (λ b. whole_in n (if b then before else x.count) xs) (less n x.end h.0) ∙ whole_in-past n before xs h.1

-- so do those after a text of n bytes, one of k, and none
pub moved-past : (n k : ℕ) (xs : List FragmentEnd) → AllByRecursion (λ x. 0 < x.end) xs → AllByRecursion (λ x. n + (k + 0) < x.end) (moved n (moved k (moved 0 xs)))
moved-past n k [] h = h
moved-past n k (x ∷ xs) h = (omega (arith, h.0), moved-past n k xs h.1)

-- so many fragments are whole in the bytes as by the marks before those
pub whole_in-before : (n before : ℕ) (xs later zs : List FragmentEnd) → zs ≡ xs ++ later → AllByRecursion (λ x. n < x.end) later → whole_in n before xs ≡ whole_in n before zs
whole_in-before n before xs later zs e h = sym (ap (whole_in n before) e ∙ whole_in-append n before xs later ∙ whole_in-past n (whole_in n before xs) later h)

-- marks that lie in the first j bytes lie in the first k
pub within_more : (j k : ℕ) (xs : List FragmentEnd) → j ≤ k → AllByRecursion (λ x. x.end ≤ j) xs → AllByRecursion (λ x. x.end ≤ k) xs
within_more j k [] h all = all
within_more j k (x ∷ xs) h all = (omega (arith, h, all.0), within_more j k xs h all.1)
