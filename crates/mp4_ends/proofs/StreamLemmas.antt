-- Bytes taken in several goes.
use Rattle.std.proofs.Common.{◌≡◌, ℕ, ◌+◌, List, [], ◌++◌, take, drop, Option, sym, subst, refl, ◌∙◌, append-nil, ap, append_assoc}
use Rattle.std.proofs.Math.Seq.{take-add}
use Rattle.std.proofs.KnownBytes.{Appends-trans, Consumes-trans}
use Rattle.std.specs.Io.KnownBytes.{Appends, Keeps, Consumes}
use Rattle.std.specs.Prelude.{None, Some}
use Rattle.mp4_ends.specs.Streams.{AppendsPrefix}

-- what grew, and then stayed, grew
pub Appends-kept : (a b c : Option (List ℕ)) (bs : List ℕ) → Appends a b bs → Keeps b c → Appends a c bs
Appends-kept None b c bs p q = tt
Appends-kept (Some x) None c bs p q = absurd p
Appends-kept (Some x) (Some y) None bs p q = absurd q
Appends-kept (Some x) (Some y) (Some z) bs p q = q ∙ p

-- the first i of xs were taken, and then n more
pub Appends-take_more : (a b c : Option (List ℕ)) (i n : ℕ) (xs : List ℕ)
    → Appends a b (take i xs) → Appends b c (take n (drop i xs)) → Appends a c (take (i + n) xs)
Appends-take_more a b c i n xs p q = subst (Appends a c) (sym (take-add i n xs)) (Appends-trans a b c _ _ p q)

-- all of the first bytes were taken, and a front of the next
pub AppendsPrefix-more : (a b c : Option (List ℕ)) (bs cs : List ℕ) → Appends a b bs → AppendsPrefix b c cs → AppendsPrefix a c (bs ++ cs)
AppendsPrefix-more a b c bs cs p (front, rest, q, e) =
    (bs ++ front, rest, Appends-trans a b c bs front p q, ap (λ l. bs ++ l) e ∙ sym (append_assoc bs front rest))

-- a front of some bytes is one of the bytes with more after them
pub AppendsPrefix-longer : (a b : Option (List ℕ)) (bs cs all : List ℕ) → AppendsPrefix a b bs → all ≡ bs ++ cs → AppendsPrefix a b all
AppendsPrefix-longer a b bs cs all (front, rest, p, e) f =
    (front, rest ++ cs, p, f ∙ ap (λ l. l ++ cs) e ∙ append_assoc front rest cs)

-- some bytes were read, and then no more
pub Consumes-then_none : (a b c : Option (List ℕ)) (bs ys : List ℕ) (n : ℕ) → Consumes a b bs → Consumes b c (take n ys) → n ≡ 0 → Consumes a c bs
Consumes-then_none a b c bs ys n p q e =
    let none : take n ys ≡ [] = rw e refl in
    subst (Consumes a c) (ap (λ l. bs ++ l) none ∙ append-nil bs) (Consumes-trans a b c bs (take n ys) p q)
