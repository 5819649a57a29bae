-- Accounts, input after input.
use Rattle.std.proofs.Common.{◌≡◌, ◌∙◌, ℕ, zero, suc, ◌+◌, ◌-◌, ◌≤◌, ◌<◌, max, Result, Err, inl, inr, ap, sym, refl, arith}
use Rattle.std.proofs.lemmas.Bool.{cases_lt}
use Rattle.mp4_ledger.specs.declared.ledger.Refused.{Refused}
use Rattle.mp4_ledger.specs.declared.ledger.Refused.TheVariants as refusals
use Rattle.mp4_ledger.specs.Memory.{Account, claimed, given_back}
use Rattle.mp4_machine.specs.Accounts.{top_of, Counts, Spends}

top_max : (base m n : ℕ) → max (top_of base m) (top_of base n) ≡ top_of base (max m n)
top_max base zero n =
    let none : max zero n ≡ n = omega arith in
    let same : max 0 (top_of base n) ≡ top_of base n = omega arith in
    same ∙ ap (top_of base) (sym none)
top_max base (suc m) zero =
    let none : max (suc m) zero ≡ suc m = omega arith in
    let same : max (base + suc m) 0 ≡ base + suc m = omega arith in
    same ∙ ap (top_of base) (sym none)
top_max base (suc m) (suc n) =
    let next : max (suc m) (suc n) ≡ suc (max m n) = omega arith in
    let same : max (base + suc m) (base + suc n) ≡ base + suc (max m n) = omega arith in
    same ∙ ap (top_of base) (sym next)

top_more : (base m n : ℕ) → m ≤ n → top_of base m ≤ top_of base n
top_more base zero n h = omega arith
top_more base (suc m) zero h = absurd (omega arith)
top_more base (suc m) (suc n) h = omega arith

pub Counts-none : (a : Account) (own : ℕ) → Counts a a own own 0
Counts-none a own = record { limit = refl; live = refl; peak = omega arith }

pub Counts-more : (a b c : Account) (o p q m n : ℕ) → o ≤ a.live → Counts a b o p m → Counts b c p q n → Counts a c o q (max m n)
Counts-more a b c o p q m n low x y =
    let same : b.live - p ≡ a.live - o = omega (arith, x.live) in
    record {
      limit = y.limit ∙ x.limit;
      live = omega (arith, x.live, y.live);
      peak = y.peak ∙ ap (λ (k : ℕ). max k (top_of (b.live - p) n)) x.peak ∙ ap (λ (d : ℕ). max (max a.peak (top_of (a.live - o) m)) (top_of d n)) same
          ∙ max_assoc a.peak (top_of (a.live - o) m) (top_of (a.live - o) n) ∙ ap (max a.peak) (top_max (a.live - o) m n);
    }
  where
    max_assoc : (i j k : ℕ) → max (max i j) k ≡ max i (max j k)
    max_assoc i j k = omega arith

-- a claim by a reader that has `own` bytes
pub Counts-claim : (a : Account) (own n : ℕ) → own ≤ a.live → 0 < own + n → Counts a (claimed a n) own (own + n) (own + n)
Counts-claim a own n low some = record { limit = refl; live = omega arith; peak = top (own + n) some (omega arith) }
  where
    top : (m : ℕ) → 0 < m → a.live + n ≡ a.live - own + m → max a.peak (a.live + n) ≡ max a.peak (top_of (a.live - own) m)
    top zero h e = absurd (omega arith)
    top (suc m) h e = ap (max a.peak) e

-- and some of what it has is given back
pub Counts-back : (a : Account) (own n : ℕ) → n ≤ own → own ≤ a.live → Counts a (given_back a n) own (own - n) 0
Counts-back a own n some low = record { limit = refl; live = omega arith; peak = omega arith }

pub Spends-after : (a b c : Account) (o p q m n : ℕ) → o ≤ a.live → Counts a b o p m → Spends b c p q n → Spends a c o q (max m n)
Spends-after a b c o p q m n low x y =
    let same : b.live - p ≡ a.live - o = omega (arith, x.live) in
    let top : max (max a.peak (top_of (a.live - o) m)) (top_of (a.live - o) n) ≡ max a.peak (max (top_of (a.live - o) m) (top_of (a.live - o) n)) = omega arith in
    let all = ap (λ (k : ℕ). max k (top_of (b.live - p) n)) x.peak ∙ ap (λ (d : ℕ). max (max a.peak (top_of (a.live - o) m)) (top_of d n)) same ∙ top ∙ ap (max a.peak) (top_max (a.live - o) m n) in
    record {
      limit = y.limit ∙ x.limit;
      live = omega (arith, x.live, y.live);
      at_least = omega (arith, x.peak, y.at_least);
      at_most = omega (arith, y.at_most, all);
    }

pub Spends-more : (a b : Account) (o q m n : ℕ) → m ≤ n → Spends a b o q m → Spends a b o q n
Spends-more a b o q m n h x = record { limit = x.limit; live = x.live; at_least = x.at_least; at_most = omega (arith, x.at_most, top_more (a.live - o) m n h) }

pub Spends-counts : (a b : Account) (o q m : ℕ) → Counts a b o q m → Spends a b o q m
Spends-counts a b o q m x = record { limit = x.limit; live = x.live; at_least = omega (arith, x.peak); at_most = omega (arith, x.peak) }

-- where the allocator is said to have had no memory, the limit isn't passed
pub within_limit : {T : Type 0} {r : Result T Refused} (n m : ℕ) → r ≡ Err refusals.Memory → (n < m → r ≡ Err refusals.OverLimit) → m ≤ n
within_limit {T = T} n m e f = elim (cases_lt n m) [
  | inl low ↦ let no : ◌≡◌ {A = Result T Refused} (Err refusals.Memory) (Err refusals.OverLimit) = sym e ∙ f low in absurd cc
  | inr high ↦ high
]
