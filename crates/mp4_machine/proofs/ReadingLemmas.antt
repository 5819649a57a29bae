-- How a reading goes on after its front, whatever the items are.
use Rattle.std.proofs.Common.{◌≡◌, ℕ, zero, suc, ◌≤◌, List, [], ◌∷◌, ◌++◌, length, ap, sym, ◌∙◌, refl, arith, append_assoc, append-nil, length-append}
use Rattle.mp4_machine.specs.Readings.{Reading, Effects, uncounted, plus, no_effects, both, moved, empty_reading, FirstItem, Last, Whole, after, after_effects, then_read, read_at_most, read_all}
use Rattle.mp4_machine.proofs.ReadingAskLemmas.{shifted-none, plus-none, none-plus, plus-assoc, shifted-assoc}
use Rattle.mp4_machine.proofs.MarkLemmas.{moved-append, moved-moved, moved-none}

-- what follows a whole item is at most so long
abbrev pub Below : {C : Type 0} → FirstItem C → ℕ → Type 0
Below (Last r) n = Unit {0}
Below (Whole text next rest) n = length rest ≤ n

-- no bytes result in nothing, and a whole item takes a byte at least
pub record IsItemwise {C : Type 0} (first_item : C → List ℕ → FirstItem C) : Type 0 where
  pub empty : (c : C) → first_item c [] ≡ Last empty_reading
  pub shorter : (c : C) (b : ℕ) (bytes : List ℕ) → Below (first_item c (b ∷ bytes)) (length bytes)

pub Below-more : {C : Type 0} (f : FirstItem C) (m n : ℕ) → m ≤ n → Below f m → Below f n
Below-more (Last r) m n p h = tt
Below-more (Whole text next rest) m n p h = omega arith

pub Below-emitted : {C : Type 0} (effects : Effects) (f : FirstItem C) (n : ℕ) → Below f n → Below (after_effects effects f) n
Below-emitted effects (Last r) n h = tt
Below-emitted effects (Whole more next rest) n h = h

-- ---- the effects

pub both-silent : (t : Effects) → both t no_effects ≡ t
both-silent t = ap (λ l. record { text = l; requests = t.requests ++ []; fragment_ends = t.fragment_ends ++ []; tally = plus t.tally uncounted }) (append-nil t.text)
    ∙ ap (λ l. record { text = t.text; requests = l; fragment_ends = t.fragment_ends ++ []; tally = plus t.tally uncounted }) (append-nil t.requests)
    ∙ ap (λ l. record { text = t.text; requests = t.requests; fragment_ends = l; tally = plus t.tally uncounted }) (append-nil t.fragment_ends)
    ∙ ap (λ n. record { text = t.text; requests = t.requests; fragment_ends = t.fragment_ends; tally = n }) (plus-none t.tally)

pub silent-both : (t : Effects) → both no_effects t ≡ t
silent-both t = ap (λ l. record { text = t.text; requests = l; fragment_ends = moved 0 t.fragment_ends; tally = plus uncounted t.tally }) (shifted-none t.requests)
    ∙ ap (λ l. record { text = t.text; requests = t.requests; fragment_ends = l; tally = plus uncounted t.tally }) (moved-none t.fragment_ends)
    ∙ ap (λ n. record { text = t.text; requests = t.requests; fragment_ends = t.fragment_ends; tally = n }) (none-plus t.tally)

pub after-silent : (r : Reading) → after no_effects r ≡ r
after-silent r = ap (λ t. record { effects = t; outcome = r.outcome }) (silent-both r.effects)

marks-assoc : (s t u : Effects) → (both (both s t) u).fragment_ends ≡ (both s (both t u)).fragment_ends
marks-assoc s t u =
    let j = length s.text in
    let k = length t.text in
    append_assoc s.fragment_ends (moved j t.fragment_ends) (moved (length (s.text ++ t.text)) u.fragment_ends)
    ∙ ap (λ n. s.fragment_ends ++ (moved j t.fragment_ends ++ moved n u.fragment_ends)) (length-append s.text t.text)
    ∙ ap (λ l. s.fragment_ends ++ (moved j t.fragment_ends ++ l)) (sym (moved-moved j k u.fragment_ends))
    ∙ ap (λ l. s.fragment_ends ++ l) (sym (moved-append j t.fragment_ends (moved k u.fragment_ends)))

pub both-assoc : (s t u : Effects) → both (both s t) u ≡ both s (both t u)
both-assoc s t u = ap (λ l. record { text = l; requests = (both (both s t) u).requests; fragment_ends = (both (both s t) u).fragment_ends; tally = plus (plus s.tally t.tally) u.tally }) (append_assoc s.text t.text u.text)
    ∙ ap (λ l. record { text = s.text ++ (t.text ++ u.text); requests = l; fragment_ends = (both (both s t) u).fragment_ends; tally = plus (plus s.tally t.tally) u.tally }) (shifted-assoc s t u)
    ∙ ap (λ l. record { text = s.text ++ (t.text ++ u.text); requests = (both s (both t u)).requests; fragment_ends = l; tally = plus (plus s.tally t.tally) u.tally }) (marks-assoc s t u)
    ∙ ap (λ n. record { text = s.text ++ (t.text ++ u.text); requests = (both s (both t u)).requests; fragment_ends = (both s (both t u)).fragment_ends; tally = n }) (plus-assoc s.tally t.tally u.tally)

pub after-both : (s t : Effects) (r : Reading) → after s (after t r) ≡ after (both s t) r
after-both s t r = ap (λ u. record { effects = u; outcome = r.outcome }) (sym (both-assoc s t r.effects))

then_read-same : {C : Type 0} (r s : C → List ℕ → Reading) (k : ℕ) (same : (next : C) (rest : List ℕ) → length rest ≤ k → r next rest ≡ s next rest)
    (f : FirstItem C) → Below f k → then_read r f ≡ then_read s f
then_read-same r s k same (Last x) b = refl
then_read-same r s k same (Whole text next rest) b = ap (after text) (same next rest b)

pub then_read-emitted : {C : Type 0} (r : C → List ℕ → Reading) (effects : Effects) (f : FirstItem C) → then_read r (after_effects effects f) ≡ after effects (then_read r f)
then_read-emitted r effects (Last x) = refl
then_read-emitted r effects (Whole more next rest) = sym (after-both effects more (r next rest))

module _ {C : Type 0} (first_item : C → List ℕ → FirstItem C) (items : IsItemwise first_item) where
  -- a reading needs no more turns than it has bytes
  read_at_most-same : (n m : ℕ) (c : C) (bytes : List ℕ) → length bytes ≤ n → length bytes ≤ m → read_at_most first_item n c bytes ≡ read_at_most first_item m c bytes
  read_at_most-same zero zero c bytes h k = refl
  read_at_most-same zero (suc m) c [] h k = sym (rw (items.empty c) refl)
  read_at_most-same zero (suc m) c (b ∷ bytes) h k = absurd (omega arith)
  read_at_most-same (suc n) zero c [] h k = rw (items.empty c) refl
  read_at_most-same (suc n) zero c (b ∷ bytes) h k = absurd (omega arith)
  read_at_most-same (suc n) (suc m) c [] h k = rw (items.empty c) refl
  read_at_most-same (suc n) (suc m) c (b ∷ bytes) h k =
      then_read-same (λ x y. read_at_most first_item n x y) (λ x y. read_at_most first_item m x y) (length bytes)
      (λ next rest q. read_at_most-same n m next rest (omega arith) (omega arith)) (first_item c (b ∷ bytes)) (items.shorter c b bytes)

  -- the item at the front, and then the rest
  pub read_all-front : (c : C) (bytes : List ℕ) → read_all first_item c bytes ≡ then_read (read_all first_item) (first_item c bytes)
  unfolding read_all
  read_all-front c [] = sym (rw (items.empty c) refl)
  read_all-front c (b ∷ bytes) =
      then_read-same (λ x y. read_at_most first_item (length bytes) x y) (read_all first_item) (length bytes)
      (λ next rest q. read_at_most-same (length bytes) (length rest) next rest q (omega arith)) (first_item c (b ∷ bytes)) (items.shorter c b bytes)
