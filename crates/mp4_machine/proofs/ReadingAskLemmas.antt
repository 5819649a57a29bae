-- What boxes ask for, and what is counted, one after the other.
use Rattle.std.proofs.Common.{◌≡◌, ◌∙◌, ℕ, ◌+◌, ◌≤◌, List, [], ◌∷◌, ◌++◌, length, max, ap, sym, refl, arith, append_assoc, length-append}
use Rattle.mp4_machine.specs.Readings.{Request, AtMost, shifted_by, shifted, greatest, uncounted, plus, no_effects, Effects, both, most_of}
use Rattle.mp4_machine.specs.declared.tally.Tally.{Tally}

pub max_none : (n : ℕ) → max n 0 ≡ n
max_none n = omega arith

pub none_max : (n : ℕ) → max 0 n ≡ n
none_max n = omega arith

pub max_assoc : (a b c : ℕ) → max (max a b) c ≡ max a (max b c)
max_assoc a b c = omega arith

-- ---- counts

pub plus-none : (t : Tally) → plus t uncounted ≡ t
plus-none t =
    let f : t.fragments + 0 ≡ t.fragments = omega arith in
    let s : t.samples + 0 ≡ t.samples = omega arith in
    let m : t.media_bytes + 0 ≡ t.media_bytes = omega arith in
    let w : t.inspected + 0 ≡ t.inspected = omega arith in
    rw (f, s, m, w) refl

pub none-plus : (t : Tally) → plus uncounted t ≡ t
none-plus t =
    let f : 0 + t.fragments ≡ t.fragments = omega arith in
    let s : 0 + t.samples ≡ t.samples = omega arith in
    let m : 0 + t.media_bytes ≡ t.media_bytes = omega arith in
    let w : 0 + t.inspected ≡ t.inspected = omega arith in
    rw (f, s, m, w) refl

pub plus-assoc : (s t u : Tally) → plus (plus s t) u ≡ plus s (plus t u)
plus-assoc s t u =
    let f : s.fragments + t.fragments + u.fragments ≡ s.fragments + (t.fragments + u.fragments) = omega arith in
    let n : s.samples + t.samples + u.samples ≡ s.samples + (t.samples + u.samples) = omega arith in
    let m : s.media_bytes + t.media_bytes + u.media_bytes ≡ s.media_bytes + (t.media_bytes + u.media_bytes) = omega arith in
    let w : s.inspected + t.inspected + u.inspected ≡ s.inspected + (t.inspected + u.inspected) = omega arith in
    rw (f, n, m, w) refl

-- tallies are the same where each count is
pub same_tally : {s t : Tally} → s.fragments ≡ t.fragments → s.samples ≡ t.samples → s.media_bytes ≡ t.media_bytes → s.inspected ≡ t.inspected → s ≡ t
same_tally {s = s} {t = t} f n m w =
    ap (λ k. record s { fragments = k }) f
    ∙ ap (λ k. record s { fragments = t.fragments; samples = k }) n
    ∙ ap (λ k. record s { fragments = t.fragments; samples = t.samples; media_bytes = k }) m
    ∙ ap (λ k. record t { inspected = k }) w

pub AtMost-same : (t : Tally) → AtMost t t
AtMost-same t = record { fragments = omega arith; samples = omega arith; media_bytes = omega arith; inspected = omega arith }

pub AtMost-trans : (s t u : Tally) → AtMost s t → AtMost t u → AtMost s u
AtMost-trans s t u h k = record {
  fragments = omega (arith, h.fragments, k.fragments);
  samples = omega (arith, h.samples, k.samples);
  media_bytes = omega (arith, h.media_bytes, k.media_bytes);
  inspected = omega (arith, h.inspected, k.inspected);
}

-- something is counted
pub AtMost-none : (t : Tally) → AtMost uncounted t
AtMost-none t = record { fragments = omega arith; samples = omega arith; media_bytes = omega arith; inspected = omega arith }

-- more is counted after
pub AtMost-plus : (s t : Tally) → AtMost s (plus s t)
AtMost-plus s t = record { fragments = omega arith; samples = omega arith; media_bytes = omega arith; inspected = omega arith }

-- and so after what was counted before
pub AtMost-after : (s t u : Tally) → AtMost t u → AtMost (plus s t) (plus s u)
AtMost-after s t u h = record {
  fragments = omega (arith, h.fragments);
  samples = omega (arith, h.samples);
  media_bytes = omega (arith, h.media_bytes);
  inspected = omega (arith, h.inspected);
}

-- ---- asks

pub shifted-none : (requests : List Request) → shifted no_effects requests ≡ requests
shifted-none [] = refl
shifted-none (a ∷ requests) =
    let none : 0 + a.text_before ≡ a.text_before = omega arith in
    ap (λ k. record { at = a.at; sum = a.sum; text_before = k; counted = plus uncounted a.counted } ∷ shifted no_effects requests) none
    ∙ ap (λ t. record { at = a.at; sum = a.sum; text_before = a.text_before; counted = t } ∷ shifted no_effects requests) (none-plus a.counted) ∙ ap (λ l. a ∷ l) (shifted-none requests)

pub shifted-append : (s : Effects) (xs ys : List Request) → shifted s (xs ++ ys) ≡ shifted s xs ++ shifted s ys
shifted-append s [] ys = refl
shifted-append s (a ∷ xs) ys = ap (λ l. shifted_by s a ∷ l) (shifted-append s xs ys)

pub shifted-shifted : (s t : Effects) (xs : List Request) → shifted s (shifted t xs) ≡ shifted (both s t) xs
shifted-shifted s t [] = refl
shifted-shifted s t (a ∷ xs) =
    let sum : length s.text + (length t.text + a.text_before) ≡ length (s.text ++ t.text) + a.text_before = omega (arith, length-append s.text t.text) in
    ap (λ k. record { at = a.at; sum = a.sum; text_before = k; counted = plus s.tally (plus t.tally a.counted) } ∷ shifted s (shifted t xs)) sum
    ∙ ap (λ c. record { at = a.at; sum = a.sum; text_before = length (s.text ++ t.text) + a.text_before; counted = c } ∷ shifted s (shifted t xs)) (sym (plus-assoc s.tally t.tally a.counted))
    ∙ ap (λ l. shifted_by (both s t) a ∷ l) (shifted-shifted s t xs)

pub greatest-shifted : (s : Effects) (xs : List Request) → greatest (shifted s xs) ≡ greatest xs
greatest-shifted s [] = refl
greatest-shifted s (a ∷ xs) = ap (max a.sum) (greatest-shifted s xs)

pub greatest-append : (xs ys : List Request) → greatest (xs ++ ys) ≡ max (greatest xs) (greatest ys)
greatest-append [] ys = sym (none_max (greatest ys))
greatest-append (a ∷ xs) ys = ap (max a.sum) (greatest-append xs ys) ∙ sym (max_assoc a.sum (greatest xs) (greatest ys))

pub most-both : (s t : Effects) → most_of (both s t) ≡ max (most_of s) (most_of t)
most-both s t = greatest-append s.requests (shifted s t.requests) ∙ ap (max (greatest s.requests)) (greatest-shifted s t.requests)

pub most-first : (s t : Effects) → most_of s ≤ most_of (both s t)
most-first s t = omega (arith, most-both s t)

pub shifted-assoc : (s t u : Effects) → (both (both s t) u).requests ≡ (both s (both t u)).requests
shifted-assoc s t u =
    append_assoc s.requests (shifted s t.requests) (shifted (both s t) u.requests)
    ∙ ap (λ l. s.requests ++ (shifted s t.requests ++ l)) (sym (shifted-shifted s t u.requests))
    ∙ ap (λ l. s.requests ++ l) (sym (shifted-append s t.requests (shifted t u.requests)))
