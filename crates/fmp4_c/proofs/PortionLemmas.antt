-- How far the boxes go that are taken at once.
use Rattle.std.proofs.Common.{◌≡◌, ℕ, zero, suc, ◌+◌, ◌<◌, ◌≤◌, List, drop, Ok, Err, refl, arith}
use Rattle.mp4_box.specs.Headers.{header_at, result_of}
use Rattle.mp4_box.specs.declared.headers.Header.{Header}
use Rattle.mp4_box.specs.declared.headers.Size.TheVariants.{Exact, ToEnd}
use Rattle.mp4_box.specs.declared.rules.Rule.{Rule}
use Rattle.mp4_grammar.specs.Kinds.{kind_in}
use Rattle.mp4_machine.proofs.BodyLemmas.{nat_lt_false, nat_lt_true}
use Rattle.fmp4_c.specs.Portions.{last_mdat, later}

-- no box is read from `most` on
pub last-none : (n : ℕ) (input : List ℕ) (most at last : ℕ) → most ≤ at → last_mdat n input most at last ≡ last
unfolding last_mdat
last-none zero input most at last far = refl
last-none (suc n) input most at last far = rw (nat_lt_false at most far) refl

module _ (n : ℕ) (input : List ℕ) (most at last : ℕ) (some : at < most) where
  -- nor after bytes that are no header
  pub last-bad : (e : Rule) → result_of (header_at (drop at input)) ≡ Err e → last_mdat n input most at last ≡ last
  unfolding last_mdat
  last-bad e is = by n
    where
      by : (n : ℕ) → last_mdat n input most at last ≡ last
      by zero = refl
      by (suc n) = rw (nat_lt_true at most some, is, nat_lt_true most (most + 1) (omega arith)) refl

  -- nor after a box that goes to the end of the stream
  pub last-open : (h : Header) → result_of (header_at (drop at input)) ≡ Ok h → h.size ≡ ToEnd → last_mdat n input most at last ≡ last
  unfolding last_mdat
  last-open h is open_size = by n
    where
      by : (n : ℕ) → last_mdat n input most at last ≡ last
      by zero = refl
      by (suc n) = rw (nat_lt_true at most some, is, open_size, nat_lt_true most (most + 1) (omega arith)) refl

  -- nor after one that ends later
  pub last-far : (h : Header) (s : ℕ) → result_of (header_at (drop at input)) ≡ Ok h → h.size ≡ Exact s → most < at + s → last_mdat n input most at last ≡ last
  unfolding last_mdat
  last-far h s is size far = by n
    where
      by : (n : ℕ) → last_mdat n input most at last ≡ last
      by zero = refl
      by (suc n) = rw (nat_lt_true at most some, is, size, nat_lt_true most (at + s) far) refl

  -- else the next one is read
  pub last-next : (h : Header) (s : ℕ) → result_of (header_at (drop at input)) ≡ Ok h → h.size ≡ Exact s → at + s ≤ most
      → last_mdat (suc n) input most at last ≡ last_mdat n input most (at + s) (later (kind_in h.kind.0) (at + s) last)
  unfolding last_mdat
  last-next h s is size near = rw (nat_lt_true at most some, is, size, nat_lt_false most (at + s) near) refl
