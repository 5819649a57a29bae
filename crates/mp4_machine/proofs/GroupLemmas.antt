-- When groups that are put at once go out.
use Rattle.std.proofs.Common.{◌≡◌, ℕ, zero, suc, ◌+◌, ◌-◌, ◌*◌, ◌/◌, ◌<◌, ◌≤◌, List, length, drop, refl, ap, ◌∙◌, arith}
use Rattle.std.proofs.lemmas.List.{length-drop}
use Rattle.std.proofs.lemmas.Bool.{le-ltb, lt-ltb}
use Rattle.mp4_machine.specs.Groups.{waiting_after}

-- all of them wait
pub all_wait : (k n : ℕ) → n + 16 * k ≤ 16384 → waiting_after n k ≡ n + 16 * k
unfolding waiting_after
all_wait zero n h = omega arith
all_wait (suc k) n h = rw (le-ltb 16384 (n + 16) (omega (arith, h))) (all_wait k (n + 16) (omega (arith, h)) ∙ on k n)
  where
    on : (k n : ℕ) → n + 16 + 16 * k ≡ n + 16 * suc k
    on k n = omega arith

-- the first of them wait
filled : (j n k m : ℕ) → m ≡ j + k → n + 16 * j ≤ 16384 → waiting_after n m ≡ waiting_after (n + 16 * j) k
unfolding waiting_after
filled zero n k m e h =
    let all : m ≡ k = omega (arith, e) in
    let none : n ≡ n + 16 * 0 = omega arith in
    ap (waiting_after n) all ∙ ap (λ (i : ℕ). waiting_after i k) none
filled (suc j) n k zero e h = absurd (omega (arith, e))
filled (suc j) n k (suc m) e h =
    rw (le-ltb 16384 (n + 16) (omega (arith, h))) (filled j (n + 16) k m (omega (arith, e)) (omega (arith, h)) ∙ ap (λ (i : ℕ). waiting_after i k) (on j n))
  where
    on : (j n : ℕ) → n + 16 + 16 * j ≡ n + 16 * suc j
    on j n = omega arith

-- there is no room for the next
sent_before : (n k : ℕ) → 16384 < n + 16 → 0 < k → waiting_after n k ≡ waiting_after 0 k
unfolding waiting_after
sent_before n zero full some = absurd (omega (arith, some))
sent_before n (suc k) full some = rw (lt-ltb 16384 (n + 16) (omega (arith, full))) refl

-- the first of them fill the block, and more follow
pub block_sent : (n r count rest : ℕ) → n + 16 * r ≤ 16384 → 16384 < n + 16 * r + 16 → count ≡ r + rest → 0 < rest → waiting_after n count ≡ waiting_after 0 rest
block_sent n r count rest fit full e some = filled r n rest count e fit ∙ sent_before (n + 16 * r) rest full some

-- what is after the first n bytes
pub length_later : (n : ℕ) (all later : List ℕ) → later ≡ drop n all → n < length all → length all ≡ n + length later
length_later n all later e more = omega (arith, more, ap length e, length-drop n all)

-- so many whole groups have room
rounded : (a : ℕ) → a / 16 * 16 ≤ a
rounded a = omega arith

next_too_many : (a : ℕ) → a < a / 16 * 16 + 16
next_too_many a = omega arith

pub rest_waits : (n room count : ℕ) (all rest : List ℕ) → n ≤ 16384 → room ≡ (16384 - n) / 16 * 16 → room < length all → rest ≡ drop room all → length all ≡ 16 * count → (length rest ≡ 16 * (count - (16384 - n) / 16)) × (waiting_after n count ≡ waiting_after 0 (count - (16384 - n) / 16))
rest_waits n room count all rest near is more e long =
    let r = (16384 - n) / 16 in
    let low : r * 16 ≤ 16384 - n = rounded (16384 - n) in
    let high : 16384 - n < r * 16 + 16 = next_too_many (16384 - n) in
    let later = length_later room all rest e more in
    let fewer : r < count = omega (arith, is, more, long) in
    (omega (arith, is, later, long, fewer), block_sent n r count (count - r) (omega (arith, near, low)) (omega (arith, near, high)) (omega (arith, fewer)) (omega (arith, fewer)))
