-- Going over the boxes of a payload, without a rest where they have all of its bytes.
use Rattle.std.proofs.Common.{◌≡◌, ◌∙◌, ◌≤◌, ◌+◌, ◌-◌, ℕ, zero, suc, ltb, List, [], ◌∷◌, ◌++◌, drop, length, Option, Some, None, refl, ap, subst, arith}
use Rattle.std.specs.Prelude.{slice_range}
use Rattle.std.specs.List.{flat_map, sum_by}
use Rattle.std.proofs.lemmas.Bool.{ltb-false}
use Rattle.std.proofs.lemmas.List.{length-drop, length-take}
use Rattle.std.proofs.lemmas.List.Sums.{sum_by-cons}
use Rattle.mp4_box.specs.declared.headers.Header.{Header}
use Rattle.mp4_box.specs.declared.headers.Size.{Size}
use Rattle.mp4_box.specs.declared.headers.Size.TheVariants.{Exact, ToEnd}
use Rattle.mp4_box.specs.declared.headers.Step.{Step}
use Rattle.mp4_box.specs.declared.headers.Step.TheVariants as steps
use Rattle.mp4_box.specs.Headers.{HasRoom, header_at}
use Rattle.mp4_box.specs.Trees.{Box, box_at, box_by, box_len, box_then, boxes, over, sized_box}
use Rattle.mp4_box.proofs.GrammarLemmas.{cond_some, mk}
use Rattle.mp4_box.proofs.HeaderLemmas.{need-least, room_of, whole_is}

-- a box has a header, and no more bytes than are there
record IsWithin (x : List ℕ) (b : Box) : Type 0 where
  low : 8 ≤ box_len b
  high : box_len b ≤ length x

within_sized : (o : ℕ) (x : List ℕ) (h : Header) (size : Size) (b : Box) → h.size ≡ size → header_at x ≡ steps.Whole h → sized_box o x h size ≡ Some b → IsWithin x b
within_sized o x h ToEnd b is e s = absurd cc
within_sized o x h (Exact n) b is e s =
    let t = cond_some (ltb (length x) n) (mk h o (slice_range x h.header_len n)) b s in
    let enough : n ≤ length x = ltb-false _ _ t.0 in
    let room : h.header_len ≤ n = subst (λ (z : Size). HasRoom z h.header_len) is (room_of x h e) in
    let len : length (slice_range x h.header_len n) ≡ n - h.header_len = length-take (n - h.header_len) (drop h.header_len x) ∙ omega (arith, length-drop h.header_len x) in
    subst (IsWithin x) t.1 (record { low = omega (arith, (whole_is x h e).1, need-least x, len, room); high = omega (arith, len, room) })

within_by : (o : ℕ) (x : List ℕ) (r : Step) (b : Box) → header_at x ≡ r → box_by o x r ≡ Some b → IsWithin x b
within_by o x (steps.Whole h) b e s = within_sized o x h h.size b refl e s
within_by o x steps.More b e s = absurd cc
within_by o x steps.BadSize b e s = absurd cc

within : (o : ℕ) (x : List ℕ) (b : Box) → box_at o x ≡ Some b → IsWithin x b
unfolding box_at
within o x b e = within_by o x (header_at x) b refl e

-- ---- one result for each box

each_over : {R : Type 0} (f : Box → List R) (x : List ℕ) (k o : ℕ) → over f (λ _ _. []) x k o ≡ flat_map f (over (λ b. b ∷ []) (λ _ _. []) x k o)
unfolding over
each_over f [] k o = refl
each_over {R} f (a ∷ xs) zero o = by (box_at o (a ∷ xs)) (λ k. each_over f xs k (o + 1))
  where
    by : (m : Option Box) → ((k : ℕ) → over f (λ _ _. []) xs k (o + 1) ≡ flat_map f (over (λ b. b ∷ []) (λ _ _. []) xs k (o + 1)))
        → box_then {R = R} m f [] (λ k. over f (λ _ _. []) xs k (o + 1)) ≡ flat_map f (box_then m (λ b. b ∷ []) [] (λ k. over (λ b. b ∷ []) (λ _ _. []) xs k (o + 1)))
    by None later = refl
    by (Some b) later = ap (λ (rs : List R). f b ++ rs) (later (box_len b - 1))
each_over f (a ∷ xs) (suc k) o = each_over f xs k (o + 1)

-- a rest adds nothing
pub over-each : {R : Type 0} (f : Box → List R) (o : ℕ) (x : List ℕ) → over f (λ _ _. []) x 0 o ≡ flat_map f (boxes o x)
over-each f o x = each_over f x 0 o

all_over : {R : Type 0} (f : Box → List R) (g : ℕ → List ℕ → List R) (x : List ℕ) (k o : ℕ) → sum_by box_len (over (λ b. b ∷ []) (λ _ _. []) x k o) ≡ length x - k
    → over f g x k o ≡ flat_map f (over (λ b. b ∷ []) (λ _ _. []) x k o)
unfolding over
all_over f g [] k o all = refl
all_over {R} f g (a ∷ xs) zero o all = by (box_at o (a ∷ xs)) refl all (λ k. all_over f g xs k (o + 1))
  where
    by : (m : Option Box) → box_at o (a ∷ xs) ≡ m → sum_by box_len (box_then m (λ b. b ∷ []) [] (λ k. over (λ b. b ∷ []) (λ _ _. []) xs k (o + 1))) ≡ length (a ∷ xs) - 0
        → ((k : ℕ) → sum_by box_len (over (λ b. b ∷ []) (λ _ _. []) xs k (o + 1)) ≡ length xs - k → over f g xs k (o + 1) ≡ flat_map f (over (λ b. b ∷ []) (λ _ _. []) xs k (o + 1)))
        → box_then {R = R} m f (g o (a ∷ xs)) (λ k. over f g xs k (o + 1)) ≡ flat_map f (box_then m (λ b. b ∷ []) [] (λ k. over (λ b. b ∷ []) (λ _ _. []) xs k (o + 1)))
    by None e so later = absurd (omega (arith, so))
    by (Some b) e so later =
        let w = within o (a ∷ xs) b e in
        let sum = sum_by-cons box_len b (over (λ b. b ∷ []) (λ _ _. []) xs (box_len b - 1) (o + 1)) in
        ap (λ (rs : List R). f b ++ rs) (later (box_len b - 1) (omega (arith, so, sum, w.low, w.high)))
all_over f g (a ∷ xs) (suc k) o all = all_over f g xs k (o + 1) (omega (arith, all))

-- no rest is left where the boxes have all bytes
pub over-filled : {R : Type 0} (f : Box → List R) (g : ℕ → List ℕ → List R) (o : ℕ) (x : List ℕ) → sum_by box_len (boxes o x) ≡ length x → over f g x 0 o ≡ flat_map f (boxes o x)
over-filled f g o x all = all_over f g x 0 o (omega (arith, all))
