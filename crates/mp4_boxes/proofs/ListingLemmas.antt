-- The lines of a tree, one box after the other.
use Rattle.std.proofs.Common.{◌≡◌, ◌∙◌, ℕ, zero, suc, ◌+◌, ◌-◌, ◌*◌, ◌<◌, ◌≤◌, true, false, take, replicate, List, [], ◌∷◌, ◌++◌, length, ap, refl, append-nil, append_assoc, arith}
use Rattle.std.proofs.Math.Seq.{take-append-add}
use Rattle.std.proofs.lemmas.List.{take-replicate}
use Rattle.std.specs.List.{flat_map}
use Rattle.mp4_box.specs.Trees.{Box, children, is_container}
use Rattle.mp4_boxes.specs.Listing.{has_lines_below, indent, line_below, lines_below, tree_lines}

pub has-zero : (n : ℕ) (b : Box) → n ≡ 0 → has_lines_below n b ≡ false
unfolding has_lines_below
has-zero zero b e = refl
has-zero (suc n) b e = absurd (omega arith)

pub has-more : (n : ℕ) (b : Box) → 0 < n → has_lines_below n b ≡ is_container b.header.kind.0
unfolding has_lines_below
has-more zero b h = absurd (omega arith)
has-more (suc n) b h = refl

pub has-low : (n : ℕ) (b : Box) → has_lines_below n b ≡ true → 0 < n
unfolding has_lines_below
has-low zero b e = absurd cc
has-low (suc n) b e = omega arith

pub lines-leaf : (n level : ℕ) (b : Box) → has_lines_below n b ≡ false → tree_lines n level b ≡ line_below level b
unfolding tree_lines has_lines_below
lines-leaf zero level b e = refl
lines-leaf (suc n) level b e = rw e (append-nil (line_below level b))

pub lines-step : (n level : ℕ) (b : Box) → has_lines_below n b ≡ true → line_below level b ++ lines_below (n - 1) (level + 1) b ≡ tree_lines n level b
unfolding tree_lines has_lines_below
lines-step zero level b e = absurd cc
lines-step (suc n) level b e = rw e (ap (λ (k : ℕ). line_below level b ++ flat_map (tree_lines k (level + 1)) (children b)) (omega arith))

-- the box's own line comes first
pub lines-begin : (n level : ℕ) (b : Box) → (rest : List ℕ) × (line_below level b ++ rest ≡ tree_lines n level b)
unfolding tree_lines
lines-begin zero level b = ([], append-nil (line_below level b))
lines-begin (suc n) level b = (_, refl)

spaces : (level : ℕ) → level ≤ 7 → take {A = ℕ} (2 * level) (replicate 14 32) ≡ replicate (2 * level) 32
spaces level low = take-replicate (2 * level) 14 32 (omega arith)

-- all spaces were put, and as many kept as the indent has
pub indented : (x : List ℕ) (level : ℕ) → level ≤ 7 → take (length x + 2 * level) (x ++ replicate 14 32) ≡ x ++ indent level
indented x level low = take-append-add x (replicate 14 32) (2 * level) ∙ ap (λ (l : List ℕ). x ++ l) (spaces level low)

-- a child, and then the others
pub lines-child : (n level : ℕ) (b : Box) (bs : List Box) (text all : List ℕ) → text ++ flat_map (tree_lines n level) (b ∷ bs) ≡ all → (text ++ tree_lines n level b) ++ flat_map (tree_lines n level) bs ≡ all
lines-child n level b bs text all e = append_assoc text (tree_lines n level b) (flat_map (tree_lines n level) bs) ∙ e
