-- Which bytes are a tree of boxes, by joins of whole boxes.
use Rattle.std.specs.Prelude.{◌≡◌, ◌+◌, ℕ, zero, suc, List, [], ◌∷◌, length, take, true}
use Rattle.std.specs.List.{concat, AllByRecursion}
use Rattle.mp4_box.specs.declared.headers.Header.{Header}
use Rattle.mp4_box.specs.Headers.{IsBox, IsWhole}
use Rattle.mp4_box.specs.Trees.{Box, is_container}

-- the bytes are a box, and where it is a container its payload is the join of such trees, with one level less
unfoldable pub IsTree : ℕ → List ℕ → Type 0
IsTree zero x = ⊥
IsTree (suc levels) x = (h : Header) × (payload : List ℕ) × IsBox h payload x
    × (is_container h.kind.0 ≡ true → (xs : List (List ℕ)) × (concat xs ≡ payload) × AllByRecursion (IsTree levels) xs)

-- the boxes are these bytes, one after the other from the offset on
unfoldable pub AreBoxes : ℕ → List (List ℕ) → List Box → Type 0
AreBoxes o [] [] = Unit {0}
AreBoxes o (x ∷ xs) (b ∷ bs) = IsBox b.header b.payload x × (b.offset ≡ o) × AreBoxes (o + length x) xs bs
AreBoxes o [] (b ∷ bs) = ⊥
AreBoxes o (x ∷ xs) [] = ⊥

-- no front of the bytes is a whole box
abbrev pub NoBox : List ℕ → Type 0
NoBox y = (n : ℕ) → IsWhole (take n y) → ⊥
