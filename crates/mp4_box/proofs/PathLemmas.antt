-- The boxes on a path, level by level.
use Rattle.std.proofs.Common.{◌≡◌, ◌∙◌, ◌+◌, ◌-◌, ◌<◌, ◌==◌, ℕ, zero, suc, true, false, List, [], ◌∷◌, ◌++◌, length, take, drop, refl, sym, ap, arith, append-nil, append_assoc}
use Rattle.std.proofs.lemmas.List.{length-append, length-drop, take_all}
use Rattle.std.proofs.lemmas.Grind.{flat_map-append}
use Rattle.std.specs.List.{flat_map}
use Rattle.std.specs.Str.{bytes_eq}
use Rattle.mp4_box.specs.declared.rules.Fault.{Fault}
use Rattle.mp4_box.proofs.OrderLemmas.{least_from_append}
use Rattle.mp4_box.specs.Checks.{along}
use Rattle.mp4_box.specs.declared.headers.FourCc.{FourCc}
use Rattle.mp4_box.specs.Trees.{Box, children}
use Rattle.mp4_box.specs.Paths.{of_kind, at_path, paths_below, left_on}

pub path_end : (path : List FourCc) (b : Box) → length path ≡ 0 → at_path path b ≡ b ∷ []
unfolding at_path
path_end [] b e = refl
path_end (kind ∷ path) b e = absurd cc

pub path_first : (kind : FourCc) (path : List FourCc) (b : Box) → at_path (kind ∷ path) b ≡ paths_below path (of_kind kind (children b))
unfolding at_path
path_first kind path b = refl

-- what is at fault on a path, level by level
flat_map_twice : {X Y Z : Type 0} (f : Y → List Z) (g : X → List Y) (xs : List X) → flat_map f (flat_map g xs) ≡ flat_map (λ x. flat_map f (g x)) xs
flat_map_twice f g [] = refl
flat_map_twice {X} {Y} {Z} f g (x ∷ xs) = flat_map-append f (g x) (flat_map g xs) ∙ ap (λ (zs : List Z). flat_map f (g x) ++ zs) (flat_map_twice f g xs)

pub along_here : (faults : Box → List Fault) (path : List FourCc) (b : Box) → length path ≡ 0 → faults b ≡ along faults path b
unfolding at_path
along_here faults [] b e = sym (append-nil (faults b))
along_here faults (kind ∷ path) b e = absurd cc

pub along_below : (faults : Box → List Fault) (path : List FourCc) (kind : FourCc) (below : List FourCc) (b : Box) → path ≡ kind ∷ below
    → flat_map (along faults below) (of_kind kind (children b)) ≡ along faults path b
along_below faults path kind below b e =
    sym (ap (λ (p : List FourCc). along faults p b) e ∙ ap (flat_map faults) (path_first kind below b) ∙ flat_map_twice faults (at_path below) (of_kind kind (children b)))

pub path_below : (path : List FourCc) (kind : FourCc) (below : List FourCc) (b : Box) → path ≡ kind ∷ below → paths_below below (of_kind kind (children b)) ≡ at_path path b
path_below path kind below b e = sym (ap (λ (p : List FourCc). at_path p b) e ∙ path_first kind below b)

-- all that is left at first
pub left_here : (path : List FourCc) (b : Box) (bs : List Box) → length path ≡ 0 → b ∷ left_on path (bs ∷ []) ≡ at_path path b
unfolding left_on at_path
left_here [] b bs e = refl
left_here (kind ∷ path) b bs e = absurd cc

pub left_first : (path : List FourCc) (b : Box) → (length path == 0) ≡ false → left_on path (children b ∷ []) ≡ at_path path b
unfolding left_on at_path
left_first [] b e = absurd cc
left_first (kind ∷ path) b e = refl

-- nothing is left at no level, and on no path
pub left_nowhere : (path : List FourCc) (levels : List (List Box)) → length levels ≡ 0 → left_on path levels ≡ []
unfolding left_on
left_nowhere path [] e = refl
left_nowhere path (bs ∷ levels) e = absurd cc

pub left_nothing : (path : List FourCc) (levels : List (List Box)) → length path ≡ 0 → left_on path levels ≡ []
unfolding left_on
left_nothing [] [] e = refl
left_nothing [] (bs ∷ levels) e = refl
left_nothing (kind ∷ path) levels e = absurd cc

-- what one more level below the others adds
pub left_append : (path : List FourCc) (levels : List (List Box)) (kind : FourCc) (below : List FourCc) (bs : List Box) → drop (length levels) path ≡ kind ∷ below
    → left_on path (levels ++ bs ∷ []) ≡ paths_below below (of_kind kind bs) ++ left_on path levels
unfolding left_on
left_append [] [] kind below bs e = absurd cc
left_append [] (cs ∷ levels) kind below bs e = absurd cc
left_append (k ∷ path) [] kind below bs e = ap (λ (p : List FourCc). left_on p (bs ∷ [])) e ∙ sym (append-nil (paths_below below (of_kind kind bs)))
left_append (k ∷ path) (cs ∷ levels) kind below bs e =
    ap (λ (ds : List Box). ds ++ paths_below path (of_kind k cs)) (left_append path levels kind below bs e)
    ∙ append_assoc (paths_below below (of_kind kind bs)) (left_on path levels) (paths_below path (of_kind k cs))

-- a level at which nothing is left
pub left_none : (path : List FourCc) (levels : List (List Box)) (kind : FourCc) (below : List FourCc) → drop (length levels) path ≡ kind ∷ below → left_on path (levels ++ [] ∷ []) ≡ left_on path levels
left_none path levels kind below e = left_append path levels kind below [] e

-- a box of another type
pub left_other : (path : List FourCc) (levels : List (List Box)) (kind : FourCc) (below : List FourCc) (b : Box) (bs : List Box) → drop (length levels) path ≡ kind ∷ below → bytes_eq b.header.kind.0 kind.0 ≡ false
    → left_on path (levels ++ (b ∷ bs) ∷ []) ≡ left_on path (levels ++ bs ∷ [])
left_other path levels kind below b bs e other =
    left_append path levels kind below (b ∷ bs) e ∙ rw other (sym (left_append path levels kind below bs e))

-- a box at the end of the path
pub left_end : (path : List FourCc) (levels : List (List Box)) (kind : FourCc) (below : List FourCc) (b : Box) (bs : List Box) → drop (length levels) path ≡ kind ∷ below → bytes_eq b.header.kind.0 kind.0 ≡ true → length below ≡ 0
    → left_on path (levels ++ (b ∷ bs) ∷ []) ≡ b ∷ left_on path (levels ++ bs ∷ [])
left_end path levels kind below b bs e same ends =
    left_append path levels kind below (b ∷ bs) e
    ∙ rw same (ap (λ (cs : List Box). (cs ++ paths_below below (of_kind kind bs)) ++ left_on path levels) (path_end below b ends) ∙ ap (λ (cs : List Box). b ∷ cs) (sym (left_append path levels kind below bs e)))

-- the types of a path from a level on
pub path_from : (path : List FourCc) (n : ℕ) (rest : List FourCc) → take (length path - n) (drop n path) ≡ rest → drop n path ≡ rest
path_from path n rest e = sym (take_all (length path - n) (drop n path) (omega (arith, length-drop n path))) ∙ e

next_level : (path : List FourCc) (n : ℕ) (kind : FourCc) (below : List FourCc) → drop n path ≡ kind ∷ below → drop (suc n) path ≡ below
next_level [] zero kind below e = absurd cc
next_level [] (suc n) kind below e = absurd cc
next_level (k ∷ path) zero kind below e = cc
next_level (k ∷ path) (suc n) kind below e = next_level path n kind below e

level_below : (path : List FourCc) (levels : List (List Box)) (kind : FourCc) (below : List FourCc) (bs : List Box) → drop (length levels) path ≡ kind ∷ below → drop (length (levels ++ bs ∷ [])) path ≡ below
level_below path levels kind below bs e =
    let deeper : length (levels ++ bs ∷ []) ≡ suc (length levels) = omega (arith, length-append levels (bs ∷ [])) in
    ap (λ (n : ℕ). drop n path) deeper ∙ next_level path (length levels) kind below e

-- a box on the way, of whose children all are left
pub left_below : (path : List FourCc) (levels : List (List Box)) (kind next : FourCc) (below : List FourCc) (b : Box) (bs : List Box) → drop (length levels) path ≡ kind ∷ (next ∷ below) → bytes_eq b.header.kind.0 kind.0 ≡ true
    → left_on path (levels ++ (b ∷ bs) ∷ []) ≡ left_on path ((levels ++ bs ∷ []) ++ children b ∷ [])
left_below path levels kind next below b bs e same =
    let deeper : drop (length (levels ++ bs ∷ [])) path ≡ next ∷ below = level_below path levels kind (next ∷ below) bs e in
    left_append path levels kind (next ∷ below) (b ∷ bs) e
    ∙ rw same (append_assoc (at_path (next ∷ below) b) (paths_below (next ∷ below) (of_kind kind bs)) (left_on path levels)
    ∙ ap (λ (cs : List Box). cs ++ (paths_below (next ∷ below) (of_kind kind bs) ++ left_on path levels)) (path_first next below b)
    ∙ ap (λ (cs : List Box). paths_below below (of_kind next (children b)) ++ cs) (sym (left_append path levels kind (next ∷ below) bs e)))
    ∙ sym (left_append path (levels ++ bs ∷ []) next below (children b) deeper)

-- ---- how many boxes are read

pub total : (Box → ℕ) → List Box → ℕ
total f [] = 0
total f (b ∷ bs) = f b + total f bs

-- at these boxes and below them, and a turn more for each level
pub reads : List FourCc → List Box → ℕ
reads [] bs = 0
reads (kind ∷ path) bs = total (λ b. 2 + reads path (children b)) bs

unfoldable pub reads_on : List FourCc → List (List Box) → ℕ
reads_on path [] = 0
reads_on [] (bs ∷ levels) = 0
reads_on (kind ∷ path) (bs ∷ levels) = 1 + reads (kind ∷ path) bs + reads_on path levels

reads_append : (path : List FourCc) (levels : List (List Box)) (kind : FourCc) (below : List FourCc) (bs : List Box) → drop (length levels) path ≡ kind ∷ below
    → reads_on path (levels ++ bs ∷ []) ≡ 1 + reads (kind ∷ below) bs + reads_on path levels
unfolding reads_on
reads_append [] [] kind below bs e = absurd cc
reads_append [] (cs ∷ levels) kind below bs e = absurd cc
reads_append (k ∷ path) [] kind below bs e = ap (λ (p : List FourCc). reads_on p (bs ∷ [])) e
reads_append (k ∷ path) (cs ∷ levels) kind below bs e = let more = reads_append path levels kind below bs e in omega (arith, more)

reads_more : (kind : FourCc) (path : List FourCc) (b : Box) (bs : List Box) → reads (kind ∷ path) (b ∷ bs) ≡ 2 + reads path (children b) + reads (kind ∷ path) bs
unfolding reads total
reads_more kind path b bs = refl

-- each turn of the loop reads one
pub reads_none : (path : List FourCc) (levels : List (List Box)) (kind : FourCc) (below : List FourCc) → drop (length levels) path ≡ kind ∷ below → reads_on path levels < reads_on path (levels ++ [] ∷ [])
reads_none path levels kind below e = let one = reads_append path levels kind below [] e in omega (arith, one)

pub reads_box : (path : List FourCc) (levels : List (List Box)) (kind : FourCc) (below : List FourCc) (b : Box) (bs : List Box) → drop (length levels) path ≡ kind ∷ below
    → reads_on path (levels ++ bs ∷ []) < reads_on path (levels ++ (b ∷ bs) ∷ [])
reads_box path levels kind below b bs e =
    let old = reads_append path levels kind below (b ∷ bs) e in
    let new = reads_append path levels kind below bs e in
    let more = reads_more kind below b bs in
    omega (arith, old, new, more)

pub reads_below : (path : List FourCc) (levels : List (List Box)) (kind : FourCc) (below : List FourCc) (b : Box) (bs : List Box) → drop (length levels) path ≡ kind ∷ below → false ≡ (length below == 0)
    → reads_on path ((levels ++ bs ∷ []) ++ children b ∷ []) < reads_on path (levels ++ (b ∷ bs) ∷ [])
reads_below path levels kind [] b bs e some = absurd cc
reads_below path levels kind (next ∷ below) b bs e some =
    let old = reads_append path levels kind (next ∷ below) (b ∷ bs) e in
    let rest = reads_append path levels kind (next ∷ below) bs e in
    let new = reads_append path (levels ++ bs ∷ []) next below (children b) (level_below path levels kind (next ∷ below) bs e) in
    let more = reads_more kind (next ∷ below) b bs in
    omega (arith, old, rest, new, more)

-- a check of the boxes on a path, level by level
pub ruleset along_steps = (least_from_append, along_here, along_below)

-- the boxes that are left on a path
pub ruleset left_steps = (left_none, left_nowhere, left_other, left_end, left_below, reads_none, reads_box, reads_below)
