-- What is found of a box that begins so many bytes later: the same, so many bytes later.
use Rattle.std.proofs.Common.{◌≡◌, ◌∙◌, ℕ, zero, suc, ◌+◌, ◌-◌, Bool, true, false, cond, List, [], ◌∷◌, ◌++◌, length, Option, Some, None, refl, sym, ap, arith, map}
use Rattle.std.specs.Prelude.{filter, nat_lt, option_map, slice_range}
use Rattle.std.specs.List.{flat_map}
use Rattle.std.specs.Str.{bytes_eq}
use Rattle.std.proofs.lemmas.List.{map-append}
use Rattle.mp4_box.specs.declared.checks.Layout.{Layout}
use Rattle.mp4_box.specs.declared.headers.FourCc.{FourCc}
use Rattle.mp4_box.specs.declared.headers.Header.{Header}
use Rattle.mp4_box.specs.declared.headers.Size.{Size}
use Rattle.mp4_box.specs.declared.headers.Size.TheVariants.{Exact, ToEnd}
use Rattle.mp4_box.specs.declared.headers.Step.{Step}
use Rattle.mp4_box.specs.declared.headers.Step.TheVariants as steps
use Rattle.mp4_box.specs.declared.rules.Fault.{Fault}
use Rattle.mp4_box.specs.declared.rules.Rule.{Rule}
use Rattle.mp4_box.specs.declared.rules.Rule.TheVariants.{Twice}
use Rattle.mp4_box.specs.Checks.{alone, along, broken, fault_by, laid_out, one}
use Rattle.mp4_box.specs.Headers.{header_at}
use Rattle.mp4_box.specs.Paths as paths
use Rattle.mp4_box.specs.Paths.{at_path, of_kind}
use Rattle.mp4_box.specs.Trees as trees
use Rattle.mp4_box.specs.Trees.{Box, bad_below, bad_rest, bad_size, box_at, box_by, box_len, box_then, boxes, children, deep_below, fault_at, faults_of, is_container, no_rest, over, payload_offset, sized_box, tree_faults}

pub join_map : {R : Type 0} (S : R → R) (a b c d : List R) → a ≡ map S b → c ≡ map S d → a ++ c ≡ map S (b ++ d)
join_map S a b c d p q = ap (λ (x : List _). x ++ c) p ∙ (ap (λ (x : List _). map S b ++ x) q ∙ sym (map-append S b d))

module _ (k : ℕ) where
  -- a box so many bytes later
  abbrev pub later : Box → Box
  later b = record b { offset = b.offset + k }

  -- a fault so many bytes later
  abbrev pub fault_later : Fault → Fault
  fault_later f = record f { offset = f.offset + k }

  box_is : (h : Header) (p : List ℕ) (o o' : ℕ) → o' ≡ o + k → ◌≡◌ {A = Box} (record { header = h; offset = o'; payload = p }) (later (record { header = h; offset = o; payload = p }))
  box_is h p o o' e = ap (λ (n : ℕ). record { header = h; offset = n; payload = p }) e

  sized_by : (t : Bool) (h : Header) (p : List ℕ) (o o' : ℕ) → o' ≡ o + k → cond t None (Some (record { header = h; offset = o'; payload = p })) ≡ option_map later (cond t None (Some (record { header = h; offset = o; payload = p })))
  sized_by true h p o o' e = refl
  sized_by false h p o o' e = ap (λ (b : Box). Some b) (box_is h p o o' e)

  sized_moved : (x : List ℕ) (h : Header) (s : Size) (o o' : ℕ) → o' ≡ o + k → sized_box o' x h s ≡ option_map later (sized_box o x h s)
  sized_moved x h (Exact s) o o' e = sized_by (nat_lt (length x) s) h (slice_range x h.header_len s) o o' e
  sized_moved x h ToEnd o o' e = refl

  by_moved : (x : List ℕ) (s : Step) (o o' : ℕ) → o' ≡ o + k → box_by o' x s ≡ option_map later (box_by o x s)
  by_moved x steps.More o o' e = refl
  by_moved x (steps.Whole h) o o' e = sized_moved x h h.size o o' e
  by_moved x steps.BadSize o o' e = refl

  pub box_moved : (x : List ℕ) (o o' : ℕ) → o' ≡ o + k → box_at o' x ≡ option_map later (box_at o x)
  unfolding trees.box_at
  box_moved x o o' e = by_moved x (header_at x) o o' e

  then_moved : {R : Type 0} (S : R → R) (f f' : Box → List R) → ((b : Box) → f' (later b) ≡ map S (f b)) → (o : Option Box) (stop stop' : List R) → stop' ≡ map S stop → (go go' : ℕ → List R) → ((j : ℕ) → go' j ≡ map S (go j)) → box_then (option_map later o) f' stop' go' ≡ map S (box_then o f stop go)
  then_moved S f f' ff None stop stop' s go go' g = s
  then_moved S f f' ff (Some b) stop stop' s go go' g = join_map S _ _ _ _ (ff b) (g (box_len b - 1))

  over_moved : {R : Type 0} (S : R → R) (f f' : Box → List R) (g g' : ℕ → List ℕ → List R) → ((b : Box) → f' (later b) ≡ map S (f b)) → ((o o' : ℕ) (y : List ℕ) → o' ≡ o + k → g' o' y ≡ map S (g o y)) → (x : List ℕ) (skip o o' : ℕ) → o' ≡ o + k → over f' g' x skip o' ≡ map S (over f g x skip o)
  unfolding trees.over
  over_moved S f f' g g' ff gg [] skip o o' e = refl
  over_moved S f f' g g' ff gg (a ∷ xs) zero o o' e =
      ap (λ (b : Option Box). box_then b f' (g' o' (a ∷ xs)) (λ j. over f' g' xs j (o' + 1))) (box_moved (a ∷ xs) o o' e)
      ∙ then_moved S f f' ff (box_at o (a ∷ xs)) (g o (a ∷ xs)) (g' o' (a ∷ xs)) (gg o o' (a ∷ xs) e) (λ j. over f g xs j (o + 1)) (λ j. over f' g' xs j (o' + 1)) (λ j. over_moved S f f' g g' ff gg xs j (o + 1) (o' + 1) (omega (arith, e)))
  over_moved S f f' g g' ff gg (a ∷ xs) (suc j) o o' e = over_moved S f f' g g' ff gg xs j (o + 1) (o' + 1) (omega (arith, e))

  pub boxes_moved : (x : List ℕ) (o o' : ℕ) → o' ≡ o + k → boxes o' x ≡ map later (boxes o x)
  boxes_moved x o o' e = over_moved later (λ b. b ∷ []) (λ b. b ∷ []) (λ _ _. []) (λ _ _. []) (λ b. refl) (λ o o' y e. refl) x 0 o o' e

  pub children_moved : (b : Box) → children (later b) ≡ map later (children b)
  children_moved b = boxes_moved b.payload (payload_offset b) (payload_offset (later b)) (omega arith)

  filter_by : (t : Bool) (b : Box) (xs ys : List Box) → ys ≡ map later xs → cond t (later b ∷ ys) ys ≡ map later (cond t (b ∷ xs) xs)
  filter_by true b xs ys e = ap (λ (zs : List Box). later b ∷ zs) e
  filter_by false b xs ys e = e

  pub filter_moved : (p p' : Box → Bool) → ((b : Box) → p' (later b) ≡ p b) → (bs : List Box) → filter p' (map later bs) ≡ map later (filter p bs)
  filter_moved p p' pp [] = refl
  filter_moved p p' pp (b ∷ bs) = ap (λ (t : Bool). cond t (later b ∷ filter p' (map later bs)) (filter p' (map later bs))) (pp b) ∙ filter_by (p b) b (filter p bs) (filter p' (map later bs)) (filter_moved p p' pp bs)

  pub kind_moved : (c : FourCc) (bs : List Box) → of_kind c (map later bs) ≡ map later (of_kind c bs)
  kind_moved c bs = filter_moved (λ b. bytes_eq b.header.kind.0 c.0) (λ b. bytes_eq b.header.kind.0 c.0) (λ b. refl) bs

  flat_moved : {R : Type 0} (S : R → R) (f f' : Box → List R) → ((b : Box) → f' (later b) ≡ map S (f b)) → (bs : List Box) → flat_map f' (map later bs) ≡ map S (flat_map f bs)
  flat_moved S f f' ff [] = refl
  flat_moved S f f' ff (b ∷ bs) = join_map S _ _ _ _ (ff b) (flat_moved S f f' ff bs)

  pub path_moved : (path : List FourCc) (b : Box) → at_path path (later b) ≡ map later (at_path path b)
  unfolding paths.at_path
  path_moved [] b = refl
  path_moved (c ∷ path) b =
      ap (λ (bs : List Box). flat_map (at_path path) (of_kind c bs)) (children_moved b)
      ∙ (ap (flat_map (at_path path)) (kind_moved c (children b))
      ∙ flat_moved later (at_path path) (at_path path) (path_moved path) (of_kind c (children b)))

  pub along_moved : (f f' : Box → List Fault) → ((b : Box) → f' (later b) ≡ map fault_later (f b)) → (path : List FourCc) (m : Box) → along f' path (later m) ≡ map fault_later (along f path m)
  along_moved f f' ff path m = ap (flat_map f') (path_moved path m) ∙ flat_moved fault_later f f' ff (at_path path m)

  -- ---- the rules of one box

  further_moved : (bs : List Box) → map (fault_at Twice) (map later bs) ≡ map fault_later (map (fault_at Twice) bs)
  further_moved [] = refl
  further_moved (b ∷ bs) = ap (λ (fs : List Fault). fault_at Twice (later b) ∷ fs) (further_moved bs)

  alone_moved : (parent : Box) (bs : List Box) → alone (later parent) (map later bs) ≡ map fault_later (alone parent bs)
  alone_moved parent [] = refl
  alone_moved parent (b ∷ bs) = further_moved bs

  pub one_moved : (c : FourCc) (b : Box) → one c (later b) ≡ map fault_later (one c b)
  one_moved c b = ap (λ (bs : List Box). alone (later b) (of_kind c bs)) (children_moved b) ∙ (ap (alone (later b)) (kind_moved c (children b)) ∙ alone_moved b (of_kind c (children b)))

  fault_moved : (r : Option Rule) (b : Box) → fault_by r (later b) ≡ map fault_later (fault_by r b)
  fault_moved None b = refl
  fault_moved (Some r) b = refl

  pub laid_moved : (l : Layout) (b : Box) → laid_out l (later b) ≡ map fault_later (laid_out l b)
  laid_moved l b = fault_moved (broken l b.payload) b

  pub cond_moved : (t : Bool) (r : Rule) (b : Box) → cond t [] (fault_at r (later b) ∷ []) ≡ map fault_later (cond t [] (fault_at r b ∷ []))
  cond_moved true r b = refl
  cond_moved false r b = refl

  -- ---- its tree

  bad_by : (t : Bool) (xs ys : List Fault) → ys ≡ map fault_later xs → cond t ys [] ≡ map fault_later (cond t xs [])
  bad_by true xs ys e = e
  bad_by false xs ys e = refl

  bad_at : (o o' : ℕ) (y : List ℕ) → o' ≡ o + k → bad_rest o' y ≡ map fault_later (bad_rest o y)
  bad_at o o' y e = ap (λ (n : ℕ). bad_size n y ∷ []) e

  bad_moved : (levels : ℕ) (b : Box) → bad_below levels (later b) ≡ map fault_later (bad_below levels b)
  unfolding trees.bad_below
  bad_moved zero b = refl
  bad_moved (suc levels) b = bad_by (is_container b.header.kind.0) _ _ (over_moved fault_later (bad_below levels) (bad_below levels) bad_rest bad_rest (bad_moved levels) bad_at b.payload 0 (payload_offset b) (payload_offset (later b)) (omega arith))

  deep_moved : (levels : ℕ) (b : Box) → deep_below levels (later b) ≡ map fault_later (deep_below levels b)
  unfolding trees.deep_below
  deep_moved zero b = refl
  deep_moved (suc levels) b = bad_by (is_container b.header.kind.0) _ _ (over_moved fault_later (deep_below levels) (deep_below levels) no_rest no_rest (deep_moved levels) (λ o o' y e. refl) b.payload 0 (payload_offset b) (payload_offset (later b)) (omega arith))

  tree_by : (b : Option Box) → faults_of (option_map later b) ≡ map fault_later (faults_of b)
  tree_by None = refl
  tree_by (Some b) = join_map fault_later _ _ _ _ (bad_moved 8 b) (deep_moved 8 b)

  pub tree_moved : (x : List ℕ) (o o' : ℕ) → o' ≡ o + k → tree_faults o' x ≡ map fault_later (tree_faults o x)
  tree_moved x o o' e = ap faults_of (box_moved x o o' e) ∙ tree_by (box_at o x)
