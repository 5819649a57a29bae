-- There is one way to put pieces into groups.
use Rattle.std.proofs.Common.{◌≡◌, ℕ, zero, suc, ◌<◌, ◌≤◌, ◌+◌, List, [], ◌∷◌, ◌++◌, length, take, drop, refl, sym, ap, ◌∙◌, arith, append-nil}
use Rattle.std.specs.List.{AllByRecursion}
use Rattle.std.proofs.lemmas.List.{length-take, length-take-le, take-append-drop}
use Rattle.std.proofs.Math.Seq.{take-append_seam}
use Rattle.mp4_pieces.specs.Cutting.{join}
use Rattle.mp4_pieces.specs.Groups.{AllFilled, AreGroups, group_length, groups, groups_from}

take_most : {A : Type 0} (n : ℕ) (xs : List A) → length (take n xs) ≤ n
take_most n xs = omega (arith, length-take n xs)

groups_joined : {A : Type 0} (k : ℕ) (ps : List A) → join (groups_from k ps) ≡ drop k ps
unfolding groups_from
groups_joined zero [] = refl
groups_joined (suc k) [] = refl
groups_joined {A} zero (p ∷ ps) =
    ap (λ (xs : List A). (p ∷ take 65534 ps) ++ xs) (groups_joined 65534 ps) ∙ ap (λ (xs : List A). p ∷ xs) (take-append-drop 65534 ps)
groups_joined (suc k) (p ∷ ps) = groups_joined k ps

groups_some : {A : Type 0} (k : ℕ) (ps : List A) → AllByRecursion (λ g. 0 < length g) (groups_from k ps)
unfolding groups_from
groups_some k [] = tt
groups_some zero (p ∷ ps) = (omega arith, groups_some 65534 ps)
groups_some (suc k) (p ∷ ps) = groups_some k ps

groups_most : {A : Type 0} (k : ℕ) (ps : List A) → AllByRecursion (λ g. length g ≤ group_length) (groups_from k ps)
unfolding groups_from
groups_most k [] = tt
groups_most zero (p ∷ ps) = (take_most group_length (p ∷ ps), groups_most 65534 ps)
groups_most (suc k) (p ∷ ps) = groups_most k ps

-- where a group begins after the first k, there are more than k
more : {A : Type 0} (k : ℕ) (ps : List A) (g : List A) (gs : List (List A)) → groups_from k ps ≡ g ∷ gs → k < length ps
unfolding groups_from
more zero [] g gs e = absurd cc
more (suc k) [] g gs e = absurd cc
more zero (p ∷ ps) g gs e = omega arith
more (suc k) (p ∷ ps) g gs e = omega (arith, more k ps g gs e)

filled_by : {A : Type 0} (g : List A) (gs : List (List A)) → ((h : List A) (hs : List (List A)) → gs ≡ h ∷ hs → length g ≡ group_length) → AllFilled gs → AllFilled (g ∷ gs)
filled_by g [] f rest = tt
filled_by g (h ∷ hs) f rest = (f h hs refl, rest)

one_more : (k n : ℕ) → k < n → k + 1 ≤ suc n
one_more k n h = omega (arith, h)

groups_filled : {A : Type 0} (k : ℕ) (ps : List A) → AllFilled (groups_from k ps)
unfolding groups_from
groups_filled k [] = tt
groups_filled {A} zero (p ∷ ps) =
    filled_by (take group_length (p ∷ ps)) (groups_from 65534 ps) (λ (h : List A) (hs : List (List A)) e. length-take-le group_length (p ∷ ps) (one_more 65534 (length ps) (more 65534 ps h hs e))) (groups_filled 65534 ps)
groups_filled (suc k) (p ∷ ps) = groups_filled k ps

pub groups_are : {A : Type 0} (ps : List A) → AreGroups ps (groups ps)
groups_are ps = record { some = groups_some 0 ps; most = groups_most 0 ps; filled = groups_filled 0 ps; joined = groups_joined 0 ps }

-- the groups that begin after the first k are those of the rest
groups_past : {A : Type 0} (k : ℕ) (ps : List A) → groups_from k ps ≡ groups (drop k ps)
unfolding groups_from
groups_past zero ps = refl
groups_past (suc k) [] = refl
groups_past (suc k) (p ∷ ps) = groups_past k ps

pub groups_none : {A : Type 0} → groups {A = A} [] ≡ []
unfolding groups_from
groups_none = refl

-- the first group, and those of the rest
pub groups_first : {A : Type 0} (p : A) (ps : List A) → groups (p ∷ ps) ≡ take 65535 (p ∷ ps) ∷ groups (drop 65535 (p ∷ ps))
unfolding groups_from
groups_first {A} p ps = ap (λ (gs : List (List A)). take 65535 (p ∷ ps) ∷ gs) (groups_past 65534 ps)

-- ---- no others

past_group : {A : Type 0} (xs ys : List A) → groups_from (length xs) (xs ++ ys) ≡ groups_from 0 ys
unfolding groups_from
past_group [] ys = refl
past_group (x ∷ xs) ys = past_group xs ys

short_group : {A : Type 0} (k : ℕ) (xs : List A) → length xs ≤ k → groups_from k xs ≡ []
unfolding groups_from
short_group k [] h = refl
short_group zero (x ∷ xs) h = absurd (omega (arith, h))
short_group (suc k) (x ∷ xs) h = short_group k xs (omega (arith, h))

taken_all : {A : Type 0} (n : ℕ) (xs : List A) → length xs ≤ n → take n xs ≡ xs
taken_all zero [] h = refl
taken_all (suc n) [] h = refl
taken_all zero (x ∷ xs) h = absurd (omega (arith, h))
taken_all {A} (suc n) (x ∷ xs) h = ap (λ (ys : List A). x ∷ ys) (taken_all n xs (omega (arith, h)))

-- the last group
last_group : {A : Type 0} (g : List A) → 0 < length g → length g ≤ group_length → groups_from 0 g ≡ g ∷ []
unfolding groups_from
last_group [] some most = absurd (omega (arith, some))
last_group {A} (x ∷ g) some most =
    ap (λ (ys : List A). ys ∷ groups_from 65534 g) (taken_all 65535 (x ∷ g) most) ∙ ap (λ (gs : List (List A)). (x ∷ g) ∷ gs) (short_group 65534 g (omega (arith, most)))

-- one that is filled, and what follows
next_group : {A : Type 0} (g rest : List A) → length g ≡ group_length → groups_from 0 (g ++ rest) ≡ g ∷ groups_from 0 rest
unfolding groups_from
next_group [] rest full = absurd (omega (arith, full))
next_group {A} (x ∷ g) rest full =
    let len : length g ≡ 65534 = omega (arith, full) in
    let here : take 65534 (g ++ rest) ≡ g = ap (λ (n : ℕ). take n (g ++ rest)) (sym len) ∙ take-append_seam g rest in
    let there : groups_from 65534 (g ++ rest) ≡ groups_from 0 rest = ap (λ (n : ℕ). groups_from n (g ++ rest)) (sym len) ∙ past_group g rest in
    ap (λ (ys : List A). (x ∷ ys) ∷ groups_from 65534 (g ++ rest)) here ∙ ap (λ (gs : List (List A)). (x ∷ g) ∷ gs) there

only : {A : Type 0} (gs : List (List A)) → AllByRecursion (λ g. 0 < length g) gs → AllByRecursion (λ g. length g ≤ group_length) gs → AllFilled gs → groups_from 0 (join gs) ≡ gs
only [] some most filled = unfold groups_from in refl
only {A} (g ∷ []) some most filled = ap (groups_from 0) (append-nil g) ∙ last_group g some.0 most.0
only {A} (g ∷ h ∷ gs) some most filled =
    next_group g (join (h ∷ gs)) filled.0 ∙ ap (λ (xs : List (List A)). g ∷ xs) (only (h ∷ gs) some.1 most.1 filled.1)

pub groups_only : {A : Type 0} (ps : List A) (gs : List (List A)) → AreGroups ps gs → gs ≡ groups ps
groups_only ps gs are = sym (only gs are.some are.most are.filled) ∙ ap (groups_from 0) are.joined
