-- How a list is cut into pieces, each as long as it can be, by a test of what fits.
use Rattle.std.specs.Prelude.{◌≡◌, ◌<◌, Bool, true, false, List, [], ◌∷◌, ◌++◌, length, take, if◌then◌else◌}
use Rattle.std.specs.List.{AllByRecursion, flat_map}

-- lists, one after the other
abbrev pub join : {A : Type 0} → List (List A) → List A
join ps = flat_map (λ p. p) ps

-- a piece and the first element of the next don't fit together
abbrev pub IsFull : {A : Type 0} → (List A → Bool) → List A → List (List A) → Type 0
IsFull fits p [] = Unit {0}
IsFull fits p (q ∷ ps) = fits (p ++ take 1 q) ≡ false

-- the same for each piece that is followed by another
abbrev pub AllFull : {A : Type 0} → (List A → Bool) → List (List A) → Type 0
AllFull fits [] = Unit {0}
AllFull fits (p ∷ ps) = IsFull fits p ps × AllFull fits ps

-- ps are the pieces of a list: none is empty, together they are the list, each fits, and each is as long as it can be
pub record ArePieces {A : Type 0} (fits : List A → Bool) (xs : List A) (ps : List (List A)) : Type 0 where
  pub some : AllByRecursion (λ p. 0 < length p) ps
  pub joined : join ps ≡ xs
  pub fit : AllByRecursion (λ p. fits p ≡ true) ps
  pub full : AllFull fits ps

-- requirements of a test of what fits: one element does, and each prefix of what fits
pub record IsLimit {A : Type 0} (fits : List A → Bool) : Type 0 where
  pub one : (x : A) → fits (x ∷ []) ≡ true
  pub front : (x : A) (xs ys : List A) → fits (x ∷ (xs ++ ys)) ≡ true → fits (x ∷ xs) ≡ true

-- ---- the same, computed

-- pieces of the rest, if the next piece begins with these elements
unfoldable pub cut_from : {A : Type 0} → (List A → Bool) → List A → List A → List (List A)
cut_from fits piece [] = piece ∷ []
cut_from fits piece (x ∷ xs) = if fits (piece ++ x ∷ []) then cut_from fits (piece ++ x ∷ []) xs else piece ∷ cut_from fits (x ∷ []) xs

-- the pieces of a list
unfoldable pub cut_by : {A : Type 0} → (List A → Bool) → List A → List (List A)
cut_by fits [] = []
cut_by fits (x ∷ xs) = cut_from fits (x ∷ []) xs
