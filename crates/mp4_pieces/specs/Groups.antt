-- The groups of a run's pieces: those that share an index.
use Rattle.std.specs.Prelude.{◌≡◌, ◌<◌, ◌≤◌, ℕ, zero, suc, List, [], ◌∷◌, length, take}
use Rattle.std.specs.List.{AllByRecursion}
use Rattle.mp4_pieces.specs.Cutting.{join}

-- the length of a group, since reference_count of sidx has 16 bits (ISO/IEC 14496-12, 8.16.3)
abbrev pub group_length : ℕ
group_length = 65535

-- the pieces of a group that has this length, after its first
abbrev pub after_first : ℕ
after_first = 65534

-- each group that is followed by another has this length
abbrev pub AllFilled : {A : Type 0} → List (List A) → Type 0
AllFilled [] = Unit {0}
AllFilled (g ∷ []) = Unit {0}
AllFilled (g ∷ h ∷ gs) = (length g ≡ group_length) × AllFilled (h ∷ gs)

-- gs are the groups of some pieces: none is empty, none is longer, all but the last have this length, and together they are the pieces
pub record AreGroups {A : Type 0} (ps : List A) (gs : List (List A)) : Type 0 where
  pub some : AllByRecursion (λ g. 0 < length g) gs
  pub most : AllByRecursion (λ g. length g ≤ group_length) gs
  pub filled : AllFilled gs
  pub joined : join gs ≡ ps

-- ---- the same, computed

-- groups that start after the first k pieces
unfoldable pub groups_from : {A : Type 0} → ℕ → List A → List (List A)
groups_from k [] = []
groups_from zero (p ∷ ps) = take group_length (p ∷ ps) ∷ groups_from after_first ps
groups_from (suc k) (p ∷ ps) = groups_from k ps

-- the groups of some pieces
abbrev pub groups : {A : Type 0} → List A → List (List A)
groups ps = groups_from 0 ps
