-- Where a track_ID is among some that are in order: a binary search over at most 65,536.
use Rattle.std.specs.Prelude.{ℕ, zero, suc, List, Option, Some, None, ◌==◌, ◌+◌, ◌/◌, nat_lt, if◌then◌else◌, slice_get}
use Rattle.std.specs.List.Sorted.{IsPermutation, IsSorted}
use Rattle.std.specs.Ordering.{nat_cmp}

-- these are the given ones, in order
pub record AreInOrder (given ids : List ℕ) : Type 0 where
  pub same : IsPermutation given ids
  pub sorted : IsSorted nat_cmp ids

-- a step ahead if the id there is no greater
abbrev pub step_to : Option ℕ → ℕ → ℕ → ℕ → ℕ
step_to None id next at = at
step_to (Some x) id next at = if nat_lt id x then at else next

-- where a search among ids in order ends, by so many steps, each half as long as the one before
unfoldable pub descend : ℕ → ℕ → List ℕ → ℕ → ℕ → ℕ
descend zero step ids id at = at
descend (suc n) step ids id at = descend n (step / 2) ids id (step_to (slice_get ids (at + step)) id (at + step) at)

abbrev pub place_if : Option ℕ → ℕ → ℕ → Option ℕ
place_if None id at = None
place_if (Some x) id at = if x == id then Some at else None

-- where an id is among at most 65,536 in order
unfoldable pub sought : List ℕ → ℕ → Option ℕ
sought ids id = let at = descend 16 32768 ids id 0 in place_if (slice_get ids at) id at
