-- The order in which the runs of a moof are taken, and their order by track.
use Rattle.std.specs.Prelude.{ℕ, ℤ, pos, suc, ◌≤ℤ◌, ◌≡◌, ◌<◌, ◌≤◌, ◌+◌, ◌-◌, ◌*◌, ◌^◌, Bool, true, false, nat_le, if◌then◌else◌, List, [], ◌∷◌}
use Rattle.std.specs.List.{AllPairs}
use Rattle.std.specs.List.Sorted.{IsPermutation}
use lib.IntN.{negsuc}
use Rattle.std.specs.Int.Signed.{lt_z}
use Rattle.mp4_run_order.specs.declared.runs.ListedRun.{ListedRun}

-- a is taken before b: by place, and of two that begin at one place as they are listed
pub record IsTakenBefore (a b : ListedRun) : Type 0 where
  pub place : a.place ≤ℤ b.place
  pub number : a.place ≡ b.place → a.number < b.number

-- the runs in the order in which they are taken
pub record IsTakingOrder (runs taken : List ListedRun) : Type 0 where
  pub same : IsPermutation runs taken
  pub order : AllPairs IsTakenBefore taken

-- a comes before b by track: by track_ID, and of one track as they are listed
pub record IsBeforeByTrack (a b : ListedRun) : Type 0 where
  pub track : a.track ≤ b.track
  pub number : a.track ≡ b.track → a.number < b.number

-- the runs by track
pub record IsTrackOrder (runs sorted : List ListedRun) : Type 0 where
  pub same : IsPermutation runs sorted
  pub order : AllPairs IsBeforeByTrack sorted

-- ---- the same, computed

-- x comes before the first that it may precede
abbrev pub put_by : {X : Type 0} → (X → X → Bool) → X → List X → List X
put_by may x [] = x ∷ []
put_by may x (y ∷ ys) = if may x y then x ∷ y ∷ ys else y ∷ put_by may x ys

-- each comes before the first that it may precede
abbrev pub ordered_by : {X : Type 0} → (X → X → Bool) → List X → List X
ordered_by may [] = []
ordered_by may (x ∷ xs) = put_by may x (ordered_by may xs)

-- a is taken before b, or both begin at one place and have one number
abbrev pub may_precede : ListedRun → ListedRun → Bool
may_precede a b =
    if lt_z a.place b.place then true else if lt_z b.place a.place then false else nat_le a.number b.number

-- these, of which each is some run, in the order in which their runs are taken
abbrev pub taken_by : {X : Type 0} → (X → ListedRun) → List X → List X
taken_by run_of xs = ordered_by (λ a b. may_precede (run_of a) (run_of b)) xs

-- the runs in the order in which they are taken
abbrev pub taken : List ListedRun → List ListedRun
taken runs = taken_by (λ run. run) runs

-- ---- the numbers by which runs are sorted

-- how far a place of 64 bits is from the lowest
abbrev pub from_lowest : ℤ → ℕ
from_lowest (pos n) = 2 ^ 63 + n
from_lowest (negsuc n) = 2 ^ 63 - suc n

-- its number and its place have 64 bits
pub record FitsKeys (run : ListedRun) : Type 0 where
  pub number : run.number < 2 ^ 64
  pub place : negsuc (2 ^ 63 - 1) ≤ℤ run.place

abbrev pub place_key : ListedRun → ℕ
place_key run = from_lowest run.place * 2 ^ 64 + run.number

abbrev pub track_key : ListedRun → ℕ
track_key run = run.track * 2 ^ 64 + run.number
