-- The visible part of a ledger, and of the memory that is claimed from it.
use Rattle.std.specs.Prelude.{ℕ, ◌+◌, ◌-◌, ◌*◌, List, ◌++◌, length, take, drop, replicate, max, Option, Some, None}

-- the limit in bytes, how many bytes are claimed, and the most that were claimed at once since the last mark
pub record Account : Type 0 where
  pub limit : ℕ
  pub live : ℕ
  pub peak : ℕ

-- a buffer: its bytes and its capacity
pub record Bytes : Type 0 where
  pub bytes : List ℕ
  pub cap : ℕ

-- a table: its rows of eight numbers and its capacity
pub record Rows : Type 0 where
  pub rows : List (List ℕ)
  pub cap : ℕ

-- an account after a claim of n bytes
abbrev pub claimed : Account → ℕ → Account
claimed a n = record a { live = a.live + n; peak = max a.peak (a.live + n) }

-- an account after n bytes were given back
abbrev pub given_back : Account → ℕ → Account
given_back a n = record a { live = a.live - n }

-- an account with another limit, but no lower than what is claimed; its peak counts from there
abbrev pub limited : Account → ℕ → Account
limited a n = record { limit = max n a.live; live = a.live; peak = a.live }

-- xs cut to the length n, or filled up to it with zeros
abbrev pub fitted : List ℕ → ℕ → List ℕ
fitted xs n = take n xs ++ replicate (n - length xs) 0

-- xs once w was written over it: w where the lengths are equal
abbrev pub overwritten : {X : Type 0} → List X → List X → List X
overwritten xs w = take (length xs) (w ++ drop (length w) xs)

-- how many bytes a buffer and a table have claimed, if there is one
abbrev pub bytes_out : Option Bytes → ℕ
bytes_out None = 0
bytes_out (Some b) = b.cap

abbrev pub rows_out : Option Rows → ℕ
rows_out None = 0
rows_out (Some t) = 64 * t.cap
