-- Runs of samples, their bytes, and the listing of a moof (ISO/IEC 14496-12, 8.8.8).
use Rattle.std.specs.Prelude.{ℕ, ℤ, pos, ◌-◌, ◌==◌, ◌+ℤ◌, ◌≤ℤ◌, ◌<ℤ◌, ◌≡◌, ◌≢◌, ◌<◌, if◌then◌else◌, List}
use Rattle.std.specs.List.{AllPairs}
use lib.IntN.{negsuc}
use Rattle.mp4_run_order.specs.declared.runs.ListedRun.{ListedRun}

-- the stream offset after its last byte
abbrev pub end_of : ListedRun → ℤ
end_of run = run.place +ℤ pos run.bytes

-- how far a place lies after an offset
abbrev pub beyond : ℕ → ℤ → ℕ
beyond start (pos n) = n - start
beyond start (negsuc n) = 0

-- how many bytes from an offset on a run needs, if it has samples
abbrev pub needed_from : ℕ → ListedRun → ℕ
needed_from start run = if run.count == 0 then 0 else beyond start (end_of run)

-- the byte at this stream offset is one of its samples'
pub record HasByte (run : ListedRun) (offset : ℤ) : Type 0 where
  pub samples : run.count ≢ 0
  pub from : run.place ≤ℤ offset
  pub to : offset <ℤ end_of run

-- no byte is one of both
pub record SharesNoByte (a b : ListedRun) : Type 0 where
  pub no_byte : (offset : ℤ) → HasByte a offset → HasByte b offset → ⊥

-- the run begins no earlier than the end of a, where a has samples and is of its track
pub record IsInTurn (a run : ListedRun) : Type 0 where
  pub in_turn : a.count ≢ 0 → a.track ≡ run.track → end_of a ≤ℤ run.place

-- the runs of a moof, in the order in which it lists them
abbrev pub IsListing : List ListedRun → Type 0
IsListing runs = AllPairs (λ a b. a.number < b.number) runs
