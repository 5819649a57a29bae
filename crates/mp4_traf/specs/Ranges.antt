-- Bounds of the numbers of the runs of a moof without a fault.
use Rattle.std.specs.Prelude.{◌≡◌, ℕ, List, pos, ◌≤◌, ◌<◌, ◌+◌, ◌^◌, ◌+ℤ◌, ◌≤ℤ◌, ◌<ℤ◌}
use Rattle.std.specs.List.{AllByRecursion}
use Rattle.mp4_box.specs.Headers.{IsBytes}
use Rattle.mp4_box.specs.Trees.{Box}
use Rattle.mp4_traf.specs.declared.run.Run.{Run}
use Rattle.mp4_traf.specs.Rows.{durations, rows_of, sizes}
use Rattle.mp4_traf.specs.Rules.{most_in_moof, samples_in}
use Rattle.mp4_traf.specs.Runs.{TrackFragment, end_place, runs_of}

-- the run ends within 64 bits, and its samples lie from 2^31 bytes before the stream on, and end before byte 2^63
pub record InRange (run : Run) : Type 0 where
  pub end : run.end < 2 ^ 64
  pub low : pos 0 ≤ℤ (run.place +ℤ pos (2 ^ 31))
  pub high : end_place run <ℤ pos (2 ^ 63)

-- a run of a moof that was read, of which these are the bytes
pub record IsRunOf (moof_bytes : List ℕ) (run : Run) : Type 0 where
  pub few : run.count ≤ most_in_moof
  pub end : run.end ≡ run.time + durations (rows_of run moof_bytes)
  pub bytes : run.bytes ≡ sizes (rows_of run moof_bytes)
  pub range : InRange run

-- the same for all of these, and the default size has 32 bits
abbrev pub AreRunsOf : List ℕ → List Run → Type 0
AreRunsOf moof_bytes runs = AllByRecursion (λ run. run.size < 2 ^ 32 → IsRunOf moof_bytes run) runs

-- bounds of each traf of a moof without a fault
pub record IsSound (t : TrackFragment) : Type 0 where
  pub near : t.shared.moof.offset ≤ 2 ^ 62
  pub moof_bytes : IsBytes t.shared.moof.bytes
  pub truns : AllByRecursion (λ (b : Box). IsBytes b.payload) t.truns
  pub few : samples_in t.truns ≤ most_in_moof
  pub ends : AllByRecursion (λ (run : Run). run.end < 2 ^ 64) (runs_of t)
