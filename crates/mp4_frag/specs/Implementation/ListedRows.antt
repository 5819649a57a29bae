-- Only the code's own way; no public clause needs this.
-- The rows in which a list keeps the runs of a moof, and what was found in them.
use Rattle.std.specs.Prelude.{ℕ, ◌≡◌, List, map, Option}
use Rattle.std.specs.List.Sorted.{IsNonDecreasingBy, IsPermutation}
use Rattle.mp4_init.specs.declared.table.Track.{Track}
use Rattle.mp4_run_order.specs.declared.runs.ListedRun.{ListedRun}
use Rattle.mp4_run_order.specs.Orders.{IsTrackOrder, taken}
use Rattle.mp4_run_order.specs.Runs.{IsListing}
use Rattle.mp4_run_order.specs.Implementation.Searches.{found_by_track}
use Rattle.mp4_traf.specs.Runs.{MoofBytes}
use Rattle.mp4_frag.specs.Implementation.RunRows.{listed_row, listed_words, place_word, track_word}
use Rattle.mp4_frag.specs.RunLists.{ListedRows, moof_listing}

-- what was found by track in these runs
pub record IsFoundByTrack (runs : List ListedRun) (faulty_by_track : Option ℕ) : Type 0 where
  pub sorted : List ListedRun
  pub order : IsTrackOrder runs sorted
  pub is : faulty_by_track ≡ found_by_track sorted

-- it was found by track in rows of these numbers
pub record IsFaultyByTrack (words : List (List ℕ)) (faulty_by_track : Option ℕ) : Type 0 where
  pub sorted : List (List ℕ)
  pub same : IsPermutation words sorted
  pub up : IsNonDecreasingBy track_word sorted
  pub is : faulty_by_track ≡ found_by_track (listed_words sorted)

-- the numbers of the same rows, sorted by place
pub record IsSorted (words sorted : List (List ℕ)) : Type 0 where
  pub same : IsPermutation words sorted
  pub up : IsNonDecreasingBy place_word sorted

-- the rows have the places of the runs of the moof, and what was found by track was found in these
pub record AreOrdered (h : MoofBytes) (tracks : List Track) (l : ListedRows) : Type 0 where
  pub listing : IsListing (moof_listing h tracks)
  pub taken : map listed_row l.rows ≡ taken (moof_listing h tracks)
  pub faulty_by_track : IsFoundByTrack (moof_listing h tracks) l.faulty_by_track
