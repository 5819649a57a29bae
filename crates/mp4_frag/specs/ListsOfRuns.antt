-- A list of the runs of a moof.
use Rattle.std.specs.Prelude.{◌≡◌, List}
use Rattle.mp4_init.specs.declared.table.Track.{Track}
use Rattle.mp4_frag.specs.RunLists.{ListedRows, listed_runs, taken_runs}
use Rattle.mp4_traf.specs.Runs.{MoofBytes}
use Rattle.mp4_frag.specs.Implementation.ListedRows.{AreOrdered}

-- its runs are those of the moof with these tracks, by their offset. What it keeps of their order no caller needs
pub record IsListOf (h : MoofBytes) (tracks : List Track) (l : ListedRows) : Type 0 where
  pub runs : listed_runs h tracks l ≡ taken_runs h tracks
  pub ordered : AreOrdered h tracks l
