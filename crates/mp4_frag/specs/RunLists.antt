-- The runs of a moof in the order in which they are taken, in a list, and which of them is at fault.
use Rattle.std.specs.Prelude.{ℕ, List, Option, map}
use Rattle.mp4_init.specs.declared.table.Track.{Track}
use Rattle.mp4_run_order.specs.declared.runs.ListedRun.{ListedRun}
use Rattle.mp4_run_order.specs.Orders.{taken_by}
use Rattle.mp4_traf.specs.declared.run.Run.{Run}
use Rattle.mp4_frag.specs.declared.run_list.run_row.RunRow.{RunRow}
use Rattle.mp4_frag.specs.Moofs.{moof_runs}
use Rattle.mp4_traf.specs.Runs.{MoofBytes}
use Rattle.mp4_frag.specs.Places.{listed_run}
use Rattle.mp4_frag.specs.Implementation.Rereads.{run_of_row}

-- the runs of a moof as the rule of their places sees them, in listing order
abbrev pub moof_listing : MoofBytes → List Track → List ListedRun
moof_listing h tracks = map listed_run (moof_runs h tracks)

-- the runs of a moof in the order in which they are taken: by place, and those at one place as the moof lists them
abbrev pub taken_runs : MoofBytes → List Track → List Run
taken_runs h tracks = taken_by listed_run (moof_runs h tracks)

-- the visible part of a list: a row for each run, and what was found while they were sorted
pub record ListedRows : Type 0 where
  pub rows : List RunRow
  pub faulty_by_track : Option ℕ

-- the runs of a list: each is read again from the bytes of its moof, by its row
abbrev pub listed_runs : MoofBytes → List Track → ListedRows → List Run
listed_runs h tracks l = map (run_of_row h tracks) l.rows
