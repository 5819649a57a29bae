-- Only the code's own way; no public clause needs this.
-- A traf while its runs are gone over.
use Rattle.std.specs.Prelude.{ℕ, List}
use Rattle.mp4_box.specs.declared.box_ref.BoxRef.{BoxRef}
use Rattle.mp4_box.specs.Trees.{Box, children, view}
use Rattle.mp4_box.specs.Paths.{of_kind}
use Rattle.mp4_traf.specs.declared.run.Run.{Run}
use Rattle.mp4_traf.specs.declared.runs.RunStart.{RunStart}
use Rattle.mp4_traf.specs.declared.traf.TrafContext.{TrafContext}
use Rattle.mp4_traf.specs.Kinds.{trun}
use Rattle.mp4_traf.specs.Runs.{Shared, TrackFragment, runs_from}

-- a context, without where its bytes lie in memory
abbrev pub shared_of : TrafContext → Shared
shared_of c = record { moof = record { bytes = c.moof_bytes.now; offset = c.moof }; header = c.header; ends_at = c.ends_at }

-- the runs of the truns that are left, after the runs so far
abbrev pub runs_left : TrafContext → RunStart → List Box → List Run
runs_left c run_start bs = runs_from (shared_of c) run_start.time run_start.place (of_kind trun bs)

-- a traf, of which this is the box
abbrev pub track_fragment : TrafContext → ℕ → BoxRef → TrackFragment
track_fragment c time b = record { shared = shared_of c; time = time; truns = of_kind trun (children (view b)) }
