-- Only the code's own way; no public clause needs this.
-- Runs that follow one another as they are listed.
use Rattle.std.specs.Prelude.{ℕ, ℤ, Option, Some, None, Bool, true, ◌==◌, ◌&&◌, ◌||◌, if◌then◌else◌, List, [], ◌∷◌, map}
use Rattle.std.specs.Int.Signed.{le_z}
use Rattle.std.specs.List.{flat_map}
use Rattle.mp4_box.specs.Trees.{Box}
use Rattle.mp4_init.specs.declared.table.Track.{Track}
use Rattle.mp4_run_order.specs.declared.runs.Payload.{Payload}
use Rattle.mp4_run_order.specs.Places.{lies_in}
use Rattle.mp4_traf.specs.declared.run.Run.{Run}
use Rattle.mp4_frag.specs.Places.{listed_run}
use Rattle.mp4_frag.specs.declared.traf_ends.TrafEnd.{TrafEnd}
use Rattle.mp4_traf.specs.Runs.{MoofBytes, end_place, runs_of, traf_of}
use Rattle.mp4_frag.specs.TrafEnds.{traf_end}

-- a run has no samples, or begins at a place or after it, and lies in the payload
unfoldable pub follows : Payload → ℤ → Run → Bool
follows p place run = run.count == 0 || (le_z place run.place && lies_in p (listed_run run))

-- end of the runs with one more
unfoldable pub past_run : ℤ → Run → ℤ
past_run place run = if run.count == 0 then place else end_place run

-- each of these runs follows those before it
unfoldable pub all_follow : Payload → ℤ → List Run → Bool
all_follow p place [] = true
all_follow p place (run ∷ runs) = follows p place run && all_follow p (past_run place run) runs

-- the end of these runs
unfoldable pub past_runs : ℤ → List Run → ℤ
past_runs place [] = place
past_runs place (run ∷ runs) = past_runs (past_run place run) runs

-- the bytes of a run, where it has samples
unfoldable pub bytes_with : Run → ℕ
bytes_with run = if run.count == 0 then 0 else run.bytes

-- the runs of some trafs of a moof
abbrev pub runs_of_trafs : MoofBytes → List Track → List Box → List Run
runs_of_trafs h tracks ts = flat_map runs_of (map (traf_of h tracks) ts)

-- where some trafs of a moof end
abbrev pub ends_by : MoofBytes → List Track → List Box → List TrafEnd
ends_by h tracks ts = map traf_end (map (traf_of h tracks) ts)

-- how many samples of a run have durations of their own
abbrev pub count_if : Option ℕ → ℕ → ℕ
count_if None count = 0
count_if (Some at) count = count

abbrev pub timed_run : Run → ℕ
timed_run run = count_if run.fields.sample_duration run.count
