-- Which runs of a traf end past 64 bits.
use Rattle.std.specs.Prelude.{List, [], ◌∷◌, ◌^◌, nat_lt, if◌then◌else◌, Some}
use Rattle.std.specs.List.{flat_map}
use Rattle.mp4_box.specs.declared.rules.Fault.{Fault}
use Rattle.mp4_box.specs.declared.rules.Rule.TheVariants.{TimeRange}
use Rattle.mp4_traf.specs.Kinds.{trun}
use Rattle.mp4_traf.specs.Runs.{TrackFragment, runs_of}
use Rattle.mp4_traf.specs.declared.run.Run.{Run}

-- the fault of a run that ends past 64 bits: its trun
abbrev pub late_fault : Run → Fault
late_fault run = record { rule = TimeRange; kind = Some trun; offset = run.offset }

abbrev pub late : Run → List Fault
late run = if nat_lt run.end (2 ^ 64) then [] else late_fault run ∷ []

-- the truns of a traf whose runs end past 64 bits
abbrev pub time_faults_of : TrackFragment → List Fault
time_faults_of t = flat_map late (runs_of t)
