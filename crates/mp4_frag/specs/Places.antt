-- Which run of a moof is at fault by its place: the rule RunPlace.
use Rattle.std.specs.Prelude.{ℕ, ◌≡◌, List, map, option_map, Option, Some, None}
use Rattle.mp4_box.specs.declared.rules.Fault.{Fault}
use Rattle.mp4_box.specs.declared.rules.Rule.TheVariants.{RunPlace}
use Rattle.mp4_run_order.specs.declared.runs.ListedRun.{ListedRun}
use Rattle.mp4_run_order.specs.declared.runs.Payload.{Payload}
use Rattle.mp4_run_order.specs.Places.{IsFirstOffender, Placed, first_offender}
use Rattle.mp4_traf.specs.declared.run.Run.{Run}
use Rattle.mp4_traf.specs.Kinds.{trun}

abbrev pub listed_run : Run → ListedRun
listed_run run = record { number = run.offset; track = run.track; count = run.count; place = run.place; bytes = run.bytes }

-- fault of the trun that begins at this offset and may not lie where it does
abbrev pub run_place_fault : ℕ → Fault
run_place_fault offset = record { rule = RunPlace; kind = Some trun; offset = offset }

-- the fault of the first run in the listing that may not lie where it does, where there is one
abbrev pub place_fault : Payload → List Run → Option Fault
place_fault payload runs = option_map (λ run. run_place_fault run.number) (first_offender payload (map listed_run runs))

-- the fault is that of the first run in the listing that is at fault
pub record IsMisplaced (payload : Payload) (runs : List ListedRun) (fault : Fault) : Type 0 where
  pub run : ListedRun
  pub first : IsFirstOffender payload runs run
  pub is : fault ≡ run_place_fault run.number

-- the result: that fault, or none where all runs may lie where they do
abbrev pub IsPlaceFault : Payload → List ListedRun → Option Fault → Type 0
IsPlaceFault payload runs None = Placed payload runs
IsPlaceFault payload runs (Some fault) = IsMisplaced payload runs fault
