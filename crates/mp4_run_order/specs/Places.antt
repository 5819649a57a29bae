-- Where the runs of a moof may lie: the rule RunPlace.
use Rattle.std.specs.Prelude.{ℕ, pos, ◌≤ℤ◌, ◌≢◌, ◌<◌, ◌==◌, Bool, true, not, ◌&&◌, ◌||◌, nat_lt, List, Option, Some, None, IfSome}
use Rattle.std.specs.List.{All, Contains, find, list_all}
use Rattle.std.specs.Int.Signed.{le_z, lt_z}
use Rattle.mp4_run_order.specs.declared.runs.ListedRun.{ListedRun}
use Rattle.mp4_run_order.specs.declared.runs.Payload.{Payload}
use Rattle.mp4_run_order.specs.Runs.{end_of, SharesNoByte, IsInTurn}

-- from the first byte of the payload on, and up to its end, where it has one
pub record LiesIn (payload : Payload) (run : ListedRun) : Type 0 where
  pub from : pos payload.start ≤ℤ run.place
  pub to : IfSome payload.end (λ end. end_of run ≤ℤ pos end)

-- it lies in the payload, shares no byte with a run that is listed earlier, and begins no earlier than such a run of its track ends
pub record IsPlaced (payload : Payload) (runs : List ListedRun) (run : ListedRun) : Type 0 where
  pub lies : LiesIn payload run
  pub apart : All (λ a. a.number < run.number → SharesNoByte a run) runs
  pub in_turn : All (λ a. a.number < run.number → IsInTurn a run) runs

-- a run without samples may lie anywhere
abbrev pub MayBePlaced : Payload → List ListedRun → ListedRun → Type 0
MayBePlaced payload runs run = run.count ≢ 0 → IsPlaced payload runs run

-- no run of the moof is at fault
abbrev pub Placed : Payload → List ListedRun → Type 0
Placed payload runs = All (MayBePlaced payload runs) runs

-- the first in the listing that is at fault
pub record IsFirstOffender (payload : Payload) (runs : List ListedRun) (run : ListedRun) : Type 0 where
  pub listed : Contains runs run
  pub offends : MayBePlaced payload runs run → ⊥
  pub first : All (λ a. a.number < run.number → MayBePlaced payload runs a) runs

-- ---- the same, computed

abbrev pub ends_by : Option ℕ → ListedRun → Bool
ends_by None run = true
ends_by (Some end) run = le_z (end_of run) (pos end)

abbrev pub lies_in : Payload → ListedRun → Bool
lies_in payload run = le_z (pos payload.start) run.place && ends_by payload.end run

-- each begins before the other ends, and neither is without bytes
abbrev pub shares : ListedRun → ListedRun → Bool
shares a b =
    not (a.count == 0) && (not (a.bytes == 0) && (not (b.bytes == 0) && (lt_z a.place (end_of b) && lt_z b.place (end_of a))))

-- it begins before the end of a, which has samples and is of its track
abbrev pub overtakes : ListedRun → ListedRun → Bool
overtakes run a = not (a.count == 0) && (a.track == run.track && lt_z run.place (end_of a))

abbrev pub may_be_placed : Payload → List ListedRun → ListedRun → Bool
may_be_placed payload runs run =
    run.count == 0
    || (lies_in payload run && list_all (λ a. not (nat_lt a.number run.number && (shares a run || overtakes run a))) runs)

-- the first in the listing that is at fault, where one is
abbrev pub first_offender : Payload → List ListedRun → Option ListedRun
first_offender payload runs = find (λ run. not (may_be_placed payload runs run)) runs

-- the result: the first that is at fault, or none where none is
abbrev pub IsOffender : Payload → List ListedRun → Option ListedRun → Type 0
IsOffender payload runs None = Placed payload runs
IsOffender payload runs (Some run) = IsFirstOffender payload runs run
