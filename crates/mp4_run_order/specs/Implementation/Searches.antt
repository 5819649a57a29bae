-- Only the code's own way; of the public clauses only those of the two searches need this.
-- The search for the first run at fault: a pass over the runs by track, and then one over the runs in taking order.
use Rattle.std.specs.Prelude.{ℕ, ◌==◌, Bool, true, false, not, ◌&&◌, nat_lt, if◌then◌else◌, List, Option, Some, None}
use Rattle.std.specs.List.{fold}
use Rattle.std.specs.Int.Signed.{lt_z}
use Rattle.mp4_run_order.specs.declared.runs.ListedRun.{ListedRun}
use Rattle.mp4_run_order.specs.declared.runs.Payload.{Payload}
use Rattle.mp4_run_order.specs.declared.track_search.TrackSearch.{TrackSearch}
use Rattle.mp4_run_order.specs.declared.place_search.PlaceSearch.{PlaceSearch}
use Rattle.mp4_run_order.specs.Runs.{end_of}
use Rattle.mp4_run_order.specs.Places.{lies_in, overtakes}

-- the number is lower than the other, if there is one
abbrev pub is_below : ℕ → Option ℕ → Bool
is_below number None = true
is_below number (Some other) = nat_lt number other

-- the lower of a number and another, if there is one
abbrev pub lower_of : ℕ → Option ℕ → ℕ
lower_of number None = number
lower_of number (Some other) = if nat_lt other number then other else number

-- ---- by track

abbrev pub track_start : TrackSearch
track_start = record { offender = None; last = None }

-- it begins before the end of the last run, and is of its track
abbrev pub overtakes_last : Option ListedRun → ListedRun → Bool
overtakes_last None run = false
overtakes_last (Some last) run = overtakes run last

-- after one more run
abbrev pub track_step : TrackSearch → ListedRun → TrackSearch
track_step s run =
    if run.count == 0 then s
    else if overtakes_last s.last run then record s { offender = Some (lower_of run.number s.offender) }
    else record s { last = Some run }

-- result of a pass over these
abbrev pub found_by_track : List ListedRun → Option ℕ
found_by_track runs = (fold track_step track_start runs).offender

-- ---- in taking order

abbrev pub place_start : Payload → Option ℕ → PlaceSearch
place_start payload offender = record { payload = payload; offender = offender; last = None }

-- it has samples, and none that is listed earlier was found
abbrev pub may_be_first : Option ℕ → ListedRun → Bool
may_be_first offender run = not (run.count == 0) && is_below run.number offender

-- after a run that shares a byte with the last one: the one that is listed later is at fault
abbrev pub shared_step : PlaceSearch → ListedRun → ListedRun → PlaceSearch
shared_step s last run =
    if nat_lt last.number run.number then record s { offender = Some run.number }
    else record s { offender = Some (lower_of last.number s.offender); last = Some run }

-- after a run with bytes that lies in the payload
abbrev pub bytes_step : PlaceSearch → Option ListedRun → ListedRun → PlaceSearch
bytes_step s None run = record s { last = Some run }
bytes_step s (Some last) run =
    if lt_z run.place (end_of last) then shared_step s last run else record s { last = Some run }

-- after one more run
abbrev pub place_step : PlaceSearch → ListedRun → PlaceSearch
place_step s run =
    if not (may_be_first s.offender run) then s
    else if not (lies_in s.payload run) then record s { offender = Some run.number }
    else if run.bytes == 0 then s
    else bytes_step s s.last run

-- result of a pass over these, with what was found by track
abbrev pub found_by_place : Payload → Option ℕ → List ListedRun → Option ℕ
found_by_place payload offender runs = (fold place_step (place_start payload offender) runs).offender
