-- Properties of runs in taking order, and runs that keep a stricter rule.
use Rattle.std.specs.Prelude.{ℕ, ◌≤ℤ◌, ◌≡◌, ◌≢◌, ◌<◌, ◌==◌, Bool, not, ◌&&◌, List}
use Rattle.std.specs.List.{All, AllPairs, filter}
use Rattle.mp4_run_order.specs.declared.runs.ListedRun.{ListedRun}
use Rattle.mp4_run_order.specs.declared.runs.Payload.{Payload}
use Rattle.mp4_run_order.specs.Runs.{end_of}
use Rattle.mp4_run_order.specs.Places.{LiesIn}

abbrev pub has_samples : ListedRun → Bool
has_samples run = not (run.count == 0)

abbrev pub has_bytes : ListedRun → Bool
has_bytes run = has_samples run && not (run.bytes == 0)

-- it has samples, and is of the track
abbrev pub has_samples_of : ℕ → ListedRun → Bool
has_samples_of track run = has_samples run && (run.track == track)

-- each run with bytes ends before the later ones begin, all with samples lie in the payload, and those of a track are taken as they are listed
pub record IsTakenWell (payload : Payload) (runs taken : List ListedRun) : Type 0 where
  pub ascend : AllPairs (λ a b. end_of a ≤ℤ b.place) (filter has_bytes taken)
  pub lie : All (LiesIn payload) (filter has_samples taken)
  pub turns : (track : ℕ) → filter (has_samples_of track) taken ≡ filter (has_samples_of track) runs

-- ---- a stricter rule: no run with samples begins before the end of one that is listed earlier

pub record Follows (payload : Payload) (runs : List ListedRun) (run : ListedRun) : Type 0 where
  pub lies : LiesIn payload run
  pub after : All (λ a. a.number < run.number → a.count ≢ 0 → end_of a ≤ℤ run.place) runs

abbrev pub AllFollow : Payload → List ListedRun → Type 0
AllFollow payload runs = All (λ run. run.count ≢ 0 → Follows payload runs run) runs
