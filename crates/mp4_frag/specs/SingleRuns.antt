-- A moof that has just one run.
use Rattle.std.specs.Prelude.{◌≡◌, ◌+◌, ◌*◌, ◌<◌, List, [], ◌∷◌, length, Option, None, Some, Result, Ok, Err, OnErr}
use Rattle.mp4_box.specs.Order.{least}
use Rattle.mp4_box.specs.declared.rules.Fault.{Fault}
use Rattle.mp4_init.specs.Tracks.{with_next}
use Rattle.mp4_init.specs.declared.table.Track.{Track}
use Rattle.mp4_frag.specs.Moofs.{IsRead, fault_before_times, moof_runs, moof_samples, moof_trafs, sequence_of, time_faults}
use Rattle.mp4_traf.specs.Ranges.{InRange}
use Rattle.mp4_traf.specs.Runs.{MoofBytes}
use Rattle.mp4_traf.specs.Settling.{settled}
use Rattle.mp4_traf.specs.declared.rows.Steps.{Steps}
use Rattle.mp4_frag.specs.declared.single_run.SingleRun.{SingleRun}

-- the moof was read with these tracks, and has this sequence_number and one traf, and in it just this run, after which the track at its
-- index ends
pub record IsSingle (h : MoofBytes) (tracks : List Track) (l : SingleRun) : Type 0 where
  pub read : IsRead h tracks
  pub traf : length (moof_trafs h tracks) ≡ 1
  pub run : moof_runs h tracks ≡ l.run ∷ []
  pub range : InRange l.run
  pub samples : l.run.count ≡ moof_samples h
  pub sequence : l.sequence ≡ sequence_of h
  pub known : l.track < length tracks
  pub ends : settled tracks (moof_trafs h tracks) ≡ with_next l.track l.run.end tracks

-- a moof was read by its single run, where it is valid and has one; a fault is one of times, where it has no other. The samples of a run
-- that was read are counted twice, those of a fault once
pub record ReadsSingleRun (h : MoofBytes) (tracks : List Track) (old new : Steps) (result : Result (Option SingleRun) Fault) : Type 0 where
  pub single_run : (l : SingleRun) → result ≡ Ok (Some l) → IsSingle h tracks l
  pub none : IsRead h tracks → length (moof_trafs h tracks) ≡ 1 → length (moof_runs h tracks) ≡ 1 → (l : SingleRun) × (result ≡ Ok (Some l))
  pub late : (f : Fault) → result ≡ Err f → (fault_before_times h tracks ≡ None) × (least (time_faults (moof_trafs h tracks)) ≡ Some f)
  pub rows_read : (l : SingleRun) → result ≡ Ok (Some l) → new.rows ≡ old.rows + 2 * moof_samples h
  pub unread : result ≡ Ok None → new ≡ old
  pub refused : OnErr result (new.rows ≡ old.rows + moof_samples h)
