-- Where the trafs of a moof end, kept for the first of them, and how many of its samples have durations of their own.
use Rattle.std.specs.Prelude.{◌≡◌, ℕ, List, map, take}
use Rattle.mp4_init.specs.declared.table.Track.{Track}
use Rattle.mp4_frag.specs.declared.traf_ends.TrafEnd.{TrafEnd}
use Rattle.mp4_frag.specs.declared.traf_ends.TrafEnds.{TrafEnds}
use Rattle.mp4_frag.specs.Moofs.{moof_of, moof_trafs}
use Rattle.mp4_traf.specs.Runs.{MoofBytes, TrackFragment, end_of}
use Rattle.mp4_traf.specs.Settling.{timed_of, with_end}

-- for how many trafs the ends are kept
abbrev pub few_trafs : ℕ
few_trafs = 4

-- the track of a traf, and where the traf ends
abbrev pub traf_end : TrackFragment → TrafEnd
traf_end t = record { track = t.shared.header.track; time = end_of t }

-- these are kept of a moof
pub record AreEndsOf (e : TrafEnds) (h : MoofBytes) (tracks : List Track) : Type 0 where
  pub ends : e.ends.items ≡ take few_trafs (map traf_end (moof_trafs h tracks))
  pub timed : e.timed ≡ timed_of (moof_of h)

-- after such a traf its track has ended there
abbrev pub ended_by : List Track → TrafEnd → List Track
ended_by tracks e = with_end e.track e.time tracks
