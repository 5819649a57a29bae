-- The meaning of a fragmented stream for an operation.
use Rattle.std.specs.Prelude.{ℕ, ◌==◌, List, [], ◌∷◌, ◌++◌, max, if◌then◌else◌, Option}
use Rattle.std.specs.List.{sum_by}
use Rattle.std.specs.Option.{option_or}
use Rattle.mp4_box.specs.declared.headers.FourCc.{FourCc}
use Rattle.mp4_box.specs.declared.rules.Fault.{Fault}
use Rattle.mp4_init.specs.declared.table.Track.{Track}
use Rattle.mp4_run_order.specs.Runs.{beyond}
use Rattle.mp4_run_order.specs.declared.runs.Payload.{Payload}
use Rattle.mp4_traf.specs.declared.run.Run.{Run}
use Rattle.mp4_frag.specs.Moofs.{moof_runs, moof_samples, moof_trafs}
use Rattle.mp4_frag.specs.Places.{place_fault}
use Rattle.mp4_frag.specs.RunLists.{taken_runs}
use Rattle.mp4_traf.specs.Runs.{MoofBytes, end_place}
use Rattle.mp4_traf.specs.Settling.{settled}
use Rattle.mp4_machine.specs.Readings.{ArePast, Effects, Extends, accepts}
use Rattle.mp4_machine.specs.declared.tally.Tally.{Tally}

-- a moof and the mdat directly after it, by its payload; with the tracks and the number of the next fragment before them
pub record Fragment : Type 0 where
  pub moof : MoofBytes
  pub tracks : List Track
  pub number : ℕ
  pub payload : Payload

-- ---- what is the same for all operations

-- its runs, in the order in which they are taken
abbrev pub runs_in : Fragment → List Run
runs_in f = taken_runs f.moof f.tracks

-- its counts once its mdat's header is accepted: its samples, and the bytes of their media
abbrev pub counted_in : Fragment → Tally
counted_in f = accepts (moof_samples f.moof) (sum_by (λ (run : Run). run.bytes) (runs_in f))

-- the tracks after it
abbrev pub settled_in : Fragment → List Track
settled_in f = settled f.tracks (moof_trafs f.moof f.tracks)

-- how many bytes from an offset on these runs reach, where they have samples
abbrev pub reach : ℕ → List Run → ℕ
reach start [] = 0
reach start (run ∷ runs) = if run.count == 0 then reach start runs else max (beyond start (end_place run)) (reach start runs)

-- how many bytes of its payload its runs need
abbrev pub needed_in : Fragment → ℕ
needed_in f = reach f.payload.start (runs_in f)

-- ---- what differs

pub record Meaning : Type 0 where
  -- what is written of a moov, once its tracks are known
  pub of_moov : List ℕ → List ℕ
  -- the effects of the first bytes of another box of a type, from its header on
  pub passed : FourCc → List ℕ → Effects
  -- what it refuses of a fragment whose runs may lie where they do
  pub refuses : Fragment → Option Fault
  -- the effects of a fragment at its mdat's header, and then of the first bytes of its payload
  pub accepted : Fragment → Effects
  pub media : Fragment → List ℕ → Effects
  -- the number of the next fragment after it
  pub numbered : Fragment → ℕ

-- the fault of a fragment with a sound moof, after its mdat's header
abbrev pub fragment_fault : Meaning → Fragment → Option Fault
fragment_fault meaning f = option_or (place_fault f.payload (moof_runs f.moof f.tracks)) (meaning.refuses f)

-- each fragment that is marked ends after some text
pub record FragmentEndsPast (meaning : Meaning) : Type 0 where
  pub passed : (kind : FourCc) (b : List ℕ) → ArePast 0 (meaning.passed kind b).fragment_ends
  pub accepted : (f : Fragment) → ArePast 0 (meaning.accepted f).fragment_ends
  pub media : (f : Fragment) (b : List ℕ) → ArePast 0 (meaning.media f b).fragment_ends

-- the effects of media and of other boxes grow with them, and each fragment that is marked has some text
pub record IsGrowing (meaning : Meaning) : Type 0 where
  pub fragment_ends : FragmentEndsPast meaning
  pub media : (f : Fragment) (b x : List ℕ) → Extends (meaning.media f b) (meaning.media f (b ++ x))
  pub passed : (kind : FourCc) (b x : List ℕ) → Extends (meaning.passed kind b) (meaning.passed kind (b ++ x))
