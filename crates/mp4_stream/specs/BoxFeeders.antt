-- What a BoxFeeder is after the bytes of a stream that it was fed, and what a call of it does.
use Rattle.std.specs.Prelude.{◌≡◌, ℕ, ◌+◌, ◌-◌, ◌≤◌, List, ◌++◌, None, Result, Ok, Err, IsErrOf, OnOk}
use Rattle.std.specs.Io.KnownBytes.{Appends}
use Rattle.mp4_boxes.specs.Boxes.{listing, reading}
use Rattle.mp4_boxes.specs.HeldBoxes.{HoldsAtMost}
use Rattle.mp4_boxes.specs.States.{Progress, continuation_in}
use Rattle.mp4_ledger.specs.Memory.{Account}
use Rattle.mp4_machine.specs.Ends.{Sent}
use Rattle.mp4_machine.specs.Fed.{Borrowed}
use Rattle.mp4_machine.specs.FedMachines.{Fed, Shown}
use Rattle.mp4_machine.specs.FedMachines as machines
use Rattle.mp4_machine.specs.Readings.{fault_in, most_of, uncounted}
use Rattle.mp4_machine.specs.declared.stop.Stop.{Stop}
use Rattle.mp4_machine.specs.declared.stop.Stop.TheVariants.{OverLimit}
use Rattle.mp4_stream.specs.declared.totals.Totals.{Totals}

-- ---- what a BoxFeeder is

-- what its machine shows, which counts nothing
abbrev pub shown : Fed Progress → Shown
shown f = machines.shown continuation_in (λ m. uncounted) f

-- how many bytes it has claimed: those of a moov or moof that it holds
abbrev pub held_by : Fed Progress → ℕ
held_by f = (continuation_in f.machine).claim

-- its totals
abbrev pub totals_of : Fed Progress → Totals
totals_of f = record { fragments = 0; samples = 0; media_bytes = 0; rows_read = 0; peak = f.peak }

-- after the bytes b of a stream, in whatever inputs they came: its machine is
abbrev pub IsAfter : Fed Progress → List ℕ → Type 0
IsAfter f b = machines.IsAfter (reading 0) (shown f) b

-- ---- what a call does

-- where each moov and each moof that the bytes hold has at most so many bytes. It never has more claimed than that, and is
-- never over a limit that allows so much in addition to what others have
pub record ClaimsWithin {T : Type 0} (b : List ℕ) (peak others limit : ℕ) (result : Result T Stop) : Type 0 where
  pub most : (largest : ℕ) → HoldsAtMost 0 b largest → peak ≤ largest
  pub enough : (largest : ℕ) → HoldsAtMost 0 b largest → others + largest ≤ limit → IsErrOf result OverLimit → ⊥

-- the lines that the input adds to the listing of the bytes b were written
pub record ListsRest (b input : List ℕ) (l : Borrowed) : Type 0 where
  pub lines : List ℕ
  pub listed : listing (b ++ input) ≡ listing b ++ lines
  pub text : Appends l.written l.written' lines

-- a BoxFeeder after the bytes b is fed the input, as its machine is: Ok where no fault is decided, and then the listing is
-- that of all these bytes; else it stops. And what it claims, by the largest boxes
pub record Feeds {T : Type 0} (b input : List ℕ) (f f' : Fed Progress) (l : Borrowed) (result : Result T Stop) : Type 0 where
  pub fed : machines.Feeds (reading 0) b input (shown f) (shown f') l result
  pub lists : OnOk result (ListsRest b input l)
  pub claims : ClaimsWithin (b ++ input) f'.peak (l.account.live - held_by f) l.account.limit result

-- a call feeds it the input, whatever bytes it is after: its stop, and what is claimed, are as for any machine that is fed
abbrev pub TakesInput : {T : Type 0} → (f f' : Fed Progress) → Sent → (account account' : Account) → (input : List ℕ) → Result T Stop → Type 0
TakesInput f f' s account account' input result = machines.FeedsInput {X = Unit {0}} (shown f) (shown f') tt tt s account account' input result

-- totals of a stream of the bytes b: nothing is counted, and the most that is claimed at once is what their boxes request
abbrev pub totals_after : List ℕ → Totals
totals_after b = record { fragments = 0; samples = 0; media_bytes = 0; rows_read = 0; peak = most_of (reading 0 b).effects }

-- the end of a stream of the bytes b: Ok exactly where it has no fault, with its totals
abbrev pub Finishes : List ℕ → Result Totals Stop → Type 0
Finishes b (Ok totals) = (fault_in (reading 0 b).outcome ≡ None) × (totals ≡ totals_after b)
Finishes b (Err stop) = machines.Finishes {T = Totals} (reading 0) b (Err stop)
