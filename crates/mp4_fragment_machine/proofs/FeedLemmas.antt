-- A machine that takes bytes from the front of the input, by the step that takes them.
use Rattle.std.proofs.Common.{◌≡◌, ◌≤◌, ◌<◌, ℕ, List, length, take, Result, Ok, Err, IfOk, OnOk, OnErr, arith}
use Rattle.mp4_machine.specs.Inputs.{Change, HasNoEffects, Takes, farthest}
use Rattle.mp4_machine.specs.declared.stop.Stop.{Stop}
use Rattle.mp4_machine.proofs.StepLemmas.{Takes-goes, Takes-stops}
use Rattle.mp4_recut.specs.Operations.{operation_meaning, number_in}
use Rattle.mp4_fragment_machine.specs.States.{Progress, continuation_in}
use Rattle.mp4_fragment_machine.specs.Implementation.Feeds.{Feeds, HasFed, seen}
use Rattle.mp4_fragment_machine.specs.Implementation.Steps.{Borrowed, GoesTo, at_state, change_of}
use Rattle.mp4_fragment_machine.specs.declared.state.Carried.{Carried}
use Rattle.mp4_fragment_machine.specs.declared.state.State.{State}
use Rattle.mp4_fragment_machine.proofs.QuietLemmas.{at-place, quiet, reached-most}

-- where a step goes a machine may be fed more
pub fed : (l : Borrowed) (old new : Carried) (from to : State) (input : List ℕ) (n : ℕ) → (0 < n) × (n ≤ length input) × GoesTo l old new (at_state old from) (take n input) to → HasFed (change_of l old new) (seen old from) (seen new to) input n
fed l old new from to input n taken =
    let is = at-place new.operation (number_in new.operation new.counter.tally) new.tracks new.header_bytes to taken.2.state in
    record {
      some = taken.0;
      most = taken.1;
      step = taken.2.step;
      quiet = quiet (operation_meaning new.operation) (at_state new to) is;
      near = reached-most (at_state new to) is;
      operation = taken.2.operation;
    }

-- the clauses of `take` of a machine
abbrev pub Promised : Change → (old new : Progress) → List ℕ → Result ℕ Stop → Type 0
Promised a old new input result = record {
  takes : Takes a (continuation_in old) input (λ n. take n input) (λ _. continuation_in new) result;
  taken : IfOk result (λ n. (0 < n) × (n ≤ length input));
  claim : (continuation_in new).claim ≤ a.after.account.live;
  quiet : OnOk result (HasNoEffects (continuation_in new));
  near : OnOk result ((continuation_in new).reached ≤ farthest);
  spent : OnErr result ((continuation_in new).claim ≡ 0);
  task : new.operation ≡ old.operation;
}

-- they follow from what it took, or from its end
pub promised : {a : Change} {input : List ℕ} (old new : Progress) (result : Result ℕ Stop) → Feeds a old new input result → Promised a old new input result
promised old new (Ok n) f = record { takes = Takes-goes n f.step; taken = (f.some, f.most); claim = f.step.claim; quiet = f.quiet; near = f.near; spent = tt; task = f.operation }
promised old new (Err e) f = record { takes = Takes-stops e f.step; taken = tt; claim = omega (arith, f.spent); quiet = tt; near = tt; spent = f.spent; task = f.operation }
