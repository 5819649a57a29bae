-- The end of a body that is passed over, and of the moof that is pending there.
use Rattle.std.proofs.Common.{◌≡◌, ℕ, ◌+◌, ◌*◌, ◌≤◌, List, [], None, Some, ap, arith, length, refl}
use Rattle.mp4_box.specs.declared.headers.FourCc.{FourCc}
use Rattle.mp4_init.specs.declared.table.Track.{Track}
use Rattle.mp4_frag.specs.Moofs.{moof_samples, moof_trafs}
use Rattle.mp4_traf.specs.Settling.{settled}
use Rattle.mp4_ledger.specs.Memory.{Account, given_back}
use Rattle.mp4_machine.specs.Bodies.{longest}
use Rattle.mp4_machine.specs.Inputs.{environment}
use Rattle.mp4_machine.specs.Readings.{no_effects}
use Rattle.mp4_machine.proofs.ContinuationLemmas.{GoesOn-over}
use Rattle.mp4_machine.proofs.InputLemmas.{Moves-none}
use Rattle.mp4_grammar.specs.Contexts.{table_of}
use Rattle.mp4_grammar.specs.Items.{reads_in}
use Rattle.mp4_recut.specs.Operations.{number_in, operation_meaning}
use Rattle.mp4_fragment_machine.specs.Places.{InBody, InHeader, Untouched, continuation_at}
use Rattle.mp4_fragment_machine.specs.States.{IsCounted, after_body, claimed_in, moof_in}
use Rattle.mp4_fragment_machine.specs.Implementation.Steps.{GoesTo, ledger_alone}
use Rattle.mp4_fragment_machine.specs.declared.state.Carried.{Carried}
use Rattle.mp4_fragment_machine.specs.declared.counter.Counter.{Counter}
use Rattle.mp4_fragment_machine.specs.declared.pending_moof.PendingMoof.{PendingMoof}
use Rattle.mp4_fragment_machine.specs.declared.state.State.TheVariants as states
use Rattle.mp4_fragment_machine.proofs.BodyLemmas.{Moves-settled}
use Rattle.mp4_fragment_machine.proofs.CountLemmas.{counted_ended}
use Rattle.mp4_fragment_machine.proofs.StepLemmas.{no_head}

-- no moof is pending
pub GoesTo-over : (u : Untouched) (a : Account) (k : Carried) (next at left : ℕ) (kind : FourCc) → left ≡ 0 → next ≤ longest → k.header_bytes ≡ [] → claimed_in k.tracks None ≤ a.live → IsCounted k.operation k.counter next 0 0
    → GoesTo (ledger_alone u a a) k k (InBody (λ _. no_effects) at kind (after_body (number_in k.operation k.counter.tally) k.tracks None next) left (claimed_in k.tracks None)) [] (states.Header next)
GoesTo-over u a k next at left kind none near empty claim counted =
    let o = environment u.written u.waiting a k.counter.tally in
    let meaning = operation_meaning k.operation in
    let number = number_in k.operation k.counter.tally in
    rw empty (record {
      step = record {
        goes = GoesOn-over (reads_in meaning) (λ end. after_body number k.tracks None end) (table_of k.tracks) o at kind o (λ _. no_effects) next left (continuation_at meaning (InHeader (after_body number k.tracks None next) [])) none refl (Moves-none o (table_of k.tracks)) (omega arith) (λ later. refl);
        unfailed = refl;
        claim = claim;
      };
      operation = refl;
      state = (no_head [] refl, near);
      counted = counted;
    })

-- the tracks of a pending moof end
pub record Ends (a a' : Account) (c c' : Counter) (list list' : List Track) (w : PendingMoof) : Type 0 where
  pub tracks : list' ≡ settled list (moof_trafs (moof_in w) list)
  pub len : length list' ≡ length list
  pub back : a' ≡ given_back (given_back a (64 * length w.runs.rows)) w.moof.size
  pub tally : c'.tally ≡ c.tally
  pub least : c.steps.rows ≤ c'.steps.rows
  pub few : c'.steps.rows ≤ c.steps.rows + moof_samples (moof_in w)

pub GoesTo-ended : (u : Untouched) (a a' : Account) (k : Carried) (c' : Counter) (list list' : List Track) (w : PendingMoof) (next at left : ℕ) (kind : FourCc) → k.tracks ≡ Some list → Ends a a' k.counter c' list list' w → left ≡ 0 → next ≤ longest → k.header_bytes ≡ [] → claimed_in k.tracks (Some w) ≤ a.live → IsCounted k.operation k.counter next 0 (moof_samples (moof_in w))
    → GoesTo (ledger_alone u a a') k (record k { tracks = Some list'; counter = c' }) (InBody (λ _. no_effects) at kind (after_body (number_in k.operation k.counter.tally) k.tracks (Some w) next) left (claimed_in k.tracks (Some w))) [] (states.Header next)
GoesTo-ended u a a' k c' list list' w next at left kind is ended none near empty claim counted =
    let o = environment u.written u.waiting a k.counter.tally in
    let meaning = operation_meaning k.operation in
    let number = number_in k.operation k.counter.tally in
    let len = rw ended.tracks at ended.len in
    let low = rw is at claim in
    rw (is, empty, ended.tracks, ended.back) (record {
      step = record {
        goes = rw ended.tally
            (GoesOn-over (reads_in meaning) (λ end. after_body number (Some list) (Some w) end) (claimed_in (Some list) (Some w)) o at kind _ (λ _. no_effects) next left (continuation_at meaning (InHeader (after_body number (Some list) (Some w) next) [])) none refl
            (Moves-settled o (64 * length list) w.moof.size (64 * length w.runs.rows) _ (ap (λ n. 64 * n) len) low) (omega arith) (λ later. refl));
        unfailed = refl;
        claim = omega (arith, low, len);
      };
      operation = refl;
      state = (no_head [] refl, near);
      counted = counted_ended k.operation k.counter c' next (moof_samples (moof_in w)) counted ended.tally ended.least ended.few;
    })
