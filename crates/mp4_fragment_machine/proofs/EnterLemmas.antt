-- The mdat of a fragment that is listed is entered.
use Rattle.std.proofs.Common.{◌≡◌, ℕ, ◌≤◌, [], Some, refl, subst, sym}
use Rattle.mp4_box.specs.declared.headers.Header.{Header}
use Rattle.mp4_frag.specs.Moofs.{moof_samples}
use Rattle.mp4_ledger.specs.Memory.{Account}
use Rattle.mp4_machine.specs.Bodies.{HasBytes, extent_of, left_of}
use Rattle.mp4_machine.specs.Inputs.{environment}
use Rattle.mp4_machine.specs.Readings.{no_effects}
use Rattle.mp4_machine.specs.declared.body.Body.{Body}
use Rattle.mp4_machine.proofs.ContinuationLemmas.{IsLeft-begun}
use Rattle.mp4_recut.specs.Operations.{number_in, operation_meaning}
use Rattle.mp4_fragment_machine.specs.Places.{Untouched}
use Rattle.mp4_fragment_machine.specs.States.{IsCounted, IsPendingMoof, bound_after, claimed_in, in_mdat, moof_in, tracks_after}
use Rattle.mp4_fragment_machine.specs.Implementation.Steps.{GoesTo, ledger_alone}
use Rattle.mp4_fragment_machine.specs.declared.state.Carried.{Carried}
use Rattle.mp4_fragment_machine.specs.declared.pending_moof.PendingMoof.{PendingMoof}
use Rattle.mp4_fragment_machine.specs.declared.state.State.TheVariants as states
use Rattle.mp4_fragment_machine.proofs.ExtentLemmas.{bound_in-begun, claim_in, in_mdat-begins}
use Rattle.mp4_fragment_machine.proofs.RecutStateLemmas.{GoesOn-same}

-- the body after the header of a box at an offset
abbrev pub body_after : ℕ → Header → ℕ → Body
body_after at h needed = record { at = at; kind = h.kind; left = left_of at h h.size; extent = extent_of at needed h.size }

pub GoesTo-entered : (u : Untouched) (a : Account) (k : Carried) (w : PendingMoof) (at : ℕ) (h : Header) (needed : ℕ) → HasBytes at h h.size → IsPendingMoof k.tracks w → k.header_bytes ≡ [] → claimed_in k.tracks (Some w) ≤ a.live → IsCounted k.operation k.counter (bound_after at h.size) 0 (moof_samples (moof_in w))
    → GoesTo (ledger_alone u a a) k k (in_mdat (number_in k.operation k.counter.tally) k.tracks w at h needed h.size) [] (states.Body (body_after at h needed) (Some w))
GoesTo-entered u a k w at h needed some waits empty claim counted =
    let number = number_in k.operation k.counter.tally in
    let own = claimed_in k.tracks (Some w) in
    record {
      step = record {
        goes = GoesOn-same (operation_meaning k.operation) (environment u.written u.waiting a k.counter.tally) _ _ (in_mdat-begins number k.tracks w at h needed h.size);
        unfailed = refl;
        claim = subst (λ m. m ≤ a.live) (sym (claim_in (λ _. no_effects) at h.kind (tracks_after k.tracks (Some w)) number (left_of at h h.size) own (extent_of at needed h.size))) claim;
      };
      operation = refl;
      state = (empty, IsLeft-begun at needed h h.size some, waits);
      counted = subst (λ b. IsCounted k.operation k.counter b 0 (moof_samples (moof_in w))) (bound_in-begun at needed h.size) counted;
    }
