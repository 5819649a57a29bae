-- Bodies, by how far they go.
use Rattle.std.proofs.Common.{◌≡◌, ℕ, ◌+◌, ◌-◌, ◌<◌, ◌≤◌, List, ◌++◌, length, take, Option, Some, arith, refl, subst, sym}
use Rattle.mp4_box.specs.declared.headers.FourCc.{FourCc}
use Rattle.mp4_box.specs.declared.headers.Header.{Header}
use Rattle.mp4_box.specs.declared.headers.Size.{Size}
use Rattle.mp4_box.specs.declared.headers.Size.TheVariants.{Exact, ToEnd}
use Rattle.mp4_box.specs.declared.rules.Rule.TheVariants.{StreamTooLong}
use Rattle.mp4_init.specs.declared.table.Track.{Track}
use Rattle.mp4_ledger.specs.Memory.{Account}
use Rattle.mp4_machine.specs.Bodies.{HasBytes, IsLeft, IsOpen, after_bytes, extent_after, extent_of, fault, latest_end, left_of}
use Rattle.mp4_machine.specs.Inputs.{Environment, GoesOn, Moves, Refuses, environment}
use Rattle.mp4_machine.specs.Readings.{Effects, no_effects}
use Rattle.mp4_machine.specs.declared.body.Body.{Body}
use Rattle.mp4_machine.specs.declared.body.Extent.{Extent}
use Rattle.mp4_machine.specs.declared.body.Extent.TheVariants as extents
use Rattle.mp4_machine.proofs.ContinuationLemmas.{GoesOn-passed, Refuses-far}
use Rattle.mp4_grammar.specs.Contexts.{context}
use Rattle.mp4_grammar.specs.Items.{reads_in}
use Rattle.mp4_grammar.specs.Meanings.{Meaning}
use Rattle.mp4_recut.specs.Operations.{number_in, operation_meaning}
use Rattle.mp4_recut.specs.declared.operation.Operation.{Operation}
use Rattle.mp4_fragment_machine.specs.Places.{Untouched, claim_of, continuation_at}
use Rattle.mp4_fragment_machine.specs.States.{IsCounted, bound_after, bound_in, claimed_in, in_extent, in_mdat, most_counted, samples_of, tracks_after}
use Rattle.mp4_fragment_machine.specs.Implementation.Steps.{CanStep, GoesTo, IsIn, at_state, ledger_alone}
use Rattle.mp4_fragment_machine.specs.declared.state.Carried.{Carried}
use Rattle.mp4_fragment_machine.specs.declared.counter.Counter.{Counter}
use Rattle.mp4_fragment_machine.specs.declared.pending_moof.PendingMoof.{PendingMoof}
use Rattle.mp4_fragment_machine.specs.declared.state.State.TheVariants as states
use Rattle.mp4_fragment_machine.proofs.CountLemmas.{counted_later}

-- ---- the place

-- what is claimed within it
pub claim_in : (emit : List ℕ → Effects) (at : ℕ) (kind : FourCc) (tracks : Option (List Track)) (number left own : ℕ) (e : Extent) → claim_of (in_extent emit at kind tracks number left own e) ≡ own
claim_in emit at kind tracks number left own (extents.Sized next) = refl
claim_in emit at kind tracks number left own (extents.Open needed) = refl

-- where it begins, after the header of an mdat
pub in_mdat-begins : (number : ℕ) (tracks : Option (List Track)) (w : PendingMoof) (at : ℕ) (h : Header) (needed : ℕ) (size : Size)
    → in_mdat number tracks w at h needed size ≡ in_extent (λ _. no_effects) at h.kind (tracks_after tracks (Some w)) number (left_of at h size) (claimed_in tracks (Some w)) (extent_of at needed size)
in_mdat-begins number tracks w at h needed (Exact s) = refl
in_mdat-begins number tracks w at h needed ToEnd = refl

-- ---- what is counted within it

pub bound_in-after : (n : ℕ) (e : Extent) → bound_in (extent_after n e) ≡ bound_in e
bound_in-after n (extents.Sized next) = refl
bound_in-after n (extents.Open needed) = refl

pub bound_in-begun : (at needed : ℕ) (size : Size) → bound_after at size ≡ bound_in (extent_of at needed size)
bound_in-begun at needed (Exact s) = refl
bound_in-begun at needed ToEnd = refl

pub counted-after : (operation : Operation) (c : Counter) (n m : ℕ) (e : Extent) → IsCounted operation c (bound_in e) 0 m → IsCounted operation c (bound_in (extent_after n e)) 0 m
counted-after operation c n m e i = subst (λ k. IsCounted operation c k 0 m) (sym (bound_in-after n e)) i

-- it begins
pub counted-begun : (operation : Operation) (c : Counter) (at : ℕ) (h : Header) (size : Size) → HasBytes at h size → IsCounted operation c at 0 0 → IsCounted operation c (bound_in (extent_of at 0 size)) 0 0
counted-begun operation c at h (Exact s) some i = counted_later operation c at (at + s) 0 0 (omega arith) (omega arith) (omega (arith, some.1)) i
counted-begun operation c at h ToEnd near i = counted_later operation c at most_counted 0 0 (omega (arith, near)) (omega arith) (omega arith) i

-- ---- bytes of it

-- that have no effects
pub GoesOn-passed_in : (meaning : Meaning) (o : Environment) (at : ℕ) (kind : FourCc) (tracks : Option (List Track)) (number left own n : ℕ) (e : Extent) (input : List ℕ) → n ≤ left → n ≤ length input → left ≤ latest_end e
    → GoesOn o o (continuation_at meaning (in_extent (λ _. no_effects) at kind tracks number left own e)) (take n input) (continuation_at meaning (in_extent (λ _. no_effects) at kind tracks number (left - n) own (extent_after n e)))
GoesOn-passed_in meaning o at kind tracks number left own n (extents.Sized next) input few within low =
    GoesOn-passed (reads_in meaning) (λ end. context end tracks number) own o at kind left n (extents.Sized next) input few within low
GoesOn-passed_in meaning o at kind tracks number left own n (extents.Open needed) input few within low =
    GoesOn-passed (reads_in meaning) (λ end. context end tracks number) own o at kind left n (extents.Open needed) input few within low

-- it goes too far
pub Refuses-far_in : (meaning : Meaning) (o o' : Environment) (at : ℕ) (kind : FourCc) (tracks : Option (List Track)) (number left own : ℕ) (e : Extent) (x more : List ℕ) → IsOpen e → Moves o o' own 0 no_effects → left < length x
    → Refuses o o' (continuation_at meaning (in_extent (λ _. no_effects) at kind tracks number left own e)) (x ++ more) (fault StreamTooLong (Some kind) at)
Refuses-far_in meaning o o' at kind tracks number left own (extents.Sized next) x more is m far = absurd is
Refuses-far_in meaning o o' at kind tracks number left own (extents.Open needed) x more is m far =
    Refuses-far (reads_in meaning) (λ end. context end tracks number) own o at kind o' left (extents.Open needed) x more is m far

-- the machine stays in the body: so much less of it is left
pub GoesTo-passed : (u : Untouched) (a : Account) (k : Carried) (b : Body) (w : Option PendingMoof) (n : ℕ) (input : List ℕ) → IsIn k (states.Body b w) → CanStep k a (states.Body b w) → 0 < n → n ≤ b.left → n ≤ length input → IsLeft (b.left - n) (extent_after n b.extent)
    → (0 < n) × (n ≤ length input) × GoesTo (ledger_alone u a a) k k (at_state k (states.Body b w)) (take n input) (states.Body (after_bytes n b) w)
GoesTo-passed u a k b w n input is can some few within left =
    let number = number_in k.operation k.counter.tally in
    let tracks = tracks_after k.tracks w in
    let own = claimed_in k.tracks w in
    let low : own ≤ a.live = subst (λ m. m ≤ a.live) (claim_in (λ _. no_effects) b.at b.kind tracks number b.left own b.extent) can.claim in (
      some,
      within,
      record {
        step = record {
          goes = GoesOn-passed_in (operation_meaning k.operation) (environment u.written u.waiting a k.counter.tally) b.at b.kind tracks number b.left own n b.extent input few within is.1.within;
          unfailed = refl;
          claim = subst (λ m. m ≤ a.live) (sym (claim_in (λ _. no_effects) b.at b.kind tracks number (b.left - n) own (extent_after n b.extent))) low;
        };
        operation = refl;
        state = (is.0, left, is.2);
        counted = counted-after k.operation k.counter n (samples_of w) b.extent can.counted;
      },
    )
