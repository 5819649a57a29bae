-- Bytes at continuations that all machines have.
use Rattle.std.proofs.Common.{◌≡◌, ◌∙◌, ℕ, ◌-◌, ◌<◌, ◌≤◌, List, [], ◌++◌, append_assoc, length, length-append, length-take-le, min, take, Some, ap, arith, refl, sym}
use Rattle.mp4_box.specs.declared.rules.Rule.TheVariants.{StreamTooLong}
use Rattle.mp4_box.specs.declared.headers.FourCc.{FourCc}
use Rattle.mp4_box.specs.declared.headers.Header.{Header}
use Rattle.mp4_box.specs.declared.headers.Size.{Size}
use Rattle.mp4_box.specs.declared.headers.Size.TheVariants.{Exact, ToEnd}
use Rattle.mp4_machine.specs.Bodies.{HasBytes, HasMore, IsLeft, IsOpen, body_item, extent_after, extent_of, fault, latest_end, left_of, open_body_item}
use Rattle.mp4_machine.specs.Inputs.{Continuation, Environment, GoesOn, Moves, Refuses}
use Rattle.mp4_machine.specs.Readings.{Reading, Effects, no_effects, then_read}
use Rattle.mp4_machine.specs.Continuations.{gathering, in_extent}
use Rattle.mp4_machine.specs.declared.body.Extent.{Extent}
use Rattle.mp4_machine.specs.declared.body.Extent.TheVariants as extents
use Rattle.mp4_machine.proofs.BodyLemmas.{body-over, body-passed, open-far, open-some}
use Rattle.mp4_machine.proofs.InputLemmas.{GoesOn-silent, Refuses-there}
use Rattle.mp4_machine.proofs.ReadingLemmas.{after-silent}

-- more bytes were gathered
pub GoesOn-gathered : (o : Environment) (reads : List ℕ → Reading) (at claim : ℕ) (old x new : List ℕ) → new ≡ old ++ x → GoesOn o o (gathering reads at claim old) x (gathering reads at claim new)
GoesOn-gathered o reads at claim old x new e =
    GoesOn-silent o (gathering reads at claim old) (gathering reads at claim new) x refl (omega (arith, ap length e, length-append old x))
    (λ later. ap reads (sym (append_assoc old x later) ∙ ap (λ l. l ++ later) (sym e)))

-- ---- how much of a body is left

-- less of it is left, and it isn't over
pub IsLeft-after : (left n : ℕ) (e : Extent) → IsLeft left e → HasMore (left - n) (extent_after n e) → IsLeft (left - n) (extent_after n e)
IsLeft-after left n (extents.Sized next) i more = record { within = omega (arith, i.within); near = i.near; more = more }
IsLeft-after left n (extents.Open needed) i more = record { within = omega (arith, i.within); near = i.near; more = tt }

-- not all of it came
pub IsLeft-within : (left n : ℕ) (e : Extent) → IsLeft left e → n < left → IsLeft (left - n) (extent_after n e)
IsLeft-within left n (extents.Sized next) i few = record { within = omega (arith, i.within); near = i.near; more = omega (arith, few) }
IsLeft-within left n (extents.Open needed) i few = record { within = omega (arith, i.within); near = i.near; more = tt }

-- some bytes of it are taken of an input that has some, where it doesn't go too far
pub some_taken : (left len n : ℕ) (e : Extent) → HasMore left e → (IsOpen e → len ≤ left) → n ≡ min left len → 0 < len → 0 < n
some_taken left len n (extents.Sized next) more all taken some = omega (arith, more, taken, some)
some_taken left len n (extents.Open needed) more all taken some = omega (arith, all tt, taken, some)

-- it is over, so its box states its size
pub sized_before : (n next : ℕ) (e : Extent) → extent_after n e ≡ extents.Sized next → e ≡ extents.Sized next
sized_before n next (extents.Sized end) same = same
sized_before n next (extents.Open needed) same = absurd (cc)

-- after its header
pub IsLeft-begun : (at needed : ℕ) (h : Header) (size : Size) → HasBytes at h size → IsLeft (left_of at h size) (extent_of at needed size)
IsLeft-begun at needed h (Exact s) some = record { within = omega arith; near = some.1; more = omega (arith, some.0) }
IsLeft-begun at needed h ToEnd some = record { within = omega arith; near = omega arith; more = tt }

module _ {C : Type 0} (reads : C → List ℕ → Reading) (next : ℕ → C) (claim : ℕ) (o : Environment) (at : ℕ) (kind : FourCc) where
  -- ---- in a body that is passed over

  -- some of it came
  pub GoesOn-passed : (left n : ℕ) (e : Extent) (input : List ℕ) → n ≤ left → n ≤ length input → left ≤ latest_end e
      → GoesOn o o (in_extent reads (λ _. no_effects) next claim at kind left e) (take n input) (in_extent reads (λ _. no_effects) next claim at kind (left - n) (extent_after n e))
  GoesOn-passed left n (extents.Sized end) input few within low =
      let x = take n input in
      let len : length x ≡ n = length-take-le n input within in
      GoesOn-silent o (in_extent reads (λ _. no_effects) next claim at kind left (extents.Sized end)) (in_extent reads (λ _. no_effects) next claim at kind (left - n) (extents.Sized end)) x refl (omega (arith, len, few, low))
      (λ later. body-passed reads at kind (next end) x later left (omega (arith, len, few)) ∙ ap (λ k. then_read reads (body_item (λ _. no_effects) at kind (next end) (left - k) later)) len)
  GoesOn-passed left n (extents.Open needed) input few within low =
      let x = take n input in
      let len : length x ≡ n = length-take-le n input within in
      GoesOn-silent o (in_extent reads (λ _. no_effects) next claim at kind left (extents.Open needed)) (in_extent reads (λ _. no_effects) next claim at kind (left - n) (extents.Open (needed - n))) x refl (omega (arith, len, few, low))
      (λ later. open-some reads at kind (next 0) (λ _. no_effects) (λ _. no_effects) no_effects x needed left (λ l. refl) (omega (arith, len, few)) later ∙ after-silent _
      ∙ ap (λ k. then_read reads (open_body_item (λ _. no_effects) at kind (needed - k) (left - k) later)) len)

  -- all bytes of a body came, whatever its effects
  pub GoesOn-over : (o' : Environment) (emit : List ℕ → Effects) (end left : ℕ) (to : Continuation) → left ≡ 0 → emit [] ≡ no_effects → Moves o o' claim to.claim no_effects → to.reached ≡ end → ((later : List ℕ) → reads (next end) later ≡ to.reads later)
      → GoesOn o o' (in_extent reads emit next claim at kind left (extents.Sized end)) [] to
  GoesOn-over o' emit end left to over none m far f = record {
    produced = no_effects;
    moves = m;
    reached = omega (arith, far, over);
    rest = λ later. body-over reads at kind (next end) emit left later over none ∙ f later ∙ sym (after-silent (to.reads later));
  }

  -- it goes too far
  pub Refuses-far : (o' : Environment) (left : ℕ) (e : Extent) (x more : List ℕ) → IsOpen e → Moves o o' claim 0 no_effects → left < length x
      → Refuses o o' (in_extent reads (λ _. no_effects) next claim at kind left e) (x ++ more) (fault StreamTooLong (Some kind) at)
  Refuses-far o' left (extents.Sized end) x more is m far = absurd is
  Refuses-far o' left (extents.Open needed) x more is m far =
      Refuses-there o o' (in_extent reads (λ _. no_effects) next claim at kind left (extents.Open needed)) x more (fault StreamTooLong (Some kind) at) m
      (λ later. open-far reads at kind (next 0) (λ _. no_effects) needed left (x ++ later) (omega (arith, far, length-append x later)))
