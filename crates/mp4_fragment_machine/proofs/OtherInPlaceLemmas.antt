-- A box that is whole in the input, and is passed over or copied.
use Rattle.std.proofs.Common.{◌≡◌, ◌∙◌, ℕ, ◌+◌, ◌-◌, ◌<◌, ◌≤◌, List, [], ◌++◌, length, length-take-le, take, drop, append_assoc, Option, ap, arith, refl, subst, sym}
use Rattle.mp4_box.specs.declared.headers.Header.{Header}
use Rattle.mp4_box.specs.declared.headers.Step.TheVariants as steps
use Rattle.mp4_box.specs.Headers.{HasRoom, header_at}
use Rattle.mp4_box.proofs.HeaderLemmas.{need-least, room_of, whole_is}
use Rattle.mp4_init.specs.declared.table.Track.{Track}
use Rattle.mp4_ledger.specs.Memory.{given_back}
use Rattle.mp4_machine.specs.Blocks.{Breaks, Passes, Pending}
use Rattle.mp4_machine.specs.Bodies.{least_end, longest}
use Rattle.mp4_machine.specs.Inputs.{Environment, GoesOn, Moves, WriteFailed, environment}
use Rattle.mp4_machine.specs.Readings.{Effects, after, both, says, no_effects, then_read}
use Rattle.mp4_machine.proofs.BodyLemmas.{body-over, body-some}
use Rattle.mp4_machine.proofs.HeadLemmas.{apart, front-is, front-len, take-is}
use Rattle.mp4_machine.proofs.InputLemmas.{Moves-none, WriteFailed-emitted}
use Rattle.mp4_machine.proofs.ReadingAskLemmas.{plus-none}
use Rattle.mp4_grammar.specs.Contexts.{Context, context, table_of}
use Rattle.mp4_grammar.specs.Items.{passing, reads_in}
use Rattle.mp4_grammar.specs.Meanings.{Meaning}
use Rattle.mp4_grammar.specs.declared.kinds.Kind.TheVariants.{Other}
use Rattle.mp4_recut.specs.Operations.{operation_meaning, number_in}
use Rattle.mp4_fragment_machine.specs.Places.{InHeader, continuation_at}
use Rattle.mp4_fragment_machine.specs.Implementation.Steps.{Borrowed, CanStep, GoesTo, at_state, environment_after, environment_before}
use Rattle.mp4_fragment_machine.specs.Implementation.InPlace.{IsFirstBox}
use Rattle.mp4_fragment_machine.specs.declared.state.Carried.{Carried}
use Rattle.mp4_fragment_machine.specs.declared.state.State.TheVariants as states
use Rattle.mp4_fragment_machine.specs.declared.in_place.Span.{Span}
use Rattle.mp4_fragment_machine.proofs.CopyLemmas.{Moves-says, spends-back}
use Rattle.mp4_fragment_machine.proofs.CountLemmas.{counted_later}
use Rattle.mp4_fragment_machine.proofs.HeadLemmas.{reads-kind}
use Rattle.mp4_fragment_machine.proofs.StepLemmas.{no_head}

module _ (meaning : Meaning) (at number : ℕ) (tracks : Option (List Track)) (input : List ℕ) (b : Span) (first : IsFirstBox Other at input b) where
  abbrev pub h : Header
  h = first.header

  -- the box
  abbrev pub bytes : List ℕ
  bytes = take b.size input

  abbrev here : Context
  here = context at tracks number

  abbrev pub next : Context
  next = context (at + b.size) tracks number

  room : h.header_len ≤ b.size
  room = subst (λ z. HasRoom z h.header_len) first.sized (room_of input h first.is)

  pub box_some : 0 < b.size
  box_some = omega (arith, room, (whole_is input h first.is).1, need-least input)

  len : length bytes ≡ b.size
  len = length-take-le b.size input first.whole

  begins : header_at bytes ≡ steps.Whole h
  begins = take-is b.size input h first.is room

  -- it has these effects, and then comes what is after it
  reads-box : (t : Effects) (g : List ℕ → Effects) → ((l : List ℕ) → meaning.passed h.kind (bytes ++ l) ≡ both t (g l)) → g [] ≡ no_effects → (later : List ℕ) → reads_in meaning here (bytes ++ later) ≡ after t (reads_in meaning next later)
  reads-box t g effects none later =
      let x = take h.header_len bytes in
      let y = drop h.header_len bytes in
      let near : least_end at h h.size ≤ longest = subst (λ z. least_end at h z ≤ longest) (sym first.sized) first.near in
      ap (reads_in meaning here) (sym (apart h.header_len bytes later))
      ∙ reads-kind meaning here h x (front-len bytes h begins) (front-is bytes h begins) Other tracks (y ++ later) near first.is_kind refl
      ∙ ap (λ l. then_read (reads_in meaning) (passing meaning here h.kind l h.size)) (apart h.header_len bytes later)
      ∙ ap (λ z. then_read (reads_in meaning) (passing meaning here h.kind (bytes ++ later) z)) first.sized
      ∙ body-some (reads_in meaning) at h.kind next (meaning.passed h.kind) g t bytes b.size effects (omega (arith, len)) later
      ∙ ap (after t) (body-over (reads_in meaning) at h.kind next g (b.size - length bytes) later (omega (arith, len)) none)

  box_goes : (o o' : Environment) (t : Effects) (g : List ℕ → Effects) → ((l : List ℕ) → meaning.passed h.kind (bytes ++ l) ≡ both t (g l)) → g [] ≡ no_effects → Moves o o' (table_of tracks) (table_of tracks) t
      → GoesOn o o' (continuation_at meaning (InHeader here [])) bytes (continuation_at meaning (InHeader next []))
  box_goes o o' t g effects none m = record { produced = t; moves = m; reached = omega (arith, len); rest = reads-box t g effects none }

  -- it is passed over
  pub GoesOn-silent_box : (o : Environment) → ((l : List ℕ) → meaning.passed b.kind l ≡ no_effects) → GoesOn o o (continuation_at meaning (InHeader here [])) bytes (continuation_at meaning (InHeader next []))
  GoesOn-silent_box o silence = box_goes o o no_effects (λ _. no_effects) (λ l. ap (λ k. meaning.passed k (bytes ++ l)) first.type ∙ silence (bytes ++ l)) refl (Moves-none o (table_of tracks))

  module _ (o : Environment) (u : Option (List ℕ)) (v : Pending) (effects : (l : List ℕ) → meaning.passed b.kind l ≡ says l) where
    is_emitted : (l : List ℕ) → meaning.passed h.kind (bytes ++ l) ≡ both (says bytes) (says l)
    is_emitted l = ap (λ k. meaning.passed k (bytes ++ l)) first.type ∙ effects (bytes ++ l)

    -- it was copied
    pub GoesOn-copied_box : Passes o.written u o.waiting v bytes → GoesOn o (environment u v o.account o.tally) (continuation_at meaning (InHeader here [])) bytes (continuation_at meaning (InHeader next []))
    GoesOn-copied_box p = box_goes o (environment u v o.account o.tally) (says bytes) (λ l. says l) is_emitted refl (Moves-says meaning at h.kind o.written u o.waiting v o.account o.tally (table_of tracks) bytes p)

    -- it could not be
    pub WriteFailed-box : Breaks o.written u o.waiting v bytes → table_of tracks ≤ o.account.live → (more later : List ℕ)
        → WriteFailed o (environment u v (given_back o.account (table_of tracks)) o.tally) (table_of tracks) (reads_in meaning here ((input ++ more) ++ later))
    WriteFailed-box p low more later =
        let rest = drop b.size input ++ (more ++ later) in
        WriteFailed-emitted o (environment u v (given_back o.account (table_of tracks)) o.tally) (table_of tracks) (says bytes) (reads_in meaning next rest) (reads_in meaning here ((input ++ more) ++ later))
        (ap (reads_in meaning here) (append_assoc input more later ∙ sym (apart b.size input (more ++ later))) ∙ reads-box (says bytes) (λ l. says l) is_emitted refl rest)
        p (spends-back o.account (table_of tracks) low) (sym (plus-none o.tally))

-- where the next box begins, all that is known is as it was
pub GoesTo-box : {l : Borrowed} {k : Carried} (at : ℕ) (input : List ℕ) (b : Span) → IsFirstBox Other at input b → k.header_bytes ≡ [] → CanStep k l.account (states.Header at) → l.account' ≡ l.account → l.failed' ≡ l.failed
    → GoesOn (environment_before l k) (environment_after l k) (continuation_at (operation_meaning k.operation) (InHeader (context at k.tracks (number_in k.operation k.counter.tally)) [])) (take b.size input) (continuation_at (operation_meaning k.operation) (InHeader (context (at + b.size) k.tracks (number_in k.operation k.counter.tally)) []))
    → GoesTo l k k (at_state k (states.Header at)) (take b.size input) (states.Header (at + b.size))
GoesTo-box {l = l} {k = k} at input b first empty can account unfailed g = record { step = record { goes = rw empty g; unfailed = unfailed; claim = rw account can.claim }; operation = refl; state = (no_head k.header_bytes empty, first.near); counted = counted_later k.operation k.counter at (at + b.size) 0 0 (omega arith) (omega arith) (omega (arith, first.near)) can.counted }
