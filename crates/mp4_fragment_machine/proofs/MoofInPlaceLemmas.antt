-- A moof that is whole in the input, and what follows it.
use Rattle.std.proofs.Common.{◌≡◌, ◌∙◌, ℕ, ◌+◌, ◌*◌, ◌<◌, ◌≤◌, List, [], ◌++◌, length, take, drop, take-append-drop, append_assoc, Some, ap, sym, refl, arith, subst}
use Rattle.mp4_box.specs.declared.headers.Header.{Header}
use Rattle.mp4_box.specs.declared.headers.Size.TheVariants.{Exact}
use Rattle.mp4_box.specs.declared.headers.Step.TheVariants as steps
use Rattle.mp4_box.specs.Headers.{header_at}
use Rattle.mp4_box.proofs.HeaderLemmas.{need-least, whole_is}
use Rattle.mp4_init.specs.declared.table.Track.{Track}
use Rattle.mp4_ledger.specs.Memory.{Account, claimed}
use Rattle.mp4_ledger.specs.declared.ledger.Refused.{Refused}
use Rattle.mp4_ledger.specs.declared.ledger.Refused.TheVariants as refusals
use Rattle.mp4_machine.specs.Bodies.{least_end, longest}
use Rattle.mp4_machine.specs.Buffering.{Begins}
use Rattle.mp4_machine.specs.declared.buffered_box.BufferedBox.{BufferedBox}
use Rattle.mp4_machine.specs.Inputs.{Environment, GoesOn, StopsAt, environment, refusal_of}
use Rattle.mp4_machine.specs.Steps as reading
use Rattle.mp4_machine.specs.declared.stop.Stop.{Stop}
use Rattle.mp4_machine.proofs.HeadLemmas.{front-is, front-len}
use Rattle.mp4_machine.proofs.InputLemmas.{GoesOn-take_more, StopsAt-take_more, back_to, claimed_from}
use Rattle.mp4_grammar.specs.Contexts.{context, table_of}
use Rattle.mp4_grammar.specs.Kinds.{kind_in, most_moof}
use Rattle.mp4_grammar.specs.Meanings.{FragmentEndsPast, Meaning}
use Rattle.mp4_grammar.specs.declared.kinds.Kind.TheVariants.{Moof}
use Rattle.mp4_recut.specs.Operations.{operation_meaning, number_in}
use Rattle.mp4_fragment_machine.specs.Places.{InHeader, InBuffered, Place, Untouched, claim_of, continuation_at}
use Rattle.mp4_fragment_machine.specs.States.{IsCounted}
use Rattle.mp4_fragment_machine.specs.Implementation.Steps.{Borrowed, GoesTo, StopsIn, at_state, environment_before, environment_stopped, ledger_alone}
use Rattle.mp4_fragment_machine.specs.Implementation.InPlace.{IsFirstBox}
use Rattle.mp4_fragment_machine.specs.declared.state.Carried.{Carried}
use Rattle.mp4_fragment_machine.specs.declared.state.State.{State}
use Rattle.mp4_fragment_machine.specs.declared.state.State.TheVariants as states
use Rattle.mp4_fragment_machine.specs.declared.in_place.Span.{Span}
use Rattle.mp4_fragment_machine.proofs.FragmentLemmas.{first_fits, first_is, first_len}
use Rattle.mp4_fragment_machine.proofs.HeadLemmas.{GoesOn-head, StopsAt-keep, reads-kind}
use Rattle.mp4_fragment_machine.proofs.BufferedBoxLemmas.{refused_not_written}
use Rattle.mp4_fragment_machine.proofs.StepLemmas.{Accepts, counted_stop}
use Rattle.mp4_fragment_machine.proofs.InPlaceLemmas.{GoesOn-held_whole}

-- ---- a moof that is whole in the input, without room for it

module _ (meaning : Meaning) (number : ℕ) (o : Environment) (at : ℕ) (tracks : List Track) (h : Header) (x : List ℕ)
    (is : header_at x ≡ steps.Whole h) (kind : kind_in h.kind.0 ≡ Moof) (sized : h.size ≡ Exact (length x)) (most : length x ≤ most_moof) (near : at + length x ≤ longest)
    (low : 64 * length tracks ≤ o.account.live) where
  header_bytes : List ℕ
  header_bytes = take h.header_len x

  pub StopsAt-moof_whole : FragmentEndsPast meaning → (more : List ℕ) (r : Refused) → (r ≡ refusals.OverLimit → o.account.limit < o.account.live + length x) → (r ≡ refusals.Memory → o.account.live + length x ≤ o.account.limit)
      → StopsAt o (back_to o (64 * length tracks)) (continuation_at meaning (InHeader (context at (Some tracks) number) [])) (x ++ more) (refusal_of r)
  unfolding header_bytes
  StopsAt-moof_whole past more r over within =
      let c = context at (Some tracks) number in
      StopsAt-take_more {p = continuation_at meaning (InHeader c [])} low h.header_len x (GoesOn-head meaning o c [] header_bytes header_bytes refl) (back_to o (64 * length tracks)) more (refusal_of r)
      (StopsAt-keep meaning o at number (Some tracks) h header_bytes most_moof low
      (λ later. reads-kind meaning c h header_bytes (front-len x h is) (front-is x h is) Moof (Some tracks) later (subst (λ s. least_end at h s ≤ longest) (sym sized) near) kind refl) (length x) sized most past (drop h.header_len x ++ more) r over within)

-- ---- a step that takes more of the input

-- a writer and a block that are unchanged, and a ledger up to an account
abbrev pub as_borrowed : Borrowed → Account → Borrowed
as_borrowed l b = record {
  written = l.written;
  written' = l.written;
  failed = l.failed;
  failed' = l.failed;
  waiting = l.waiting;
  waiting' = l.waiting;
  account = l.account;
  account' = b;
}

module _ {l : Borrowed} {b : Account} {old mid new : Carried} {from : Place} {s : State} (n : ℕ) (input : List ℕ) (low : claim_of from ≤ l.account.live) (g : GoesTo (as_borrowed l b) old mid from (take n input) s) where
  pub GoesTo-take_more : (m : ℕ) {t : State} → GoesTo (record l { account = b }) mid new (at_state mid s) (take m (drop n input)) t → GoesTo l old new from (take (n + m) input) t
  GoesTo-take_more m {t = t} h = record {
    step = record { goes = GoesOn-take_more low n input g.step.goes m (continuation_at (operation_meaning new.operation) (at_state new t)) h.step.goes; unfailed = h.step.unfailed; claim = h.step.claim };
    operation = h.operation ∙ g.operation;
    state = h.state;
    counted = h.counted;
  }

  pub StopsIn-take_more : {e : Stop} → mid.tracks ≡ old.tracks → StopsIn (record l { account = b }) mid new (at_state mid s) (drop n input) e → StopsIn l old new from input e
  StopsIn-take_more {e = e} same h =
      let mid_borrowed = record l { account = b } in
      let r = subst (λ t. reading.StopsIn (record { before = environment_before mid_borrowed mid; after = environment_stopped l new (table_of t); failed = l.failed; failed' = l.failed' }) (continuation_at (operation_meaning mid.operation) (at_state mid s)) (drop n input) e) same h.step in
      record {
        step = record {
          stops = λ more. StopsAt-take_more low n input g.step.goes _ more e (r.stops more);
          failed = r.failed;
          unfailed = r.unfailed;
        };
        operation = h.operation ∙ g.operation;
        tracks = h.tracks ∙ same;
        empty = h.empty;
        left = rw same at h.left;
        counted = h.counted;
      }

-- ---- by what a machine keeps

-- the moof at the front of the input, as it is held
abbrev pub held_of : ℕ → List ℕ → Span → BufferedBox
held_of at input b = record { at = at; kind = b.kind; size = b.size; bytes = take b.size input }

module _ (k : Carried) (at : ℕ) (ts : List Track) (input : List ℕ) (b : Span) (first : IsFirstBox Moof at input b) (most : b.size ≤ most_moof) (is_known : k.tracks ≡ Some ts) (empty : k.header_bytes ≡ []) where
  moof_len : length (take b.size input) ≡ b.size
  moof_len = first_len Moof at input b first (take b.size input) refl

  moof_is : header_at (take b.size input) ≡ steps.Whole first.header
  moof_is = first_is Moof at input b first (take b.size input) refl

  pub moof_begins : Begins b.size (take b.size input)
  moof_begins = (first.header, moof_is, first.sized)

  pub moof_some : 0 < b.size
  moof_some = let w = whole_is input first.header first.is in omega (arith, first_fits Moof at input b first, first.header_len, w.1, need-least input)

  module _ {l : Borrowed} (low : table_of k.tracks ≤ l.account.live) where
    -- all of it came, and is held
    pub accepts_moof : Accepts l (claimed l.account b.size) k k (at_state k (states.Header at)) (take b.size input) (at_state k (states.Buffering (held_of at input b)))
    accepts_moof =
        let m = take b.size input in
        let meaning = operation_meaning k.operation in
        let number = number_in k.operation k.counter.tally in
        let o = environment_before l k in
        let c = context at (Some ts) number in
        let held = GoesOn-held_whole meaning number o at ts first.header m moof_is first.is_kind (first.sized ∙ ap Exact (sym moof_len)) (omega (arith, moof_len, most)) (omega (arith, moof_len, first.near)) (rw is_known at low) in
        let sized = subst (λ n. GoesOn o (claimed_from o n) (continuation_at meaning (InHeader c [])) m (continuation_at meaning (InBuffered c first.header.kind n m))) moof_len held in
        record {
          claim = low;
          operation = refl;
          tracks = refl;
          goes = rw (is_known, empty) (subst (λ j. GoesOn o (claimed_from o b.size) (continuation_at meaning (InHeader c [])) m (continuation_at meaning (InBuffered c j b.size m))) first.type sized);
        }

  -- it may not be claimed
  pub stops_moof : (u : Untouched) (a : Account) → table_of k.tracks ≤ a.live → IsCounted k.operation k.counter at 0 0 → FragmentEndsPast (operation_meaning k.operation) → (r : Refused) → (r ≡ refusals.OverLimit → a.limit < a.live + b.size) → (r ≡ refusals.Memory → a.live + b.size ≤ a.limit)
      → StopsIn (ledger_alone u a a) k k (at_state k (states.Header at)) input (refusal_of r)
  stops_moof u a low counted past r over within =
      let m = take b.size input in
      let o = environment u.written u.waiting a k.counter.tally in
      let number = number_in k.operation k.counter.tally in
      let starts = continuation_at (operation_meaning k.operation) (InHeader (context at (Some ts) number) []) in
      let whole : (more : List ℕ) → m ++ (drop b.size input ++ more) ≡ input ++ more = λ more. sym (append_assoc m (drop b.size input) more) ∙ ap (λ l. l ++ more) (take-append-drop b.size input) in
      rw (is_known, empty) (record {
        step = record {
          stops = λ more.
              subst (λ l. StopsAt o (back_to o (64 * length ts)) starts l (refusal_of r)) (whole more)
              (StopsAt-moof_whole (operation_meaning k.operation) number o at ts first.header m moof_is first.is_kind (first.sized ∙ ap Exact (sym moof_len)) (omega (arith, moof_len, most)) (omega (arith, moof_len, first.near)) (rw is_known at low) past (drop b.size input ++ more) r
              (λ e. omega (arith, moof_len, over e)) (λ e. omega (arith, moof_len, within e)));
          failed = λ is. absurd (refused_not_written r is);
          unfailed = λ _. refl;
        };
        operation = refl;
        tracks = refl;
        empty = refl;
        left = rw is_known at low;
        counted = counted_stop k.operation k.counter at counted;
      })
