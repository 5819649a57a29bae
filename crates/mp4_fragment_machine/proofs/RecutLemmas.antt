-- Bytes of media that are recut.
use Rattle.std.proofs.Common.{◌≡◌, ◌∙◌, ℕ, ◌+◌, ◌-◌, ◌<◌, ◌≤◌, ◌⊎◌, inl, inr, min, Bool, true, false, List, [], ◌∷◌, ◌++◌, length, append_assoc, length-append, length-take-le, take, drop, append-nil, Option, None, Some, ap, sym, refl, arith, subst}
use Rattle.std.proofs.Math.Seq.{take-append-add}
use Rattle.std.proofs.lemmas.Bool.{cases_lt, ltb-true, ltb-false}
use Rattle.std.proofs.lemmas.List.{take_all, take-append-le}
use Rattle.std.specs.Prelude.{nat_lt}
use Rattle.mp4_box.specs.declared.headers.FourCc.{FourCc}
use Rattle.mp4_ledger.specs.Memory.{Account, given_back}
use Rattle.mp4_machine.specs.Accounts.{Counts, Spends}
use Rattle.mp4_machine.specs.Bodies.{HasMore, extent_after, fault, latest_end, least_end, longest, body_item, open_body_item}
use Rattle.mp4_machine.specs.declared.body.Extent.{Extent}
use Rattle.mp4_machine.specs.declared.body.Extent.TheVariants as extents
use Rattle.mp4_machine.specs.Inputs.{Environment, environment, Moves, GoesOn, WriteFailed, Refuses}
use Rattle.mp4_machine.specs.Readings.{moved, AtMost, Faulty, Reading, Effects, after, both, no_effects, greatest, most_of, plus, shifted, then_read}
use Rattle.mp4_machine.specs.declared.tally.Tally.{Tally}
use Rattle.mp4_machine.proofs.BlockLemmas.{BreaksMarked-longer}
use Rattle.mp4_machine.proofs.MarkLemmas.{moved-none}
use Rattle.mp4_machine.proofs.InputLemmas.{back_to, Refuses-there}
use Rattle.mp4_fragment_machine.proofs.BufferedBoxLemmas.{Moves-all_back}
use Rattle.mp4_machine.proofs.AccountLemmas.{Counts-none, Counts-back, Spends-counts, Spends-more}
use Rattle.mp4_machine.specs.Ends.{Sent}
use Rattle.mp4_machine.specs.Blocks.{BreaksMarked, Passes, PassesMarked, Pending}
use Rattle.mp4_machine.proofs.ReadingAskLemmas.{plus-none, same_tally}
use Rattle.mp4_machine.proofs.BodyLemmas.{body-over, body-some, open-far, open-some}
use Rattle.mp4_machine.proofs.ReadingLemmas.{after-both, after-silent, both-silent, then_read-emitted}
use Rattle.std.specs.List.{AllByRecursion, sum_by}
use Rattle.std.specs.Option.{option_or}
use Rattle.mp4_box.specs.Headers.{HasRoom, header_at, need}
use Rattle.mp4_box.specs.declared.headers.Header.{Header}
use Rattle.mp4_box.specs.declared.rules.Rule.TheVariants.{StreamTooLong}
use Rattle.mp4_box.specs.declared.headers.Size.{Size}
use Rattle.mp4_box.specs.declared.headers.Size.TheVariants.{Exact, ToEnd}
use Rattle.mp4_box.specs.declared.headers.Step.TheVariants as steps
use Rattle.mp4_box.proofs.HeaderLemmas.{whole_is}
use Rattle.mp4_init.specs.declared.table.Track.{Track}
use Rattle.mp4_frag.specs.Moofs.{moof_samples}
use Rattle.mp4_traf.specs.declared.run.Run.{Run}
use Rattle.mp4_pieces.specs.declared.cut.Cut.{Cut}
use Rattle.mp4_traf.specs.Ranges.{IsRunOf}
use Rattle.mp4_recut.specs.Cursors.{CanCut}
use Rattle.mp4_grammar.specs.Contexts.{Context, context, first_context, table_of}
use Rattle.mp4_grammar.specs.Items.{context_after_fragment, end_of, fragment, media_body, reads_in, with_runs}
use Rattle.mp4_grammar.specs.Kinds.{kind_in}
use Rattle.mp4_grammar.specs.Meanings.{Fragment, Meaning, fragment_fault, needed_in, runs_in}
use Rattle.mp4_grammar.specs.declared.kinds.Kind.TheVariants.{Mdat}
use Rattle.mp4_recut.specs.Media.{Copied, MediaPosition, output_from, media_position, NoHeadIsReady, Emits, Outputs, WriteFailedIn, Rises}
use Rattle.mp4_recut.specs.OutputFragments.{OutputFragment, output_of, span_from}
use Rattle.mp4_recut.specs.declared.media.Media.{Media}
use Rattle.mp4_recut.specs.declared.next.CopySpan.{CopySpan}
use Rattle.mp4_recut.specs.Splitting.{copied, is_dropped, output_fragments, splitting}
use Rattle.mp4_recut.proofs.MediaLemmas.{output_from-quiet}
use Rattle.mp4_fragment_machine.specs.Implementation.Media.{FailsToBegin, FailsToTake, HasBegun, HasTaken}
use Rattle.mp4_fragment_machine.specs.Implementation.Recuts.{first_position, in_media, with_fragments, with_samples}
use Rattle.mp4_traf.specs.Settling.{settled}
use Rattle.mp4_fragment_machine.specs.Places.{InBody, InHeader, InMdatHeader, InOpenBody, claim_of, continuation_at, reached_of, reads_at}
use Rattle.mp4_fragment_machine.specs.States.{RisesIn, in_extent, moof_in}
use Rattle.mp4_fragment_machine.specs.declared.pending_moof.PendingMoof.{PendingMoof}
use Rattle.mp4_fragment_machine.proofs.SecondLemmas.{second-accepted}
use Rattle.mp4_fragment_machine.proofs.TallyLemmas.{least_with_fragments, least_with_samples, most_with_fragments, most_with_samples}

module _ (a b : Option (List ℕ)) (v w : Pending) (tally : Tally) (n : ℕ) where
  tally_more : {t : Effects} → Emits a b v w tally.fragments n t → with_fragments tally n ≡ plus tally t.tally
  tally_more {t = t} s =
      let samples : tally.samples ≡ tally.samples + t.tally.samples = omega (arith, s.plain.samples) in
      let media : tally.media_bytes ≡ tally.media_bytes + t.tally.media_bytes = omega (arith, s.plain.media) in
      let inspected : tally.inspected ≡ tally.inspected + t.tally.inspected = omega (arith, s.plain.inspected) in
      same_tally s.counted samples media inspected

  -- fragments alone were counted
  pub Moves-emits : {t : Effects} (account : Account) (own : ℕ) → Emits a b v w tally.fragments n t → Moves (environment a v account tally) (environment b w account (with_fragments tally n)) own own t
  Moves-emits account own s = record {
    passes = s.passes;
    counts = subst (λ k. Counts account account own own k) (sym (ap greatest s.plain.requests)) (Counts-none account own);
    tallied = tally_more s;
  }

  -- a write failed, and no more fragments were counted than the effects have
  WriteFailed-first : (own : ℕ) (account : Account) (s more : Effects) (r : Reading) → r.effects ≡ both s more → own ≤ account.live → WriteFailedIn a b v w tally.fragments n s → WriteFailed (environment a v account tally) (environment b w (given_back account own) (with_fragments tally n)) own r
  WriteFailed-first own account s more r e low f =
      let none : own - own ≡ 0 = omega arith in
      let spent : Spends account (given_back account own) own 0 0 = subst (λ k. Spends account (given_back account own) own k 0) none (Spends-counts account (given_back account own) own (own - own) 0 (Counts-back account own own (omega arith) low)) in
      record {
        text = subst (λ t. BreaksMarked a b v w t.text t.fragment_ends) (sym e) (BreaksMarked-longer more.text more.fragment_ends f.text);
        spends = Spends-more account (given_back account own) own 0 0 (most_of r.effects) (omega arith) spent;
        least = least_with_fragments tally n f.least;
        most = subst (λ t. AtMost (with_fragments tally n) (plus tally t.tally)) (sym e) (most_with_fragments tally (both s more).tally n (omega (arith, f.most)));
      }

  module _ (meaning : Meaning) (at : ℕ) (kind : FourCc) (next : Context) (own : ℕ) (account : Account) where
    GoesOn-outputs : (left : ℕ) (p q : MediaPosition) (x : List ℕ) → length x ≤ left → left ≤ next.at → Outputs a b v w tally.fragments n p x q
        → GoesOn (environment a v account tally) (environment b w account (with_fragments tally n)) (continuation_at meaning (InBody (output_from p) at kind next left own)) x (continuation_at meaning (InBody (output_from q) at kind next (left - length x) own))
    GoesOn-outputs left p q x h low g = record {
      produced = g.effects;
      moves = Moves-emits account own g.emits;
      reached = omega (arith, h, low);
      rest = body-some (reads_in meaning) at kind next (output_from p) (output_from q) g.effects x left g.rest h;
    }

-- the effects of a body come first
body-first : (meaning : Meaning) (at : ℕ) (kind : FourCc) (next : Context) (f : List ℕ → Effects) (left : ℕ) (bytes : List ℕ) → (more : Effects) × ((then_read (reads_in meaning) (body_item f at kind next left bytes)).effects ≡ both (f (take left bytes)) more)
body-first meaning at kind next f left bytes = by (nat_lt (length bytes) left) refl
  where
    by : (u : Bool) → nat_lt (length bytes) left ≡ u → (more : Effects) × ((then_read (reads_in meaning) (body_item f at kind next left bytes)).effects ≡ both (f (take left bytes)) more)
    by true e =
        let short : length bytes < left = ltb-true _ _ e in
        (no_effects, rw (e, take_all left bytes (omega (arith, short))) (sym (both-silent (f bytes))))
    by false e = ((reads_in meaning next (drop left bytes)).effects, rw e refl)

-- ---- an mdat is accepted, and its media begin

module _ (cut : Cut) (c : Context) (tracks : List Track) (moof x : List ℕ) (h : Header) (len : length x ≡ need x) (is : header_at x ≡ steps.Whole h)
    (near : least_end (c.at + length moof) h h.size ≤ longest) (mdat : kind_in h.kind.0 ≡ Mdat) (good : fragment_fault (splitting cut) (fragment c tracks moof h) ≡ None) where
  abbrev begun_in : Fragment
  begun_in = fragment c tracks moof h

  abbrev after_moof : ℕ
  after_moof = c.at + length moof

  -- the effects of putting the heads
  begins-emitted : (a b : Option (List ℕ)) (v w : Pending) (m n : ℕ) (q : MediaPosition) (g : Outputs a b v w m n (first_position cut begun_in) [] q) (own : ℕ) (size : Size) (later : List ℕ)
      → then_read (reads_in (splitting cut)) (media_body (splitting cut) begun_in after_moof h size later) ≡ after g.effects (reads_at (splitting cut) (in_media cut begun_in q after_moof h own size) later)
  begins-emitted a b v w m n q g own (Exact s) later =
      let e : s - h.header_len - 0 ≡ s - h.header_len = omega arith in
      body-some (reads_in (splitting cut)) after_moof h.kind (context_after_fragment (splitting cut) begun_in (after_moof + s)) (output_from (first_position cut begun_in)) (output_from q) g.effects [] (s - h.header_len) g.rest (omega arith) later
      ∙ ap (λ k. after g.effects (then_read (reads_in (splitting cut)) (body_item (output_from q) after_moof h.kind (context_after_fragment (splitting cut) begun_in (after_moof + s)) k later))) e
  begins-emitted a b v w m n q g own ToEnd later =
      let left = longest - (after_moof + h.header_len) in
      let e : left - 0 ≡ left = omega arith in
      let d : needed_in begun_in - 0 ≡ needed_in begun_in = omega arith in
      open-some (reads_in (splitting cut)) after_moof h.kind (context_after_fragment (splitting cut) begun_in 0) (output_from (first_position cut begun_in)) (output_from q) g.effects [] (needed_in begun_in) left g.rest (omega arith) later
      ∙ ap (λ k. after g.effects (then_read (reads_in (splitting cut)) (open_body_item (output_from q) after_moof h.kind (needed_in begun_in - 0) k later))) e
      ∙ ap (λ k. after g.effects (then_read (reads_in (splitting cut)) (open_body_item (output_from q) after_moof h.kind k left later))) d

  reached-media : (q : MediaPosition) (own : ℕ) (size : Size) → HasRoom size h.header_len → least_end after_moof h size ≤ longest → reached_of (in_media cut begun_in q after_moof h own size) ≡ after_moof + length x
  reached-media q own (Exact s) room fits = omega (arith, room, (whole_is x h is).1, len)
  reached-media q own ToEnd room fits = omega (arith, fits, (whole_is x h is).1, len)

  claim-media : (q : MediaPosition) (own : ℕ) (size : Size) → claim_of (in_media cut begun_in q after_moof h own size) ≡ own
  claim-media q own (Exact s) = refl
  claim-media q own ToEnd = refl

  pub GoesOn-begun : (a b : Option (List ℕ)) (v w : Pending) (tally : Tally) (n : ℕ) (q : MediaPosition) (account : Account) → HasRoom h.size h.header_len → Outputs a b v w tally.fragments n (first_position cut begun_in) [] q
      → GoesOn (environment a v account tally) (environment b w account (with_samples begun_in tally n)) (continuation_at (splitting cut) (InMdatHeader c tracks moof x)) []
      (continuation_at (splitting cut) (in_media cut begun_in q after_moof h (with_runs c tracks moof) h.size))
  GoesOn-begun a b v w tally n q account room g =
      let meaning = splitting cut in
      let own = with_runs c tracks moof in
      let effects = both (meaning.accepted begun_in) g.effects in
      record {
        produced = effects;
        moves = record {
          passes = subst (PassesMarked a b v w g.effects.text) (sym (moved-none g.effects.fragment_ends)) g.emits.passes;
          counts = subst (λ k. Counts account account own k (most_of effects)) (sym (claim-media q own h.size))
              (subst (λ l. Counts account account own own (greatest (shifted (meaning.accepted begun_in) l))) (sym g.emits.plain.requests) (Counts-none account own));
          tallied = counted;
        };
        reached = reached-media q own h.size room near ∙ omega arith;
        rest = λ later.
            ap (then_read (reads_in meaning)) (second-accepted meaning c tracks moof h x len is later near mdat good)
            ∙ then_read-emitted (reads_in meaning) (meaning.accepted begun_in) (media_body meaning begun_in after_moof h h.size later)
            ∙ ap (after (meaning.accepted begun_in)) (begins-emitted a b v w tally.fragments n q g own h.size later)
            ∙ after-both (meaning.accepted begun_in) g.effects (reads_at meaning (in_media cut begun_in q after_moof h own h.size) later);
      }
    where
      counted : with_samples begun_in tally n ≡ plus tally (plus ((splitting cut).accepted begun_in).tally g.effects.tally)
      counted =
          let fragments : n ≡ tally.fragments + (0 + g.effects.tally.fragments) = omega (arith, g.emits.counted) in
          let samples : tally.samples + moof_samples begun_in.moof ≡ tally.samples + (moof_samples begun_in.moof + g.effects.tally.samples) = omega (arith, g.emits.plain.samples) in
          let bytes = sum_by (λ (run : Run). run.bytes) (runs_in begun_in) in
          let media : tally.media_bytes + bytes ≡ tally.media_bytes + (bytes + g.effects.tally.media_bytes) = omega (arith, g.emits.plain.media) in
          let inspected : tally.inspected ≡ tally.inspected + (0 + g.effects.tally.inspected) = omega (arith, g.emits.plain.inspected) in
          same_tally fragments samples media inspected

  -- ---- a write failed as the heads were put

  -- the effects of the mdat begin with those of some bytes of its payload
  media-first : (size : Size) (l : List ℕ) → (y : List ℕ) × (more : Effects) × ((then_read (reads_in (splitting cut)) (media_body (splitting cut) begun_in after_moof h size l)).effects ≡ both (output_of begun_in.payload.start (output_fragments cut begun_in) y) more)
  media-first (Exact s) l = by (nat_lt (length l) (s - h.header_len)) refl
    where
      by : (u : Bool) → nat_lt (length l) (s - h.header_len) ≡ u
          → (y : List ℕ) × (more : Effects) × ((then_read (reads_in (splitting cut)) (media_body (splitting cut) begun_in after_moof h (Exact s) l)).effects ≡ both (output_of begun_in.payload.start (output_fragments cut begun_in) y) more)
      by true e = (l, no_effects, rw e (sym (both-silent (output_of begun_in.payload.start (output_fragments cut begun_in) l))))
      by false e = (take (s - h.header_len) l, (reads_in (splitting cut) (context_after_fragment (splitting cut) begun_in (after_moof + s)) (drop (s - h.header_len) l)).effects, rw e refl)
  media-first ToEnd l = by (nat_lt (longest - (after_moof + h.header_len)) (length l)) (nat_lt (length l) (needed_in begun_in)) refl refl
    where
      by : (u t : Bool) → nat_lt (longest - (after_moof + h.header_len)) (length l) ≡ u → nat_lt (length l) (needed_in begun_in) ≡ t
          → (y : List ℕ) × (more : Effects) × ((then_read (reads_in (splitting cut)) (media_body (splitting cut) begun_in after_moof h ToEnd l)).effects ≡ both (output_of begun_in.payload.start (output_fragments cut begun_in) y) more)
      by true t e d = (take (longest - (after_moof + h.header_len)) l, no_effects, rw e (sym (both-silent (output_of begun_in.payload.start (output_fragments cut begun_in) (take (longest - (after_moof + h.header_len)) l)))))
      by false true e d = (l, no_effects, rw (e, d) (sym (both-silent (output_of begun_in.payload.start (output_fragments cut begun_in) l))))
      by false false e d = (l, no_effects, rw (e, d) (sym (both-silent (output_of begun_in.payload.start (output_fragments cut begun_in) l))))

  pub cut_short_first : (a b : Option (List ℕ)) (v w : Pending) (tally : Tally) (n own : ℕ) (account : Account) (s more : Effects) (r : Reading) → r.effects ≡ both ((splitting cut).accepted begun_in) (both s more) → own ≤ account.live → WriteFailedIn a b v w tally.fragments n s
      → WriteFailed (environment a v account tally) (environment b w (given_back account own) (with_samples begun_in tally n)) own r
  cut_short_first a b v w tally n own account s more r e low f =
      let none : own - own ≡ 0 = omega arith in
      let spent : Spends account (given_back account own) own 0 0 = subst (λ k. Spends account (given_back account own) own k 0) none (Spends-counts account (given_back account own) own (own - own) 0 (Counts-back account own own (omega arith) low)) in
      record {
        text = subst (λ t. BreaksMarked a b v w t.text t.fragment_ends) (sym e) (subst (BreaksMarked a b v w (s.text ++ more.text)) (sym (moved-none (s.fragment_ends ++ moved (length s.text) more.fragment_ends))) (BreaksMarked-longer more.text more.fragment_ends f.text));
        spends = Spends-more account (given_back account own) own 0 0 (most_of r.effects) (omega arith) spent;
        least = least_with_samples begun_in tally n f.least;
        most = subst (λ t. AtMost (with_samples begun_in tally n) (plus tally t.tally)) (sym e) (most_with_samples begun_in tally (both ((splitting cut).accepted begun_in) (both s more)).tally n (omega (arith, f.most)) (omega arith) (omega arith));
      }

  WriteFailed-begun : (a b : Option (List ℕ)) (v w : Pending) (tally : Tally) (n own : ℕ) (account : Account) → own ≤ account.live → ((y : List ℕ) → WriteFailedIn a b v w tally.fragments n (output_of begun_in.payload.start (output_fragments cut begun_in) y)) → (l : List ℕ)
      → WriteFailed (environment a v account tally) (environment b w (given_back account own) (with_samples begun_in tally n)) own ((continuation_at (splitting cut) (InMdatHeader c tracks moof x)).reads l)
  WriteFailed-begun a b v w tally n own account low f l =
      let meaning = splitting cut in
      let first = media-first h.size l in
      let reads : (continuation_at meaning (InMdatHeader c tracks moof x)).reads l ≡ after (meaning.accepted begun_in) (then_read (reads_in meaning) (media_body meaning begun_in after_moof h h.size l)) =
      ap (then_read (reads_in meaning)) (second-accepted meaning c tracks moof h x len is l near mdat good) ∙ then_read-emitted (reads_in meaning) (meaning.accepted begun_in) (media_body meaning begun_in after_moof h h.size l) in
      cut_short_first a b v w tally n own account (output_of begun_in.payload.start (output_fragments cut begun_in) first.0) first.1 ((continuation_at meaning (InMdatHeader c tracks moof x)).reads l) (ap (λ r. r.effects) reads ∙ ap (both (meaning.accepted begun_in)) first.2) low (f first.0)

  -- the media were begun
  pub GoesOn-has_begun : (pending_moof : PendingMoof) (s : Sent) (v w : Pending) (t t' : Tally) (new : Media) (account : Account) → HasRoom h.size h.header_len → HasBegun cut begun_in pending_moof s v w t t' new
      → GoesOn (environment s.written v account t) (environment s.written' w account t') (continuation_at (splitting cut) (InMdatHeader c tracks moof x)) []
      (continuation_at (splitting cut) (in_media cut begun_in (media_position cut begun_in.moof tracks begun_in.payload.start (t'.fragments + 1) new) after_moof h (with_runs c tracks moof) h.size))
  GoesOn-has_begun pending_moof s v w t t' new account room g =
      let q = media_position cut begun_in.moof tracks begun_in.payload.start (t'.fragments + 1) new in
      subst (λ k. GoesOn (environment s.written v account t) (environment s.written' w account k) (continuation_at (splitting cut) (InMdatHeader c tracks moof x)) [] (continuation_at (splitting cut) (in_media cut begun_in q after_moof h (with_runs c tracks moof) h.size))) (sym g.counted.tally)
      (GoesOn-begun s.written s.written' v w t t'.fragments q account room g.outputs)

  -- or a write failed
  pub WriteFailed-fails : (s : Sent) (v w : Pending) (t t' : Tally) (own : ℕ) (account : Account) → own ≤ account.live → FailsToBegin cut begun_in s v w t t' → (l : List ℕ)
      → WriteFailed (environment s.written v account t) (environment s.written' w (given_back account own) t') own ((continuation_at (splitting cut) (InMdatHeader c tracks moof x)).reads l)
  WriteFailed-fails s v w t t' own account low f l =
      subst (λ k. WriteFailed (environment s.written v account t) (environment s.written' w (given_back account own) k) own ((continuation_at (splitting cut) (InMdatHeader c tracks moof x)).reads l)) (sym f.counted.tally)
      (WriteFailed-begun s.written s.written' v w t t'.fragments own account low f.cut_short l)

-- ---- the mdat is done

-- all of a body came that is recut, and what isn't needed any more was given back
pub GoesOn-recut_over : (meaning : Meaning) (at : ℕ) (kind : FourCc) (o o' : Environment) (p : MediaPosition) (next : Context) (left own : ℕ) → NoHeadIsReady p → left ≡ 0 → Moves o o' own (table_of next.tracks) no_effects
    → GoesOn o o' (continuation_at meaning (InBody (output_from p) at kind next left own)) [] (continuation_at meaning (InHeader next []))
GoesOn-recut_over meaning at kind o o' p next left own settled e m = record {
  produced = no_effects;
  moves = m;
  reached = omega (arith, e);
  rest = λ later. body-over (reads_in meaning) at kind next (output_from p) left later e (output_from-quiet p settled) ∙ sym (after-silent (reads_in meaning next later));
}

-- ---- a box of another type is copied, or left out

both-copied : (t : Bool) (x y : List ℕ) → copied t (x ++ y) ≡ both (copied t x) (copied t y)
both-copied true x y = refl
both-copied false x y = refl

most-copied : (t : Bool) (x : List ℕ) → most_of (copied t x) ≡ 0
most-copied true x = refl
most-copied false x = refl

tally-copied : (t : Bool) (x : List ℕ) (tally : Tally) → tally ≡ plus tally (copied t x).tally
tally-copied true x tally = sym (plus-none tally)
tally-copied false x tally = sym (plus-none tally)

marks-copied : (t : Bool) (x : List ℕ) → (copied t x).fragment_ends ≡ []
marks-copied true x = refl
marks-copied false x = refl

-- bytes of it came, and went to the block where it is copied
pub GoesOn-copied : (cut : Cut) (type kind : FourCc) (at : ℕ) (a b : Option (List ℕ)) (v w : Pending) (account : Account) (tally : Tally) (next : Context) (x : List ℕ) (left own : ℕ) → length x ≤ left → left ≤ next.at
    → Passes a b v w (copied (is_dropped type.0) x).text
    → GoesOn (environment a v account tally) (environment b w account tally) (continuation_at (splitting cut) (InBody ((splitting cut).passed type) at kind next left own)) x (continuation_at (splitting cut) (InBody ((splitting cut).passed type) at kind next (left - length x) own))
GoesOn-copied cut type kind at a b v w account tally next x left own h low p =
    let t = is_dropped type.0 in
    record {
      produced = copied t x;
      moves = record {
        passes = subst (PassesMarked a b v w (copied t x).text) (sym (marks-copied t x)) p;
        counts = subst (λ k. Counts account account own own k) (sym (most-copied t x)) (Counts-none account own);
        tallied = tally-copied t x tally;
      };
      reached = omega (arith, h, low);
      rest = body-some (reads_in (splitting cut)) at kind next (copied t) (copied t) (copied t x) x left (λ later. both-copied t x later) h;
    }

-- ---- nothing was put yet

-- a span of no bytes is nowhere: what is put from there on is put from the first position on
pub Outputs-first : (cut : Cut) (f : Fragment) (a b : Option (List ℕ)) (v w : Pending) (m n : ℕ) (g : CopySpan) (ps : List OutputFragment) (q : MediaPosition) → g.left ≡ 0 → ps ≡ output_fragments cut f
    → Outputs a b v w m n (record { at = f.payload.start; place = g.place; left = g.left; ahead = ps }) [] q → Outputs a b v w m n (first_position cut f) [] q
Outputs-first cut f a b v w m n g ps q none all outputs = record {
  effects = outputs.effects;
  emits = outputs.emits;
  rest = λ later.
      ap (λ l. output_of f.payload.start l later) (sym all)
      ∙ ap (λ k. span_from f.payload.start g.place k (λ next rest. output_of next ps rest) later) (sym none)
      ∙ outputs.rest later;
}

pub WriteFailedIn-first : (cut : Cut) (f : Fragment) (a b : Option (List ℕ)) (v w : Pending) (m n : ℕ) (g : CopySpan) (ps : List OutputFragment) → g.left ≡ 0 → ps ≡ output_fragments cut f
    → ((later : List ℕ) → WriteFailedIn a b v w m n (output_from (record { at = f.payload.start; place = g.place; left = g.left; ahead = ps }) later)) → (y : List ℕ) → WriteFailedIn a b v w m n (output_of f.payload.start (output_fragments cut f) y)
WriteFailedIn-first cut f a b v w m n g ps none all cut_short y =
    subst (λ t. WriteFailedIn a b v w m n t) (ap (λ k. span_from f.payload.start g.place k (λ next rest. output_of next ps rest) y) none ∙ ap (λ l. output_of f.payload.start l y) all) (cut_short y)

-- ---- an mdat that goes to the end of the stream

module _ (a b : Option (List ℕ)) (v w : Pending) (tally : Tally) (n : ℕ) (meaning : Meaning) (at : ℕ) (kind : FourCc) (own : ℕ) (account : Account) where
  GoesOn-open_outputs : (needed left : ℕ) (p q : MediaPosition) (x : List ℕ) → length x ≤ left → left ≤ longest → Outputs a b v w tally.fragments n p x q
      → GoesOn (environment a v account tally) (environment b w account (with_fragments tally n)) (continuation_at meaning (InOpenBody (output_from p) at kind needed left own)) x (continuation_at meaning (InOpenBody (output_from q) at kind (needed - length x) (left - length x) own))
  GoesOn-open_outputs needed left p q x h low g = record {
    produced = g.effects;
    moves = Moves-emits a b v w tally n account own g.emits;
    reached = omega (arith, h, low);
    rest = open-some (reads_in meaning) at kind first_context (output_from p) (output_from q) g.effects x needed left g.rest h;
  }

-- its effects are those of its first bytes, as many as may come
open-first : (meaning : Meaning) (at : ℕ) (kind : FourCc) (f : List ℕ → Effects) (needed left : ℕ) (bytes : List ℕ) → (then_read (reads_in meaning) (open_body_item f at kind needed left bytes)).effects ≡ f (take left bytes)
open-first meaning at kind f needed left bytes = by (nat_lt left (length bytes)) (nat_lt (length bytes) needed) refl refl
  where
    by : (u t : Bool) → nat_lt left (length bytes) ≡ u → nat_lt (length bytes) needed ≡ t → (then_read (reads_in meaning) (open_body_item f at kind needed left bytes)).effects ≡ f (take left bytes)
    by true t e d = rw e refl
    by false true e d =
        let all : bytes ≡ take left bytes = sym (take_all left bytes (ltb-false _ _ e)) in
        rw (e, d) (ap f all)
    by false false e d =
        let all : bytes ≡ take left bytes = sym (take_all left bytes (ltb-false _ _ e)) in
        rw (e, d) (ap f all)

-- no more may come, and some byte does: the effects come before it
pub open-far_recut : (meaning : Meaning) (at : ℕ) (kind : FourCc) (p : MediaPosition) (needed own : ℕ) (bytes : List ℕ) → NoHeadIsReady p → 0 < length bytes
    → reads_at meaning (InOpenBody (output_from p) at kind needed 0 own) bytes ≡ record { effects = no_effects; outcome = Faulty (fault StreamTooLong (Some kind) at) }
open-far_recut meaning at kind p needed own bytes settled some =
    open-far (reads_in meaning) at kind first_context (output_from p) needed 0 bytes some ∙ ap (λ t. record { effects = t; outcome = Faulty (fault StreamTooLong (Some kind) at) }) (output_from-quiet p settled)

-- it goes too far, and its moof with the list and the table are given back
Refuses-open_recut : (meaning : Meaning) (at : ℕ) (kind : FourCc) (o : Environment) (needed own : ℕ) (p : MediaPosition) (x more : List ℕ) (table n : ℕ) → NoHeadIsReady p → 0 < length x → own ≡ table + n → own ≤ o.account.live
    → Refuses o (back_to (back_to o n) table) (continuation_at meaning (InOpenBody (output_from p) at kind needed 0 own)) (x ++ more) (fault StreamTooLong (Some kind) at)
Refuses-open_recut meaning at kind o needed own p x more table n settled some e low =
    Refuses-there o (back_to (back_to o n) table) (continuation_at meaning (InOpenBody (output_from p) at kind needed 0 own)) x more (fault StreamTooLong (Some kind) at)
    (subst (λ k. Moves o (back_to (back_to o n) table) k 0 no_effects) (sym e) (Moves-all_back o table n (omega (arith, e, low))))
    (λ later. open-far_recut meaning at kind p needed own (x ++ later) settled (omega (arith, some, length-append x later)))

-- it is full, so it goes to the end of the stream
pub Refuses-recut : (meaning : Meaning) (at : ℕ) (kind : FourCc) (o : Environment) (ts : Option (List Track)) (number left own : ℕ) (e : Extent) (p : MediaPosition) (x more : List ℕ) (table n : ℕ) → left ≡ 0 → HasMore left e → NoHeadIsReady p → 0 < length x → own ≡ table + n → own ≤ o.account.live
    → Refuses o (back_to (back_to o n) table) (continuation_at meaning (in_extent (output_from p) at kind ts number left own e)) (x ++ more) (fault StreamTooLong (Some kind) at)
Refuses-recut meaning at kind o ts number left own (extents.Sized next) p x more table n none is settled some e low = absurd (omega (arith, none, is))
Refuses-recut meaning at kind o ts number left own (extents.Open needed) p x more table n none is settled some e low =
    subst (λ k. Refuses o (back_to (back_to o n) table) (continuation_at meaning (InOpenBody (output_from p) at kind needed k own)) (x ++ more) (fault StreamTooLong (Some kind) at)) (sym none)
    (Refuses-open_recut meaning at kind o needed own p x more table n settled some e low)

-- ---- bytes of media were taken

-- its part of the bytes to come: those in the input, and those after the input
own-front : (left : ℕ) (input later : List ℕ) → take left (input ++ later) ≡ take (min left (length input)) input ++ take (left - length input) later
own-front left input later = by (cases_lt (length input) left)
  where
    by : (length input < left) ⊎ (left ≤ length input) → take left (input ++ later) ≡ take (min left (length input)) input ++ take (left - length input) later
    by (inl short) =
        let k : left ≡ length input + (left - length input) = omega (arith, short) in
        let all : take (min left (length input)) input ≡ input = take_all (min left (length input)) input (omega (arith, short)) in
        ap (λ k. take k (input ++ later)) k ∙ take-append-add input later (left - length input) ∙ ap (λ l. l ++ take (left - length input) later) (sym all)
    by (inr long) =
        let none : left - length input ≡ 0 = omega (arith, long) in
        let m : left ≡ min left (length input) = omega (arith, long) in
        take-append-le left input later long ∙ ap (λ k. take k input) m ∙ sym (append-nil (take (min left (length input)) input)) ∙ ap (λ k. take (min left (length input)) input ++ take k later) (sym none)

module _ (cut : Cut) (tracks : List Track) (pending_moof : PendingMoof) (s : Sent) (v w : Pending) (t t' : Tally) (old : Media) (input : List ℕ) where
  -- where so much is left before an end
  abbrev position_before : (end left : ℕ) → MediaPosition
  position_before end left = media_position cut (moof_in pending_moof) tracks (end - left) (t.fragments + 1) old

  -- and where some of it was taken
  abbrev position_after : (end left : ℕ) → Media → MediaPosition
  position_after end left m = media_position cut (moof_in pending_moof) tracks (end - left) (t'.fragments + 1) m

  -- of the bytes left before an end, all that the input has were taken
  abbrev Taking : (end left : ℕ) → Copied → Type 0
  Taking end left new = HasTaken cut tracks pending_moof s v w t t' (end - left) left old input new

  -- the place of the next byte
  reached-taken : (end left : ℕ) (new : Copied) → left ≤ end → Taking end left new → end - left + new.count ≡ end - (left - new.count)
  reached-taken end left new low g = omega (arith, low, g.count)

  len-taken : (end left : ℕ) (new : Copied) → Taking end left new → length (take new.count input) ≡ new.count
  len-taken end left new g = length-take-le new.count input (omega (arith, g.count))

  -- the effects of the bytes that were taken
  outputs-taken : (end left : ℕ) (new : Copied) → left ≤ end → Taking end left new → Outputs s.written s.written' v w t.fragments t'.fragments (position_before end left) (take new.count input) (position_after end (left - new.count) new.media)
  outputs-taken end left new low g =
      subst (λ k. Outputs s.written s.written' v w t.fragments t'.fragments (position_before end left) (take new.count input) (media_position cut (moof_in pending_moof) tracks k (t'.fragments + 1) new.media)) (reached-taken end left new low g) g.copy_taken.outputs

  -- what is left ends where it did
  pub Rises-taken : (end left : ℕ) (new : Copied) → left ≤ end → Taking end left new → Rises end (position_before end left) → Rises end (position_after end (left - new.count) new.media)
  Rises-taken end left new low g r =
      subst (λ k. Rises end (media_position cut (moof_in pending_moof) tracks k (t'.fragments + 1) new.media)) (reached-taken end left new low g) (g.copy_taken.rises end (omega (arith, low, g.count)) r)

  module _ (meaning : Meaning) (at : ℕ) (kind : FourCc) (own : ℕ) (account : Account) where
    -- in an mdat that states its size
    pub GoesOn-taken : (next : Context) (left : ℕ) (new : Copied) → left ≤ next.at → Taking next.at left new
        → GoesOn (environment s.written v account t) (environment s.written' w account t') (continuation_at meaning (InBody (output_from (position_before next.at left)) at kind next left own)) (take new.count input) (continuation_at meaning (InBody (output_from (position_after next.at (left - new.count) new.media)) at kind next (left - new.count) own))
    GoesOn-taken next left new low g =
        let p = position_before next.at left in
        let q = position_after next.at (left - new.count) new.media in
        let x = take new.count input in
        let len = len-taken next.at left new g in
        subst (λ k. GoesOn (environment s.written v account t) (environment s.written' w account k) (continuation_at meaning (InBody (output_from p) at kind next left own)) x (continuation_at meaning (InBody (output_from q) at kind next (left - new.count) own))) (sym g.counted.tally)
        (subst (λ l. GoesOn (environment s.written v account t) (environment s.written' w account (with_fragments t t'.fragments)) (continuation_at meaning (InBody (output_from p) at kind next left own)) x (continuation_at meaning (InBody (output_from q) at kind next (left - l) own))) len
        (GoesOn-outputs s.written s.written' v w t t'.fragments meaning at kind next own account left p q x (omega (arith, len, g.count)) low (outputs-taken next.at left new low g)))

    -- within a body that goes to the end of the stream
    GoesOn-open_taken : (needed left : ℕ) (new : Copied) → left ≤ longest → Taking longest left new
        → GoesOn (environment s.written v account t) (environment s.written' w account t') (continuation_at meaning (InOpenBody (output_from (position_before longest left)) at kind needed left own)) (take new.count input) (continuation_at meaning (InOpenBody (output_from (position_after longest (left - new.count) new.media)) at kind (needed - new.count) (left - new.count) own))
    GoesOn-open_taken needed left new low g =
        let p = position_before longest left in
        let q = position_after longest (left - new.count) new.media in
        let x = take new.count input in
        let len = len-taken longest left new g in
        subst (λ k. GoesOn (environment s.written v account t) (environment s.written' w account k) (continuation_at meaning (InOpenBody (output_from p) at kind needed left own)) x (continuation_at meaning (InOpenBody (output_from q) at kind (needed - new.count) (left - new.count) own))) (sym g.counted.tally)
        (subst (λ l. GoesOn (environment s.written v account t) (environment s.written' w account (with_fragments t t'.fragments)) (continuation_at meaning (InOpenBody (output_from p) at kind needed left own)) x (continuation_at meaning (InOpenBody (output_from q) at kind (needed - l) (left - l) own))) len
        (GoesOn-open_outputs s.written s.written' v w t t'.fragments meaning at kind own account needed left p q x (omega (arith, len, g.count)) low (outputs-taken longest left new low g)))

    -- a write failed: the effects of the place begin with those of its own bytes
    cut_short-taken : (end left : ℕ) (more later : List ℕ) (rest : Effects) (r : Reading) → r.effects ≡ both (output_from (position_before end left) (take left (input ++ (more ++ later)))) rest → own ≤ account.live → FailsToTake cut tracks pending_moof s v w t t' (end - left) left old input
        → WriteFailed (environment s.written v account t) (environment s.written' w (given_back account own) t') own r
    cut_short-taken end left more later rest r e low f =
        let p = position_before end left in
        let own_later = take (left - length input) (more ++ later) in
        subst (λ k. WriteFailed (environment s.written v account t) (environment s.written' w (given_back account own) k) own r) (sym f.counted.tally)
        (WriteFailed-first s.written s.written' v w t t'.fragments own account (output_from p (take left (input ++ (more ++ later)))) rest r e low
        (subst (λ l. WriteFailedIn s.written s.written' v w t.fragments t'.fragments (output_from p l)) (sym (own-front left input (more ++ later))) (f.uncopied.cut_short own_later)))

    -- so it is in an mdat that states its size
    WriteFailed-taken : (next : Context) (left : ℕ) → own ≤ account.live → FailsToTake cut tracks pending_moof s v w t t' (next.at - left) left old input → (more later : List ℕ)
        → WriteFailed (environment s.written v account t) (environment s.written' w (given_back account own) t') own (reads_at meaning (InBody (output_from (position_before next.at left)) at kind next left own) (input ++ more ++ later))
    WriteFailed-taken next left low f more later =
        let p = position_before next.at left in
        let first = body-first meaning at kind next (output_from p) left (input ++ (more ++ later)) in
        subst (λ l. WriteFailed (environment s.written v account t) (environment s.written' w (given_back account own) t') own (reads_at meaning (InBody (output_from p) at kind next left own) l)) (sym (append_assoc input more later))
        (cut_short-taken next.at left more later first.0 (reads_at meaning (InBody (output_from p) at kind next left own) (input ++ (more ++ later))) first.1 low f)

    -- and in one that goes to the end of the stream
    WriteFailed-open_taken : (needed left : ℕ) → own ≤ account.live → FailsToTake cut tracks pending_moof s v w t t' (longest - left) left old input → (more later : List ℕ)
        → WriteFailed (environment s.written v account t) (environment s.written' w (given_back account own) t') own (reads_at meaning (InOpenBody (output_from (position_before longest left)) at kind needed left own) (input ++ more ++ later))
    WriteFailed-open_taken needed left low f more later =
        let p = position_before longest left in
        let emitted = output_from p (take left (input ++ (more ++ later))) in
        subst (λ l. WriteFailed (environment s.written v account t) (environment s.written' w (given_back account own) t') own (reads_at meaning (InOpenBody (output_from p) at kind needed left own) l)) (sym (append_assoc input more later))
        (cut_short-taken longest left more later no_effects (reads_at meaning (InOpenBody (output_from p) at kind needed left own) (input ++ (more ++ later)))
        (open-first meaning at kind (output_from p) needed left (input ++ (more ++ later)) ∙ sym (both-silent emitted)) low f)

    -- by how far the mdat goes
    pub GoesOn-recut : (ts : Option (List Track)) (number left : ℕ) (e : Extent) (new : Copied) → left ≤ latest_end e → Taking (latest_end e) left new
        → GoesOn (environment s.written v account t) (environment s.written' w account t') (continuation_at meaning (in_extent (output_from (position_before (latest_end e) left)) at kind ts number left own e)) (take new.count input) (continuation_at meaning (in_extent (output_from (position_after (latest_end (extent_after new.count e)) (left - new.count) new.media)) at kind ts number (left - new.count) own (extent_after new.count e)))
    GoesOn-recut ts number left (extents.Sized next) new low g = GoesOn-taken (context next ts number) left new low g
    GoesOn-recut ts number left (extents.Open needed) new low g = GoesOn-open_taken needed left new low g

    pub WriteFailed-recut : (ts : Option (List Track)) (number left : ℕ) (e : Extent) → own ≤ account.live → FailsToTake cut tracks pending_moof s v w t t' (latest_end e - left) left old input → (more later : List ℕ)
        → WriteFailed (environment s.written v account t) (environment s.written' w (given_back account own) t') (claim_of (in_extent (output_from (position_before (latest_end e) left)) at kind ts number left own e)) (reads_at meaning (in_extent (output_from (position_before (latest_end e) left)) at kind ts number left own e) (input ++ more ++ later))
    WriteFailed-recut ts number left (extents.Sized next) low f more later = WriteFailed-taken (context next ts number) left low f more later
    WriteFailed-recut ts number left (extents.Open needed) low f more later = WriteFailed-open_taken needed left low f more later

  -- what is left ends where it did
  pub RisesIn-taken : (left : ℕ) (e : Extent) (new : Copied) → left ≤ latest_end e → Taking (latest_end e) left new → RisesIn e (position_before (latest_end e) left)
      → RisesIn (extent_after new.count e) (position_after (latest_end (extent_after new.count e)) (left - new.count) new.media)
  RisesIn-taken left (extents.Sized next) new low g r = Rises-taken next left new low g r
  RisesIn-taken left (extents.Open needed) new low g r = tt

-- ---- the media of an accepted fragment ascend

-- a fragment without a fault has none by the places of its runs
pub none-first : {X : Type 0} (a b : Option X) → option_or a b ≡ None → a ≡ None
none-first None b e = refl
none-first (Some x) b e = absurd (cc)

-- its payload ends no earlier than it begins
pub room-in : (at n : ℕ) (size : Size) (end : ℕ) → HasRoom size n → end_of at size ≡ Some end → at + n ≤ end
room-in at n (Exact s) end room e = let same : at + s ≡ end = some-same e in omega (arith, room, same)
  where
    some-same : {a b : ℕ} → Some a ≡ Some b → a ≡ b
    some-same e = cc
room-in at n ToEnd end room e = absurd (cc)

-- runs whose pieces can be written are runs of their moof
pub all-runs : (cut : Cut) (moof_bytes : List ℕ) (runs : List Run) → AllByRecursion (CanCut cut moof_bytes) runs → AllByRecursion (IsRunOf moof_bytes) runs
all-runs cut moof_bytes [] all = tt
all-runs cut moof_bytes (run ∷ runs) all = (all.0.is, all-runs cut moof_bytes runs all.1)
