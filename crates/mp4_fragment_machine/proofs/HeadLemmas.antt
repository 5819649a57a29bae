-- The header of a box at the front of a fragmented stream.
use Rattle.std.proofs.Common.{◌≡◌, ◌∙◌, ℕ, ◌+◌, ◌-◌, ◌<◌, ◌≤◌, List, [], ◌∷◌, ◌++◌, length, take, drop, Option, None, Some, append-nil, ap, sym, refl, arith, length-append, subst}
use Rattle.std.proofs.Math.Seq.{take-append_seam, drop-append_seam}
use Rattle.mp4_box.specs.declared.headers.Header.{Header}
use Rattle.mp4_box.specs.declared.headers.Size.{Size}
use Rattle.mp4_box.specs.declared.headers.Size.TheVariants.{Exact, ToEnd}
use Rattle.mp4_box.specs.declared.headers.Step.{Step}
use Rattle.mp4_box.specs.declared.headers.Step.TheVariants as steps
use Rattle.mp4_box.specs.declared.rules.Rule.{Rule}
use Rattle.mp4_box.specs.declared.rules.Rule.TheVariants.{Truncated, BadSize, TooLarge, StreamTooLong}
use Rattle.mp4_box.specs.Headers.{need, header_at, kind_of}
use Rattle.mp4_box.proofs.HeaderLemmas.{header_at-append, whole_is, need-least, is_cut}
use Rattle.mp4_box.specs.declared.rules.Fault.{Fault}
use Rattle.mp4_init.specs.declared.table.Track.{Track}
use Rattle.mp4_ledger.specs.declared.ledger.Refused.{Refused}
use Rattle.mp4_ledger.specs.declared.ledger.Refused.TheVariants as refusals
use Rattle.mp4_machine.specs.Bodies.{HasBytes, longest, fault, at_fault, cut_off, extent_of, least_end, left_of, body_item, open_body_item}
use Rattle.mp4_machine.specs.Readings.{fault_in, empty_reading, Faulty, Last, Effects, no_effects, requests_memory, after, then_read}
use Rattle.mp4_machine.specs.Inputs.{Environment, Continuation, Moves, GoesOn, Refuses, ClaimRefused, StopsAt, refusal_of}
use Rattle.mp4_machine.proofs.BodyLemmas.{body-some, open-some, nat_lt_true, nat_lt_false}
use Rattle.mp4_machine.proofs.HeadLemmas.{kind_of-append}
use Rattle.mp4_machine.proofs.ContinuationLemmas.{GoesOn-gathered}
use Rattle.mp4_machine.proofs.ReadingLemmas.{read_all-front, then_read-emitted, after-silent}
use Rattle.mp4_machine.proofs.InputLemmas.{claimed_from, back_to, Moves-claim, Moves-back, GoesOn-silent, GoesOn-more}
use Rattle.mp4_grammar.specs.declared.kinds.Kind.{Kind}
use Rattle.mp4_grammar.specs.declared.kinds.Kind.TheVariants.{Other}
use Rattle.mp4_grammar.specs.Contexts.{Context, context, table_of}
use Rattle.mp4_grammar.specs.Items.{box_from, box_in, item, item_by, buffered_body, keeping, passing, reads_in}
use Rattle.mp4_grammar.specs.Kinds.{kind_in}
use Rattle.mp4_grammar.specs.Meanings.{Meaning}
use Rattle.mp4_grammar.proofs.ItemLemmas.{item-items}
use Rattle.mp4_grammar.specs.Meanings.{FragmentEndsPast}
use Rattle.mp4_grammar.proofs.PastLemmas.{kept-past}
use Rattle.mp4_fragment_machine.specs.Places.{InBody, InHeader, InBuffered, InOpenBody, continuation_at}
use Rattle.mp4_fragment_machine.specs.States.{in_extent}

-- ---- what the bytes are read as

module _ (meaning : Meaning) (c : Context) where
  reads-front : (bytes : List ℕ) → reads_in meaning c bytes ≡ then_read (reads_in meaning) (item meaning c bytes)
  reads-front bytes = read_all-front (item meaning) (item-items meaning) c bytes

  item-some : (x : List ℕ) → 0 < length x → item meaning c x ≡ item_by meaning c x (header_at x)
  unfolding item
  item-some [] h = absurd (omega arith)
  item-some (b ∷ x) h = refl

  reads-header : (x later : List ℕ) (s : Step) → length x ≡ need x → header_at x ≡ s → reads_in meaning c (x ++ later) ≡ then_read (reads_in meaning) (item_by meaning c (x ++ later) s)
  reads-header x later s len e =
      reads-front (x ++ later) ∙ ap (then_read (reads_in meaning)) (item-some (x ++ later) (omega (arith, need-least x, length-append x later)) ∙ ap (item_by meaning c (x ++ later)) (header_at-append x later (omega arith) ∙ e))

  reads-whole : (x later : List ℕ) (h : Header) → length x ≡ need x → header_at x ≡ steps.Whole h → reads_in meaning c (x ++ later) ≡ then_read (reads_in meaning) (box_from meaning c h x later)
  reads-whole x later h len e =
      let w = whole_is x h e in
      let same : h.header_len ≡ length x = omega (arith, w.1) in
      reads-header x later (steps.Whole h) len e
      ∙ ap (λ l. then_read (reads_in meaning) (box_from meaning c h l (drop h.header_len (x ++ later)))) (ap (λ n. take n (x ++ later)) same ∙ take-append_seam x later)
      ∙ ap (λ l. then_read (reads_in meaning) (box_from meaning c h x l)) (ap (λ n. drop n (x ++ later)) same ∙ drop-append_seam x later)

  pub reads-bad : (x later : List ℕ) → length x ≡ need x → header_at x ≡ steps.BadSize → reads_in meaning c (x ++ later) ≡ at_fault BadSize (kind_of x) c.at
  reads-bad x later len e = reads-header x later steps.BadSize len e ∙ ap (λ k. at_fault BadSize k c.at) (kind_of-append x later (omega (arith, need-least x)))

  pub reads-more : (x : List ℕ) → 0 < length x → length x < need x → reads_in meaning c x ≡ cut_off Truncated (kind_of x) c.at
  reads-more x some short = reads-front x ∙ ap (then_read (reads_in meaning)) (item-some x some ∙ ap (item_by meaning c x) (is_cut x short))

  pub reads-none : reads_in meaning c [] ≡ empty_reading
  reads-none = reads-front [] ∙ ap (then_read (reads_in meaning)) ((item-items meaning).empty c)

  -- by the kind of the box, which doesn't go too far
  module _ (h : Header) (x : List ℕ) (len : length x ≡ need x) (is : header_at x ≡ steps.Whole h) where
    reads-far : (later : List ℕ) → longest < least_end c.at h h.size → reads_in meaning c (x ++ later) ≡ at_fault StreamTooLong (Some h.kind) c.at
    reads-far later far = reads-whole x later h len is ∙ rw (nat_lt_true longest (least_end c.at h h.size) far) refl

    pub reads-kind : (k : Kind) (tracks : Option (List Track)) (later : List ℕ) → least_end c.at h h.size ≤ longest → kind_in h.kind.0 ≡ k → c.tracks ≡ tracks → reads_in meaning c (x ++ later) ≡ then_read (reads_in meaning) (box_in meaning c h x later k tracks)
    reads-kind k tracks later near e f =
        reads-whole x later h len is ∙ rw (nat_lt_false longest (least_end c.at h h.size) near) (ap (λ j. then_read (reads_in meaning) (box_in meaning c h x later j c.tracks)) e ∙ ap (λ t. then_read (reads_in meaning) (box_in meaning c h x later k t)) f)

-- ---- bytes of it

pub GoesOn-head : (meaning : Meaning) (o : Environment) (c : Context) (buffered x new : List ℕ) → new ≡ buffered ++ x → GoesOn o o (continuation_at meaning (InHeader c buffered)) x (continuation_at meaning (InHeader c new))
GoesOn-head meaning o c buffered x new e =
    GoesOn-gathered o (reads_in meaning c) c.at (table_of c.tracks) buffered x new e

-- whatever follows, a fault is read: the track table is given back
pub Refuses-at : (o : Environment) (p : Continuation) (table : ℕ) (more : List ℕ) (f : Fault) → p.claim ≡ table → table ≤ o.account.live → ((later : List ℕ) → p.reads later ≡ record { effects = no_effects; outcome = Faulty f }) → Refuses o (back_to o table) p more f
Refuses-at o p table more f same low r = record {
  produced = no_effects;
  moves = rw same (subst (λ n. Moves' n) (omega arith) (Moves-back o table table (omega arith) low));
  rest = λ later. r (more ++ later);
}
  where
    Moves' : ℕ → Type 0
    Moves' n = Moves o (back_to o table) table n no_effects

pub Refuses-bad : (meaning : Meaning) (o : Environment) (at number : ℕ) (tracks : Option (List Track)) (x : List ℕ) → length x ≡ need x → table_of tracks ≤ o.account.live → (more : List ℕ) → header_at x ≡ steps.BadSize
    → Refuses o (back_to o (table_of tracks)) (continuation_at meaning (InHeader (context at tracks number) x)) more (fault BadSize (kind_of x) at)
Refuses-bad meaning o at number tracks x len low more bad =
    Refuses-at o (continuation_at meaning (InHeader (context at tracks number) x)) (table_of tracks) more (fault BadSize (kind_of x) at) refl low (λ later. reads-bad meaning (context at tracks number) x later len bad)

module _ (meaning : Meaning) (o : Environment) (at number : ℕ) (tracks : Option (List Track)) (h : Header) (x : List ℕ) (len : length x ≡ need x) (low : table_of tracks ≤ o.account.live) where
  module _ (is : header_at x ≡ steps.Whole h) where
    pub Refuses-far : (more : List ℕ) → longest < least_end at h h.size → Refuses o (back_to o (table_of tracks)) (continuation_at meaning (InHeader (context at tracks number) x)) more (fault StreamTooLong (Some h.kind) at)
    Refuses-far more far =
        Refuses-at o (continuation_at meaning (InHeader (context at tracks number) x)) (table_of tracks) more (fault StreamTooLong (Some h.kind) at) refl low (λ later. reads-far meaning (context at tracks number) h x len is later far)

    -- a box that may not be here
    pub Refuses-box : (more : List ℕ) (k : Kind) (rule : Rule) → least_end at h h.size ≤ longest → kind_in h.kind.0 ≡ k
        → ((later : List ℕ) → box_in meaning (context at tracks number) h x later k tracks ≡ Last (at_fault rule (Some h.kind) at))
        → Refuses o (back_to o (table_of tracks)) (continuation_at meaning (InHeader (context at tracks number) x)) more (fault rule (Some h.kind) at)
    Refuses-box more k rule near kind r =
        Refuses-at o (continuation_at meaning (InHeader (context at tracks number) x)) (table_of tracks) more (fault rule (Some h.kind) at) refl low
        (λ later. reads-kind meaning (context at tracks number) h x len is k tracks later near kind refl ∙ ap (then_read (reads_in meaning)) (r later))

-- ---- a box that is to be held

module _ (meaning : Meaning) (o : Environment) (at number : ℕ) (tracks : Option (List Track)) (h : Header) (x : List ℕ) (limit : ℕ) (low : table_of tracks ≤ o.account.live)
    (reads : (later : List ℕ) → reads_in meaning (context at tracks number) (x ++ later) ≡ then_read (reads_in meaning) (keeping meaning (context at tracks number) h limit (x ++ later) h.size)) where
  pub Refuses-unsized : (more : List ℕ) → h.size ≡ ToEnd → Refuses o (back_to o (table_of tracks)) (continuation_at meaning (InHeader (context at tracks number) x)) more (fault TooLarge (Some h.kind) at)
  Refuses-unsized more e =
      Refuses-at o (continuation_at meaning (InHeader (context at tracks number) x)) (table_of tracks) more (fault TooLarge (Some h.kind) at) refl low
      (λ later. reads later ∙ ap (λ z. then_read (reads_in meaning) (keeping meaning (context at tracks number) h limit (x ++ later) z)) e)

  module _ (s : ℕ) (size : h.size ≡ Exact s) where
    pub Refuses-large : (more : List ℕ) → limit < s → Refuses o (back_to o (table_of tracks)) (continuation_at meaning (InHeader (context at tracks number) x)) more (fault TooLarge (Some h.kind) at)
    Refuses-large more large =
        Refuses-at o (continuation_at meaning (InHeader (context at tracks number) x)) (table_of tracks) more (fault TooLarge (Some h.kind) at) refl low
        (λ later. reads later ∙ ap (λ z. then_read (reads_in meaning) (keeping meaning (context at tracks number) h limit (x ++ later) z)) size ∙ rw (nat_lt_true limit s large) refl)

    module _ (fits : s ≤ limit) where
      reads-kept : (later : List ℕ) → reads_in meaning (context at tracks number) (x ++ later) ≡ after (requests_memory at (table_of tracks + s)) (then_read (reads_in meaning) (buffered_body meaning (context at tracks number) h.kind s (x ++ later)))
      reads-kept later =
          reads later ∙ ap (λ z. then_read (reads_in meaning) (keeping meaning (context at tracks number) h limit (x ++ later) z)) size
          ∙ rw (nat_lt_false limit s fits) (then_read-emitted (reads_in meaning) (requests_memory at (table_of tracks + s)) (buffered_body meaning (context at tracks number) h.kind s (x ++ later)))

      pub GoesOn-keep : 0 < s → GoesOn o (claimed_from o s) (continuation_at meaning (InHeader (context at tracks number) x)) [] (continuation_at meaning (InBuffered (context at tracks number) h.kind s x))
      GoesOn-keep some = record {
        produced = requests_memory at (table_of tracks + s);
        moves = Moves-claim o (table_of tracks) s at low (omega (arith, some));
        reached = omega arith;
        rest = λ later. reads-kept later;
      }

      ClaimRefused-keep : FragmentEndsPast meaning → (more : List ℕ) → ClaimRefused o (back_to o (table_of tracks)) (continuation_at meaning (InHeader (context at tracks number) x)) more
      ClaimRefused-keep past more = record {
        produced = no_effects;
        moves = subst (λ n. Moves o (back_to o (table_of tracks)) (table_of tracks) n no_effects) (omega arith) (Moves-back o (table_of tracks) (table_of tracks) (omega arith) low);
        at = at;
        sum = table_of tracks + s;
        continues = λ later. then_read (reads_in meaning) (buffered_body meaning (context at tracks number) h.kind s (x ++ (more ++ later)));
        past = λ later. kept-past meaning past (context at tracks number) h.kind s (x ++ (more ++ later));
        rest = λ later. reads-kept (more ++ later) ∙ sym (after-silent _);
      }

      pub StopsAt-keep : FragmentEndsPast meaning → (more : List ℕ) (r : Refused) → (r ≡ refusals.OverLimit → o.account.limit < o.account.live + s) → (r ≡ refusals.Memory → o.account.live + s ≤ o.account.limit)
          → StopsAt o (back_to o (table_of tracks)) (continuation_at meaning (InHeader (context at tracks number) x)) more (refusal_of r)
      unfolding ClaimRefused-keep
      StopsAt-keep past more refusals.OverLimit over within = (ClaimRefused-keep past more, omega (arith, over refl, low))
      StopsAt-keep past more refusals.Memory over within = (ClaimRefused-keep past more, omega (arith, within refl, low))

-- ---- a box that is passed over

module _ (meaning : Meaning) (o : Environment) (at number : ℕ) (tracks : Option (List Track)) (h : Header) (x : List ℕ) (len : length x ≡ need x) (is : header_at x ≡ steps.Whole h)
    (near : least_end at h h.size ≤ longest) (other : kind_in h.kind.0 ≡ Other) (silence : (b : List ℕ) → meaning.passed h.kind b ≡ no_effects) where
  emit : List ℕ → Effects
  emit = λ _. no_effects

  long : h.header_len ≡ length x
  long = omega (arith, (whole_is x h is).1, len)

  passes : (later : List ℕ) → reads_in meaning (context at tracks number) (x ++ later) ≡ then_read (reads_in meaning) (passing meaning (context at tracks number) h.kind (x ++ later) h.size)
  passes later = reads-kind meaning (context at tracks number) h x len is Other tracks later near other refl

  pub GoesOn-other : (s : ℕ) → h.size ≡ Exact s → h.header_len ≤ s
      → GoesOn o o (continuation_at meaning (InHeader (context at tracks number) x)) [] (continuation_at meaning (InBody (λ _. no_effects) at h.kind (context (at + s) tracks number) (s - h.header_len) (table_of tracks)))
  GoesOn-other s size room =
      GoesOn-silent o (continuation_at meaning (InHeader (context at tracks number) x)) (continuation_at meaning (InBody (λ _. no_effects) at h.kind (context (at + s) tracks number) (s - h.header_len) (table_of tracks))) [] refl (omega (arith, room, long))
      (λ later. passes later ∙ ap (λ z. then_read (reads_in meaning) (passing meaning (context at tracks number) h.kind (x ++ later) z)) size
      ∙ body-some (reads_in meaning) at h.kind (context (at + s) tracks number) (meaning.passed h.kind) (λ _. no_effects) no_effects x s (λ l. silence (x ++ l)) (omega (arith, room, long)) later
      ∙ after-silent _ ∙ ap (λ n. then_read (reads_in meaning) (body_item (λ _. no_effects) at h.kind (context (at + s) tracks number) (s - n) later)) (sym long))

  GoesOn-other_open : h.size ≡ ToEnd → GoesOn o o (continuation_at meaning (InHeader (context at tracks number) x)) [] (continuation_at meaning (InOpenBody (λ _. no_effects) at h.kind 0 (longest - (at + h.header_len)) (table_of tracks)))
  GoesOn-other_open size =
      let far : at + h.header_len ≤ longest = subst (λ z. least_end at h z ≤ longest) size near in
      let less : longest - at - length x ≡ longest - (at + h.header_len) = omega (arith, long) in
      let none : 0 - length x ≡ 0 = omega arith in
      GoesOn-silent o (continuation_at meaning (InHeader (context at tracks number) x)) (continuation_at meaning (InOpenBody (λ _. no_effects) at h.kind 0 (longest - (at + h.header_len)) (table_of tracks))) [] refl (omega (arith, far, long))
      (λ later. passes later ∙ ap (λ z. then_read (reads_in meaning) (passing meaning (context at tracks number) h.kind (x ++ later) z)) size
      ∙ open-some (reads_in meaning) at h.kind (context at tracks number) (meaning.passed h.kind) (λ _. no_effects) no_effects x 0 (longest - at) (λ l. silence (x ++ l)) (omega (arith, far, long)) later
      ∙ after-silent _ ∙ ap (λ n. then_read (reads_in meaning) (open_body_item (λ _. no_effects) at h.kind (0 - length x) n later)) less
      ∙ ap (λ n. then_read (reads_in meaning) (open_body_item (λ _. no_effects) at h.kind n (longest - (at + h.header_len)) later)) none)

  pub GoesOn-other_body : (size : Size) → h.size ≡ size → HasBytes at h size
      → GoesOn o o (continuation_at meaning (InHeader (context at tracks number) x)) [] (continuation_at meaning (in_extent (λ _. no_effects) at h.kind tracks number (left_of at h size) (table_of tracks) (extent_of at 0 size)))
  GoesOn-other_body (Exact s) is some = GoesOn-other s is (omega (arith, some.0))
  GoesOn-other_body ToEnd is some = GoesOn-other_open is

-- ---- the end of the stream

module _ (meaning : Meaning) (c : Context) where
  pub ends-header : (buffered : List ℕ) → 0 < length buffered → length buffered < need buffered → fault_in (reads_in meaning c (buffered ++ [])).outcome ≡ Some (fault Truncated (kind_of buffered) c.at)
  ends-header buffered some short = ap (λ r. fault_in r.outcome) (ap (reads_in meaning c) (append-nil buffered) ∙ reads-more meaning c buffered some short)

  pub ends-none : (buffered : List ℕ) → buffered ≡ [] → fault_in (reads_in meaning c (buffered ++ [])).outcome ≡ None
  ends-none buffered e = ap (λ l. fault_in (reads_in meaning c (l ++ [])).outcome) e ∙ ap (λ r. fault_in r.outcome) (reads-none meaning c)

-- ---- two steps without a byte

pub GoesOn-both : {o o' o'' : Environment} {p q r : Continuation} → p.claim ≤ o.account.live → GoesOn o o' p [] q → GoesOn o' o'' q [] r → GoesOn o o'' p [] r
GoesOn-both {p = p} {r = r} low g h = GoesOn-more {p = p} low g [] r h
