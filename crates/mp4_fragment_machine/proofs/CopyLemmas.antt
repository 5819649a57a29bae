-- A box that is copied.
use Rattle.std.proofs.Common.{◌≡◌, ◌∙◌, ℕ, ◌+◌, ◌-◌, ◌<◌, ◌≤◌, List, [], ◌++◌, length, take, drop, length-append, append_assoc, Option, Some, ap, sym, refl, arith, subst}
use Rattle.std.proofs.lemmas.List.{length-take-le, take-append-drop}
use Rattle.std.proofs.Math.Seq.{take-append-le}
use Rattle.mp4_box.specs.Headers.{HasRoom, header_at, need}
use Rattle.mp4_box.specs.declared.headers.FourCc.{FourCc}
use Rattle.mp4_box.specs.declared.headers.Header.{Header}
use Rattle.mp4_box.specs.declared.headers.Size.{Size}
use Rattle.mp4_box.specs.declared.headers.Size.TheVariants.{Exact, ToEnd}
use Rattle.mp4_box.specs.declared.headers.Step.TheVariants as steps
use Rattle.mp4_box.specs.declared.rules.Rule.TheVariants.{StreamTooLong}
use Rattle.mp4_box.proofs.HeaderLemmas.{whole_is}
use Rattle.mp4_ledger.specs.Memory.{Account, given_back}
use Rattle.mp4_init.specs.declared.table.Track.{Track}
use Rattle.mp4_machine.specs.Accounts.{Counts, Spends}
use Rattle.mp4_machine.specs.Blocks.{Breaks, Passes, Pending}
use Rattle.mp4_machine.specs.Bodies.{HasBytes, IsOpen, body_item, extent_after, extent_of, fault, latest_end, least_end, left_of, longest, open_body_item}
use Rattle.mp4_machine.specs.declared.body.Extent.{Extent}
use Rattle.mp4_machine.specs.declared.body.Extent.TheVariants as extents
use Rattle.mp4_machine.specs.Readings.{Faulty, Reading, after, says, no_effects, then_read}
use Rattle.mp4_machine.specs.Inputs.{Environment, Moves, GoesOn, Refuses, WriteFailed, environment}
use Rattle.mp4_machine.specs.declared.tally.Tally.{Tally}
use Rattle.mp4_machine.proofs.AccountLemmas.{Counts-back, Counts-none, Spends-counts}
use Rattle.mp4_machine.proofs.BodyLemmas.{body-some, body-over, open-some, open-far}
use Rattle.mp4_machine.proofs.InputLemmas.{Moves-none, WriteFailed-emitted}
use Rattle.mp4_machine.proofs.ReadingLemmas.{after-silent}
use Rattle.mp4_machine.proofs.ReadingAskLemmas.{plus-none}
use Rattle.mp4_grammar.specs.Contexts.{Context, context, first_context, table_of}
use Rattle.mp4_grammar.specs.Items.{passing, reads_in}
use Rattle.mp4_grammar.specs.Kinds.{kind_in}
use Rattle.mp4_grammar.specs.Meanings.{Meaning}
use Rattle.mp4_grammar.specs.declared.kinds.Kind.TheVariants.{Other}
use Rattle.mp4_fragment_machine.specs.Places.{InBody, InHeader, InOpenBody, claim_of, continuation_at, reads_at}
use Rattle.mp4_fragment_machine.specs.States.{in_extent}
use Rattle.mp4_fragment_machine.proofs.HeadLemmas.{reads-kind}

-- what is claimed is given back
pub spends-back : (account : Account) (own : ℕ) → own ≤ account.live → Spends account (given_back account own) own 0 0
spends-back account own low =
    let none : own - own ≡ 0 = omega arith in
    subst (λ k. Spends account (given_back account own) own k 0) none (Spends-counts account (given_back account own) own (own - own) 0 (Counts-back account own own (omega arith) low))

module _ (meaning : Meaning) (at : ℕ) (kind : FourCc) (a b : Option (List ℕ)) (v w : Pending) (account : Account) (tally : Tally) where
  pub Moves-says : (own : ℕ) (x : List ℕ) → Passes a b v w x → Moves (environment a v account tally) (environment b w account tally) own own (says x)
  Moves-says own x p = record { passes = p; counts = Counts-none account own; tallied = sym (plus-none tally) }

  -- some bytes of its body came
  GoesOn-says : (next : Context) (x : List ℕ) (left own : ℕ) → length x ≤ left → left ≤ next.at → Passes a b v w x
      → GoesOn (environment a v account tally) (environment b w account tally) (continuation_at meaning (InBody (λ l. says l) at kind next left own)) x (continuation_at meaning (InBody (λ l. says l) at kind next (left - length x) own))
  GoesOn-says next x left own h low p = record {
    produced = says x;
    moves = Moves-says own x p;
    reached = omega (arith, h, low);
    rest = body-some (reads_in meaning) at kind next (λ l. says l) (λ l. says l) (says x) x left (λ later. refl) h;
  }

  GoesOn-open_says : (x : List ℕ) (needed left own : ℕ) → length x ≤ left → left ≤ longest → Passes a b v w x
      → GoesOn (environment a v account tally) (environment b w account tally) (continuation_at meaning (InOpenBody (λ l. says l) at kind needed left own)) x (continuation_at meaning (InOpenBody (λ l. says l) at kind (needed - length x) (left - length x) own))
  GoesOn-open_says x needed left own h low p = record {
    produced = says x;
    moves = Moves-says own x p;
    reached = omega (arith, h, low);
    rest = open-some (reads_in meaning) at kind first_context (λ l. says l) (λ l. says l) (says x) x needed left (λ later. refl) h;
  }

  cut_at : (n : ℕ) (input later : List ℕ) → input ++ later ≡ take n input ++ (drop n input ++ later)
  cut_at n input later = ap (λ l. l ++ later) (sym (take-append-drop n input)) ∙ append_assoc (take n input) (drop n input) later

  -- they could not be written
  WriteFailed-says : (next : Context) (left own n : ℕ) (input later : List ℕ) → n ≤ left → n ≤ length input → own ≤ account.live → Breaks a b v w (take n input)
      → WriteFailed (environment a v account tally) (environment b w (given_back account own) tally) own (reads_at meaning (InBody (λ l. says l) at kind next left own) (input ++ later))
  WriteFailed-says next left own n input later few within low p =
      let x = take n input in
      let len : length x ≡ n = length-take-le n input within in
      let place = λ (l : ℕ). InBody (λ l. says l) at kind next l own in
      WriteFailed-emitted (environment a v account tally) (environment b w (given_back account own) tally) own (says x) (reads_at meaning (place (left - length x)) (drop n input ++ later)) (reads_at meaning (place left) (input ++ later))
      (ap (reads_at meaning (place left)) (cut_at n input later) ∙ body-some (reads_in meaning) at kind next (λ l. says l) (λ l. says l) (says x) x left (λ later. refl) (omega (arith, len, few)) (drop n input ++ later))
      p (spends-back account own low) (sym (plus-none tally))

  WriteFailed-open_says : (needed left own n : ℕ) (input later : List ℕ) → n ≤ left → n ≤ length input → own ≤ account.live → Breaks a b v w (take n input)
      → WriteFailed (environment a v account tally) (environment b w (given_back account own) tally) own (reads_at meaning (InOpenBody (λ l. says l) at kind needed left own) (input ++ later))
  WriteFailed-open_says needed left own n input later few within low p =
      let x = take n input in
      let len : length x ≡ n = length-take-le n input within in
      WriteFailed-emitted (environment a v account tally) (environment b w (given_back account own) tally) own (says x) (reads_at meaning (InOpenBody (λ l. says l) at kind (needed - length x) (left - length x) own) (drop n input ++ later)) (reads_at meaning (InOpenBody (λ l. says l) at kind needed left own) (input ++ later))
      (ap (reads_at meaning (InOpenBody (λ l. says l) at kind needed left own)) (cut_at n input later) ∙ open-some (reads_in meaning) at kind first_context (λ l. says l) (λ l. says l) (says x) x needed left (λ later. refl) (omega (arith, len, few)) (drop n input ++ later))
      p (spends-back account own low) (sym (plus-none tally))

  -- so it is by how far the body goes
  pub GoesOn-copied : (tracks : Option (List Track)) (number left own n : ℕ) (e : Extent) (input : List ℕ) → n ≤ left → n ≤ length input → left ≤ latest_end e → Passes a b v w (take n input)
      → GoesOn (environment a v account tally) (environment b w account tally) (continuation_at meaning (in_extent (λ l. says l) at kind tracks number left own e)) (take n input) (continuation_at meaning (in_extent (λ l. says l) at kind tracks number (left - n) own (extent_after n e)))
  GoesOn-copied tracks number left own n (extents.Sized next) input few within low p =
      let x = take n input in
      let len : length x ≡ n = length-take-le n input within in
      let place = λ (k : ℕ). InBody (λ l. says l) at kind (context next tracks number) k own in
      subst (λ k. GoesOn (environment a v account tally) (environment b w account tally) (continuation_at meaning (place left)) x (continuation_at meaning (place (left - k)))) len
      (GoesOn-says (context next tracks number) x left own (omega (arith, len, few)) low p)
  GoesOn-copied tracks number left own n (extents.Open needed) input few within low p =
      let x = take n input in
      let len : length x ≡ n = length-take-le n input within in
      subst (λ k. GoesOn (environment a v account tally) (environment b w account tally) (continuation_at meaning (InOpenBody (λ l. says l) at kind needed left own)) x (continuation_at meaning (InOpenBody (λ l. says l) at kind (needed - k) (left - k) own))) len
      (GoesOn-open_says x needed left own (omega (arith, len, few)) low p)

  pub WriteFailed-copied : (tracks : Option (List Track)) (number left own n : ℕ) (e : Extent) (input later : List ℕ) → n ≤ left → n ≤ length input → own ≤ account.live → Breaks a b v w (take n input)
      → WriteFailed (environment a v account tally) (environment b w (given_back account own) tally) (claim_of (in_extent (λ l. says l) at kind tracks number left own e)) (reads_at meaning (in_extent (λ l. says l) at kind tracks number left own e) (input ++ later))
  WriteFailed-copied tracks number left own n (extents.Sized next) input later few within low p = WriteFailed-says (context next tracks number) left own n input later few within low p
  WriteFailed-copied tracks number left own n (extents.Open needed) input later few within low p = WriteFailed-open_says needed left own n input later few within low p

-- all of its body came
pub GoesOn-says_over : (meaning : Meaning) (at : ℕ) (kind : FourCc) (o : Environment) (next : Context) (left : ℕ) → left ≡ 0
    → GoesOn o o (continuation_at meaning (InBody (λ l. says l) at kind next left (table_of next.tracks))) [] (continuation_at meaning (InHeader next []))
GoesOn-says_over meaning at kind o next left e = record {
  produced = no_effects;
  moves = Moves-none o (table_of next.tracks);
  reached = omega (arith, e);
  rest = λ later. body-over (reads_in meaning) at kind next (λ l. says l) left later e refl ∙ sym (after-silent (reads_in meaning next later));
}

-- ---- it begins, with the bytes of its header

module _ (meaning : Meaning) (o : Environment) (at number : ℕ) (tracks : Option (List Track)) (h : Header) (x : List ℕ) (len : length x ≡ need x) (is : header_at x ≡ steps.Whole h)
    (near : least_end at h h.size ≤ longest) (other : kind_in h.kind.0 ≡ Other) (effects : (b : List ℕ) → meaning.passed h.kind b ≡ says b) where
  long : h.header_len ≡ length x
  long = omega (arith, (whole_is x h is).1, len)

  passes : (later : List ℕ) → reads_in meaning (context at tracks number) (x ++ later) ≡ then_read (reads_in meaning) (passing meaning (context at tracks number) h.kind (x ++ later) h.size)
  passes later = reads-kind meaning (context at tracks number) h x len is Other tracks later near other refl

  rest-copy : (s : ℕ) → h.size ≡ Exact s → h.header_len ≤ s → (later : List ℕ)
      → reads_in meaning (context at tracks number) (x ++ later) ≡ after (says x) (reads_at meaning (InBody (λ l. says l) at h.kind (context (at + s) tracks number) (s - h.header_len) (table_of tracks)) later)
  rest-copy s size room later =
      passes later ∙ ap (λ z. then_read (reads_in meaning) (passing meaning (context at tracks number) h.kind (x ++ later) z)) size
      ∙ body-some (reads_in meaning) at h.kind (context (at + s) tracks number) (meaning.passed h.kind) (λ l. says l) (says x) x s (λ l. effects (x ++ l)) (omega (arith, room, long)) later
      ∙ ap (λ n. after (says x) (then_read (reads_in meaning) (body_item (λ l. says l) at h.kind (context (at + s) tracks number) (s - n) later))) (sym long)

  rest-copy_open : h.size ≡ ToEnd → (later : List ℕ)
      → reads_in meaning (context at tracks number) (x ++ later) ≡ after (says x) (reads_at meaning (InOpenBody (λ l. says l) at h.kind 0 (longest - (at + h.header_len)) (table_of tracks)) later)
  rest-copy_open size later =
      let far : at + h.header_len ≤ longest = subst (λ z. least_end at h z ≤ longest) size near in
      let less : longest - at - length x ≡ longest - (at + h.header_len) = omega (arith, long) in
      let none : 0 - length x ≡ 0 = omega arith in
      passes later ∙ ap (λ z. then_read (reads_in meaning) (passing meaning (context at tracks number) h.kind (x ++ later) z)) size
      ∙ open-some (reads_in meaning) at h.kind (context at tracks number) (meaning.passed h.kind) (λ l. says l) (says x) x 0 (longest - at) (λ l. effects (x ++ l)) (omega (arith, far, long)) later
      ∙ ap (λ n. after (says x) (then_read (reads_in meaning) (open_body_item (λ l. says l) at h.kind (0 - length x) n later))) less
      ∙ ap (λ n. after (says x) (then_read (reads_in meaning) (open_body_item (λ l. says l) at h.kind n (longest - (at + h.header_len)) later))) none

  pub GoesOn-copy : (s : ℕ) → h.size ≡ Exact s → h.header_len ≤ s → (a : Option (List ℕ)) (v : Pending) → Passes o.written a o.waiting v x
      → GoesOn o (environment a v o.account o.tally) (continuation_at meaning (InHeader (context at tracks number) x)) [] (continuation_at meaning (InBody (λ l. says l) at h.kind (context (at + s) tracks number) (s - h.header_len) (table_of tracks)))
  GoesOn-copy s size room a v p = record {
    produced = says x;
    moves = Moves-says meaning at h.kind o.written a o.waiting v o.account o.tally (table_of tracks) x p;
    reached = omega (arith, room, long);
    rest = rest-copy s size room;
  }

  GoesOn-copy_open : h.size ≡ ToEnd → (a : Option (List ℕ)) (v : Pending) → Passes o.written a o.waiting v x
      → GoesOn o (environment a v o.account o.tally) (continuation_at meaning (InHeader (context at tracks number) x)) [] (continuation_at meaning (InOpenBody (λ l. says l) at h.kind 0 (longest - (at + h.header_len)) (table_of tracks)))
  GoesOn-copy_open size a v p =
      let far : at + h.header_len ≤ longest = subst (λ z. least_end at h z ≤ longest) size near in
      record {
        produced = says x;
        moves = Moves-says meaning at h.kind o.written a o.waiting v o.account o.tally (table_of tracks) x p;
        reached = omega (arith, far, long);
        rest = rest-copy_open size;
      }

  pub GoesOn-copy_body : (size : Size) → h.size ≡ size → HasBytes at h size → (a : Option (List ℕ)) (v : Pending) → Passes o.written a o.waiting v x
      → GoesOn o (environment a v o.account o.tally) (continuation_at meaning (InHeader (context at tracks number) x)) [] (continuation_at meaning (in_extent (λ l. says l) at h.kind tracks number (left_of at h size) (table_of tracks) (extent_of at 0 size)))
  GoesOn-copy_body (Exact s) is some a v p = GoesOn-copy s is (omega (arith, some.0)) a v p
  GoesOn-copy_body ToEnd is some a v p = GoesOn-copy_open is a v p

  -- its header could not be written
  pub WriteFailed-copy : HasRoom h.size h.header_len → (a : Option (List ℕ)) (v : Pending) → Breaks o.written a o.waiting v x → table_of tracks ≤ o.account.live → (later : List ℕ)
      → WriteFailed o (environment a v (given_back o.account (table_of tracks)) o.tally) (table_of tracks) ((continuation_at meaning (InHeader (context at tracks number) x)).reads later)
  WriteFailed-copy room a v p low later =
      let first = by h.size refl room in
      WriteFailed-emitted o (environment a v (given_back o.account (table_of tracks)) o.tally) (table_of tracks) (says x) first.0 ((continuation_at meaning (InHeader (context at tracks number) x)).reads later) first.1 p (spends-back o.account (table_of tracks) low) (sym (plus-none o.tally))
    where
      by : (z : Size) → h.size ≡ z → HasRoom z h.header_len → (r : Reading) × (reads_in meaning (context at tracks number) (x ++ later) ≡ after (says x) r)
      by (Exact s) e fits = (reads_at meaning (InBody (λ l. says l) at h.kind (context (at + s) tracks number) (s - h.header_len) (table_of tracks)) later, rest-copy s e fits later)
      by ToEnd e fits = (reads_at meaning (InOpenBody (λ l. says l) at h.kind 0 (longest - (at + h.header_len)) (table_of tracks)) later, rest-copy_open e later)

-- ---- it goes too far

-- the bytes before the fault were put, and the track table is given back
Refuses-open_says : (meaning : Meaning) (at : ℕ) (kind : FourCc) (a b : Option (List ℕ)) (v w : Pending) (account : Account) (tally : Tally) (needed left own : ℕ) (input more : List ℕ) → own ≤ account.live → left < length input → Passes a b v w (take left input)
    → Refuses (environment a v account tally) (environment b w (given_back account own) tally) (continuation_at meaning (InOpenBody (λ l. says l) at kind needed left own)) (input ++ more) (fault StreamTooLong (Some kind) at)
Refuses-open_says meaning at kind a b v w account tally needed left own input more low far p =
    let none : own - own ≡ 0 = omega arith in
    record {
      produced = says (take left input);
      moves = record {
        passes = p;
        counts = subst (λ k. Counts account (given_back account own) own k 0) none (Counts-back account own own (omega arith) low);
        tallied = sym (plus-none tally);
      };
      rest = λ later.
          open-far (reads_in meaning) at kind first_context (λ l. says l) needed left ((input ++ more) ++ later) (omega (arith, far, length-append input more, length-append (input ++ more) later))
          ∙ ap (λ l. record { effects = says l; outcome = Faulty (fault StreamTooLong (Some kind) at) }) (ap (take left) (append_assoc input more later) ∙ take-append-le left input (more ++ later) (omega (arith, far)));
    }

pub Refuses-copied : (meaning : Meaning) (at : ℕ) (kind : FourCc) (a b : Option (List ℕ)) (v w : Pending) (account : Account) (tally : Tally) (tracks : Option (List Track)) (number left own : ℕ) (e : Extent) (input more : List ℕ) → IsOpen e → own ≤ account.live → left < length input → Passes a b v w (take left input)
    → Refuses (environment a v account tally) (environment b w (given_back account own) tally) (continuation_at meaning (in_extent (λ l. says l) at kind tracks number left own e)) (input ++ more) (fault StreamTooLong (Some kind) at)
Refuses-copied meaning at kind a b v w account tally tracks number left own (extents.Sized next) input more is low far p = absurd is
Refuses-copied meaning at kind a b v w account tally tracks number left own (extents.Open needed) input more is low far p = Refuses-open_says meaning at kind a b v w account tally needed left own input more low far p
