-- A moov or moof of which all bytes came.
use Rattle.std.proofs.Common.{◌≡◌, ◌∙◌, ℕ, ◌+◌, ◌*◌, ◌<◌, ◌≤◌, List, [], ◌++◌, length, take, drop, Option, None, Some, IsSome, Result, Err, inl, inr, ap, sym, refl, arith, length-append, subst}
use Rattle.std.proofs.Math.Seq.{take-append_seam, drop-append_seam}
use Rattle.std.proofs.lemmas.Bool.{cases_lt}
use Rattle.std.specs.Option.{option_or}
use Rattle.mp4_box.specs.declared.headers.FourCc.{FourCc}
use Rattle.mp4_box.specs.declared.rules.Fault.{Fault}
use Rattle.mp4_box.specs.Order.{least}
use Rattle.mp4_init.specs.declared.moov.InitStop.{InitStop}
use Rattle.mp4_init.specs.declared.moov.InitStop.TheVariants as init
use Rattle.mp4_init.specs.Moovs.{moov_fault, moov_tracks}
use Rattle.mp4_init.specs.declared.table.Track.{Track}
use Rattle.mp4_ledger.specs.declared.ledger.Refused.{Refused}
use Rattle.mp4_ledger.specs.declared.ledger.Refused.TheVariants as refusals
use Rattle.mp4_frag.specs.Moofs.{fault_before_times, moof_fault, moof_runs, moof_trafs, time_faults}
use Rattle.mp4_traf.specs.Runs.{moof_at}
use Rattle.mp4_box.proofs.HeaderLemmas.{whole_is, need-least}
use Rattle.mp4_machine.specs.Buffering.{Begins}
use Rattle.mp4_machine.specs.Readings.{Effects, most_of, no_effects, both, says, counts, requests_memory, plus, after, after_effects, then_read}
use Rattle.mp4_machine.specs.Accounts.{Spends}
use Rattle.mp4_machine.specs.Blocks.{Breaks, BreaksMarked, Passes, Pending}
use Rattle.mp4_machine.specs.Inputs.{Environment, Continuation, Moves, GoesOn, Refuses, ClaimRefused, StopsAt, WriteFailed, environment, refusal_of}
use Rattle.mp4_machine.specs.declared.stop.Stop.TheVariants.{Write}
use Rattle.mp4_machine.specs.declared.tally.Tally.{Tally}
use Rattle.mp4_machine.proofs.AccountLemmas.{Counts-none, Spends-counts, Spends-more}
use Rattle.mp4_machine.proofs.BlockLemmas.{BreaksMarked-longer, Passes-none}
use Rattle.mp4_machine.proofs.BodyLemmas.{nat_lt_false}
use Rattle.mp4_machine.proofs.ReadingLemmas.{then_read-emitted, after-silent, after-both, both-silent}
use Rattle.mp4_machine.proofs.InputLemmas.{claimed_from, back_to, Moves-more, Moves-claim, Moves-back}
use Rattle.mp4_grammar.specs.Contexts.{Context, context}
use Rattle.mp4_grammar.specs.Items.{after_moof, inspected, buffered_body, moof_box, reads_in, timed_box, whole_box_by, with_runs}
use Rattle.mp4_grammar.specs.Meanings.{Meaning}
use Rattle.mp4_fragment_machine.specs.Implementation.Stops.{stop_of}
use Rattle.mp4_machine.proofs.PastLemmas.{both-past}
use Rattle.mp4_grammar.specs.Meanings.{FragmentEndsPast}
use Rattle.mp4_grammar.proofs.PastLemmas.{after_moof-past, reads_past}
use Rattle.mp4_fragment_machine.specs.Places.{InHeader, InBuffered, InMdatHeader, continuation_at, reads_at}
use Rattle.mp4_machine.proofs.ReadingAskLemmas.{AtMost-same, AtMost-plus}

module _ (meaning : Meaning) (c : Context) (kind : FourCc) (size : ℕ) (x : List ℕ) (len : length x ≡ size) where
  -- all of it came
  kept-whole : (later : List ℕ) → buffered_body meaning c kind size (x ++ later) ≡ whole_box_by meaning c x later c.tracks
  kept-whole later =
      let front : take size (x ++ later) ≡ x = ap (λ n. take n (x ++ later)) (sym len) ∙ take-append_seam x later in
      let rest : drop size (x ++ later) ≡ later = ap (λ n. drop n (x ++ later)) (sym len) ∙ drop-append_seam x later in
      rw (nat_lt_false (length (x ++ later)) size (omega (arith, length-append x later)))
      (ap (λ l. whole_box_by meaning c l (drop size (x ++ later)) c.tracks) front ∙ ap (λ l. whole_box_by meaning c x l c.tracks) rest)

  pub reads-held : (later : List ℕ) → reads_at meaning (InBuffered c kind size x) later ≡ then_read (reads_in meaning) (whole_box_by meaning c x later c.tracks)
  reads-held later = ap (then_read (reads_in meaning)) (kept-whole later)

-- the same environment with these counts
abbrev pub tallied : Environment → Tally → Environment
tallied o t = record { written = o.written; waiting = o.waiting; account = o.account; tally = t }

-- all that is claimed is given back: what is held, and then the table of the tracks
pub Moves-all_back : (o : Environment) (table size : ℕ) → table + size ≤ o.account.live → Moves o (back_to (back_to o size) table) (table + size) 0 no_effects
Moves-all_back o table size low =
    subst (Moves o (back_to (back_to o size) table) (table + size) 0) (both-silent no_effects)
    (Moves-more low (subst (λ n. Moves o (back_to o size) (table + size) n no_effects) (omega arith) (Moves-back o (table + size) size (omega arith) low))
    (subst (λ n. Moves (back_to o size) (back_to (back_to o size) table) table n no_effects) (omega arith) (Moves-back (back_to o size) table table (omega arith) (omega (arith, low)))))

-- ---- a moov

module _ (meaning : Meaning) (o : Environment) (at number : ℕ) (kind : FourCc) (size : ℕ) (x : List ℕ) (len : length x ≡ size) (low : size ≤ o.account.live) where
  given : Moves o (back_to o size) (0 + size) 0 no_effects
  given = subst (λ n. Moves o (back_to o size) (0 + size) n no_effects) (omega arith) (Moves-back o (0 + size) size (omega arith) (omega (arith, low)))

  -- it is at fault
  pub Refuses-moov : (more : List ℕ) (f : Fault) → moov_fault at x ≡ Some f → Refuses o (back_to o size) (continuation_at meaning (InBuffered (context at None number) kind size x)) more f
  Refuses-moov more f bad = record {
    produced = no_effects;
    moves = given;
    rest = λ later. reads-held meaning (context at None number) kind size x len (more ++ later) ∙ rw bad refl;
  }

  -- its tracks are known
  requested : Effects
  requested = requests_memory at (length x + 64 * length (moov_tracks at x))

  moov-reads : (later : List ℕ) → moov_fault at x ≡ None
      → reads_at meaning (InBuffered (context at None number) kind size x) later ≡ after (both (requests_memory at (length x + 64 * length (moov_tracks at x))) (says (meaning.of_moov x))) (reads_in meaning (context (at + length x) (Some (moov_tracks at x)) number) later)
  moov-reads later good = reads-held meaning (context at None number) kind size x len later ∙ rw good refl

  -- and it is put, as it is written
  pub GoesOn-moov_put : 0 < size → moov_fault at x ≡ None → (u : Option (List ℕ)) (v : Pending) → Passes o.written u o.waiting v (meaning.of_moov x)
      → GoesOn o (environment u v (back_to (claimed_from o (64 * length (moov_tracks at x))) size).account o.tally) (continuation_at meaning (InBuffered (context at None number) kind size x)) [] (continuation_at meaning (InHeader (context (at + size) (Some (moov_tracks at x)) number) []))
  GoesOn-moov_put some good u v p =
      let n = 64 * length (moov_tracks at x) in
      let sum : 0 + size + n ≡ length x + n = omega (arith, len) in
      let m : Moves o (back_to (claimed_from o n) size) (0 + size) n (both (requests_memory at (length x + n)) no_effects) =
      Moves-more (omega (arith, low)) (subst (λ k. Moves o (claimed_from o n) (0 + size) (0 + size + n) (requests_memory at k)) sum (Moves-claim o (0 + size) n at (omega (arith, low)) (omega (arith, some))))
      (subst (λ k. Moves (claimed_from o n) (back_to (claimed_from o n) size) (0 + size + n) k no_effects) (omega arith) (Moves-back (claimed_from o n) (0 + size + n) size (omega arith) (omega (arith, low)))) in
      record {
        produced = both (requests_memory at (length x + n)) (says (meaning.of_moov x));
        moves = record { passes = p; counts = m.counts; tallied = m.tallied };
        reached = omega (arith, len);
        rest = λ later. moov-reads later good ∙ ap (λ k. after (both (requests_memory at (length x + n)) (says (meaning.of_moov x))) (reads_in meaning (context (at + k) (Some (moov_tracks at x)) number) later)) len;
      }

  -- it could not be put: it is given back, and so is the table
  pub WriteFailed-moov : 0 < size → moov_fault at x ≡ None → (u : Option (List ℕ)) (v : Pending) → Breaks o.written u o.waiting v (meaning.of_moov x) → (later : List ℕ)
      → WriteFailed o (environment u v (back_to (back_to (claimed_from o (64 * length (moov_tracks at x))) size) (64 * length (moov_tracks at x))).account o.tally) (0 + size) ((continuation_at meaning (InBuffered (context at None number) kind size x)).reads later)
  WriteFailed-moov some good u v p later =
      let n = 64 * length (moov_tracks at x) in
      let sum : 0 + size + n ≡ length x + n = omega (arith, len) in
      let t = both (requests_memory at (length x + n)) (says (meaning.of_moov x)) in
      let r = (continuation_at meaning (InBuffered (context at None number) kind size x)).reads later in
      let e : r ≡ after t (reads_in meaning (context (at + length x) (Some (moov_tracks at x)) number) later) = moov-reads later good in
      let claims = Moves-claim o (0 + size) n at (omega (arith, low)) (omega (arith, some)) in
      let claim : Moves o (claimed_from o n) (0 + size) (0 + size + n) (requests_memory at (length x + n)) = subst (λ k. Moves o (claimed_from o n) (0 + size) (0 + size + n) (requests_memory at k)) sum claims in
      let both_back : Moves (claimed_from o n) (back_to (back_to (claimed_from o n) size) n) (0 + size + n) 0 no_effects =
      subst (λ k. Moves (claimed_from o n) (back_to (back_to (claimed_from o n) size) n) (0 + size + n) 0 k) (both-silent no_effects)
      (Moves-more (omega (arith, low)) (subst (λ k. Moves (claimed_from o n) (back_to (claimed_from o n) size) (0 + size + n) k no_effects) (omega arith) (Moves-back (claimed_from o n) (0 + size + n) size (omega arith) (omega (arith, low))))
      (subst (λ k. Moves (back_to (claimed_from o n) size) (back_to (back_to (claimed_from o n) size) n) n k no_effects) (omega arith) (Moves-back (back_to (claimed_from o n) size) n n (omega arith) (omega (arith, low))))) in
      let all : Moves o (back_to (back_to (claimed_from o n) size) n) (0 + size) 0 (both (requests_memory at (length x + n)) no_effects) = Moves-more (omega (arith, low)) claim both_back in
      let rest = reads_in meaning (context (at + length x) (Some (moov_tracks at x)) number) later in
      let account = (back_to (back_to (claimed_from o n) size) n).account in
      record {
        text = subst (λ q. BreaksMarked o.written u o.waiting v q.effects.text q.effects.fragment_ends) (sym e) (BreaksMarked-longer rest.effects.text rest.effects.fragment_ends p);
        spends = subst (λ q. Spends o.account account (0 + size) 0 (most_of q.effects)) (sym e)
            (Spends-more o.account account (0 + size) 0 (most_of (both (requests_memory at (length x + n)) no_effects)) (most_of (after t rest).effects) (omega arith) (Spends-counts o.account account (0 + size) 0 (most_of (both (requests_memory at (length x + n)) no_effects)) all.counts));
        least = AtMost-same o.tally;
        most = AtMost-plus o.tally _;
      }

  -- their table is refused
  ClaimRefused-moov : FragmentEndsPast meaning → (more : List ℕ) → moov_fault at x ≡ None → ClaimRefused o (back_to o size) (continuation_at meaning (InBuffered (context at None number) kind size x)) more
  ClaimRefused-moov past more good = record {
    produced = no_effects;
    moves = given;
    at = at;
    sum = length x + 64 * length (moov_tracks at x);
    continues = λ later. after (says (meaning.of_moov x)) (reads_in meaning (context (at + length x) (Some (moov_tracks at x)) number) (more ++ later));
    past = λ later. both-past (says (meaning.of_moov x)) (reads_in meaning (context (at + length x) (Some (moov_tracks at x)) number) (more ++ later)).effects tt (reads_past meaning past (context (at + length x) (Some (moov_tracks at x)) number) (more ++ later));
    rest = λ later. moov-reads (more ++ later) good ∙ sym (after-silent _ ∙ after-both (requests_memory at (length x + 64 * length (moov_tracks at x))) (says (meaning.of_moov x)) _);
  }

  pub StopsAt-table : FragmentEndsPast meaning → (more : List ℕ) (r : Refused) → moov_fault at x ≡ None → (r ≡ refusals.OverLimit → o.account.limit < o.account.live + 64 * length (moov_tracks at x)) → (r ≡ refusals.Memory → o.account.live + 64 * length (moov_tracks at x) ≤ o.account.limit)
      → StopsAt o (back_to o size) (continuation_at meaning (InBuffered (context at None number) kind size x)) more (refusal_of r)
  unfolding ClaimRefused-moov
  StopsAt-table past more refusals.OverLimit good over within = (ClaimRefused-moov past more good, omega (arith, over refl, low, len))
  StopsAt-table past more refusals.Memory good over within = (ClaimRefused-moov past more good, omega (arith, within refl, low, len))

  -- its tracks can't be had
  pub StopsAt-moov : FragmentEndsPast meaning → (more : List ℕ) (w : InitStop) → ((f : Fault) → w ≡ init.Fault f → moov_fault at x ≡ Some f)
      → ((r : Refused) → w ≡ init.Refused r → (moov_fault at x ≡ None) × (r ≡ refusals.OverLimit → o.account.limit < o.account.live + 64 * length (moov_tracks at x)) × (r ≡ refusals.Memory → o.account.live + 64 * length (moov_tracks at x) ≤ o.account.limit))
      → StopsAt o (back_to o size) (continuation_at meaning (InBuffered (context at None number) kind size x)) more (stop_of w)
  StopsAt-moov past more (init.Fault f) bad refused = Refuses-moov more f (bad f refl)
  StopsAt-moov past more (init.Refused r) bad refused = let why = refused r refl in StopsAt-table past more r why.0 why.1 why.2

-- ---- a moof

module _ (meaning : Meaning) (o : Environment) (at number : ℕ) (tracks : List Track) (kind : FourCc) (size : ℕ) (x : List ℕ) (len : length x ≡ size) where
  -- the counts after it, once its samples were inspected
  abbrev pub inspection : Environment
  inspection = record { written = o.written; waiting = o.waiting; account = o.account; tally = plus o.tally (inspected (moof_at x at)) }

  Moves-inspection : Moves o inspection (64 * length tracks + size) (64 * length tracks + size) (counts (inspected (moof_at x at)))
  Moves-inspection = record { passes = Passes-none o.written o.waiting; counts = Counts-none o.account (64 * length tracks + size); tallied = refl }

  module _ (low : 64 * length tracks + size ≤ o.account.live) where
    -- it is at fault by the other rules: nothing was counted
    pub Refuses-early : (more : List ℕ) (f : Fault) → fault_before_times (moof_at x at) tracks ≡ Some f → Refuses o (back_to (back_to o size) (64 * length tracks)) (continuation_at meaning (InBuffered (context at (Some tracks) number) kind size x)) more f
    Refuses-early more f bad = record {
      produced = no_effects;
      moves = Moves-all_back o (64 * length tracks) size low;
      rest = λ later. reads-held meaning (context at (Some tracks) number) kind size x len (more ++ later) ∙ rw bad refl;
    }

    -- its times are at fault
    pub Refuses-late : (more : List ℕ) (f : Fault) → fault_before_times (moof_at x at) tracks ≡ None → least (time_faults (moof_trafs (moof_at x at) tracks)) ≡ Some f
        → Refuses o (back_to (back_to inspection size) (64 * length tracks)) (continuation_at meaning (InBuffered (context at (Some tracks) number) kind size x)) more f
    Refuses-late more f good bad = record {
      produced = both (counts (inspected (moof_at x at))) no_effects;
      moves = Moves-more low Moves-inspection (Moves-all_back inspection (64 * length tracks) size low);
      rest = λ later. reads-held meaning (context at (Some tracks) number) kind size x len (more ++ later) ∙ rw (good, bad) refl;
    }

    -- it is at fault: its samples were counted if they were inspected
    pub Refuses-judged : (t : Tally) (more : List ℕ) (f : Fault) → moof_fault (moof_at x at) tracks ≡ Some f → (fault_before_times (moof_at x at) tracks ≡ None → t ≡ plus o.tally (inspected (moof_at x at))) → (IsSome (fault_before_times (moof_at x at) tracks) → t ≡ o.tally)
        → Refuses o (tallied (back_to (back_to o size) (64 * length tracks)) t) (continuation_at meaning (InBuffered (context at (Some tracks) number) kind size x)) more f
    Refuses-judged t more f bad counted none = by (fault_before_times (moof_at x at) tracks) refl
      where
        p : Continuation
        p = continuation_at meaning (InBuffered (context at (Some tracks) number) kind size x)

        by : (e : Option Fault) → fault_before_times (moof_at x at) tracks ≡ e → Refuses o (tallied (back_to (back_to o size) (64 * length tracks)) t) p more f
        by None is = subst (λ k. Refuses o (tallied (back_to (back_to o size) (64 * length tracks)) k) p more f) (sym (counted is)) (Refuses-late more f is (rw is at bad))
        by (Some g) is = subst (λ k. Refuses o (tallied (back_to (back_to o size) (64 * length tracks)) k) p more f) (sym (none (rw is refl))) (Refuses-early more f (is ∙ rw is at bad))

    module _ (good : fault_before_times (moof_at x at) tracks ≡ None) (timed : least (time_faults (moof_trafs (moof_at x at) tracks)) ≡ None) where
      moof-reads : (later : List ℕ) → reads_at meaning (InBuffered (context at (Some tracks) number) kind size x) later
          ≡ after (counts (inspected (moof_at x at))) (after (requests_memory at (with_runs (context at (Some tracks) number) tracks x)) (reads_at meaning (InMdatHeader (context at (Some tracks) number) tracks x []) later))
      moof-reads later =
          let c = context at (Some tracks) number in
          let requested = requests_memory at (with_runs c tracks x) in
          reads-held meaning c kind size x len later
          ∙ ap (λ v. then_read (reads_in meaning) (moof_box meaning c tracks x later v)) good
          ∙ ap (λ v. then_read (reads_in meaning) (after_effects (counts (inspected (moof_at x at))) (timed_box meaning c tracks x later v))) timed
          ∙ then_read-emitted (reads_in meaning) (counts (inspected (moof_at x at))) (after_effects requested (after_moof meaning c tracks x later))
          ∙ ap (after (counts (inspected (moof_at x at)))) (then_read-emitted (reads_in meaning) requested (after_moof meaning c tracks x later))

      -- it waits, with a list of its runs
      pub GoesOn-moof : 0 < size → GoesOn o (claimed_from inspection (64 * length (moof_runs (moof_at x at) tracks))) (continuation_at meaning (InBuffered (context at (Some tracks) number) kind size x)) [] (continuation_at meaning (InMdatHeader (context at (Some tracks) number) tracks x []))
      GoesOn-moof some =
          let n = 64 * length (moof_runs (moof_at x at) tracks) in
          let sum : 64 * length tracks + size + n ≡ 64 * length tracks + length x + n = omega (arith, len) in
          record {
            produced = both (counts (inspected (moof_at x at))) (requests_memory at (64 * length tracks + length x + n));
            moves = Moves-more low Moves-inspection (subst (λ k. Moves inspection (claimed_from inspection n) (64 * length tracks + size) k (requests_memory at k)) sum (Moves-claim inspection (64 * length tracks + size) n at low (omega (arith, some))));
            reached = omega (arith, len);
            rest = λ later. moof-reads later ∙ after-both (counts (inspected (moof_at x at))) (requests_memory at (64 * length tracks + length x + n)) _;
          }

      -- the list is refused
      ClaimRefused-moof : FragmentEndsPast meaning → (more : List ℕ) → ClaimRefused o (back_to (back_to inspection size) (64 * length tracks)) (continuation_at meaning (InBuffered (context at (Some tracks) number) kind size x)) more
      ClaimRefused-moof past more = record {
        produced = both (counts (inspected (moof_at x at))) no_effects;
        moves = Moves-more low Moves-inspection (Moves-all_back inspection (64 * length tracks) size low);
        at = at;
        sum = with_runs (context at (Some tracks) number) tracks x;
        continues = λ later. reads_at meaning (InMdatHeader (context at (Some tracks) number) tracks x []) (more ++ later);
        past = λ later. after_moof-past meaning past (context at (Some tracks) number) tracks x (more ++ later);
        rest = λ later. moof-reads (more ++ later) ∙ ap (λ t. after t (after (requests_memory at (with_runs (context at (Some tracks) number) tracks x)) (reads_at meaning (InMdatHeader (context at (Some tracks) number) tracks x []) (more ++ later)))) (sym (both-silent (counts (inspected (moof_at x at)))));
      }

      pub StopsAt-runs : FragmentEndsPast meaning → (more : List ℕ) (r : Refused) → (r ≡ refusals.OverLimit → o.account.limit < o.account.live + 64 * length (moof_runs (moof_at x at) tracks)) → (r ≡ refusals.Memory → o.account.live + 64 * length (moof_runs (moof_at x at) tracks) ≤ o.account.limit)
          → StopsAt o (back_to (back_to inspection size) (64 * length tracks)) (continuation_at meaning (InBuffered (context at (Some tracks) number) kind size x)) more (refusal_of r)
      unfolding ClaimRefused-moof
      StopsAt-runs past more refusals.OverLimit over within = (ClaimRefused-moof past more, omega (arith, over refl, low, len))
      StopsAt-runs past more refusals.Memory over within = (ClaimRefused-moof past more, omega (arith, within refl, low, len))

-- a box whose header came has a byte
pub begins_some : (size : ℕ) (x : List ℕ) → Begins size x → length x ≡ size → 0 < size
begins_some size x (h, e, exact) len =
    let w = whole_is x h e in
    omega (arith, w.0, w.1, need-least x, len)

-- a refused claim is no failed write
pub refused_not_written : (r : Refused) → refusal_of r ≡ Write → ⊥
refused_not_written refusals.OverLimit e = absurd cc
refused_not_written refusals.Memory e = absurd cc

-- it doesn't stop for a failed write
pub not_written : (w : InitStop) → stop_of w ≡ Write → ⊥
not_written (init.Fault f) e = absurd cc
not_written (init.Refused r) e = refused_not_written r e

-- a claim of a table that is refused for want of memory is within the limit
pub table_within : {T A : Type 0} {r : Result T InitStop} (n m : ℕ) → r ≡ Err (init.Refused refusals.Memory) → A → (A × (n < m) → r ≡ Err (init.Refused refusals.OverLimit)) → m ≤ n
table_within {T = T} n m e a f = elim (cases_lt n m) [
  | inl low ↦ let no : ◌≡◌ {A = Result T InitStop} (Err (init.Refused refusals.Memory)) (Err (init.Refused refusals.OverLimit)) = sym e ∙ f (a, low) in absurd cc
  | inr high ↦ high
]

-- neither is there
pub none_of : (a b : Option Fault) → option_or a b ≡ None → (a ≡ None) × (b ≡ None)
none_of None b e = (refl, e)
none_of (Some f) b e = absurd cc
