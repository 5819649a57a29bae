-- The header after a moof: its fragment is refused or accepted, or its lines can't be written.
use Rattle.std.proofs.Common.{◌≡◌, ◌∙◌, ℕ, ◌+◌, ◌*◌, ◌≤◌, List, [], ◌++◌, length, Option, None, Some, ap, sym, refl, arith, subst}
use Rattle.mp4_box.specs.declared.headers.Header.{Header}
use Rattle.mp4_box.specs.declared.headers.Size.{Size}
use Rattle.mp4_box.specs.declared.headers.Size.TheVariants.{Exact, ToEnd}
use Rattle.mp4_box.specs.declared.headers.Step.TheVariants as steps
use Rattle.mp4_box.specs.declared.rules.Fault.{Fault}
use Rattle.mp4_box.specs.declared.rules.Rule.TheVariants.{BadSize}
use Rattle.mp4_box.specs.Headers.{HasRoom, header_at, kind_of, need}
use Rattle.mp4_box.proofs.HeaderLemmas.{whole_is}
use Rattle.mp4_init.specs.declared.table.Track.{Track}
use Rattle.mp4_machine.specs.Accounts.{Counts}
use Rattle.mp4_machine.specs.Blocks.{Breaks, BreaksMarked, Passes, PassesMarked, Pending}
use Rattle.mp4_machine.specs.Bodies.{fault, least_end, longest, at_fault}
use Rattle.mp4_machine.specs.Inputs.{Continuation, Environment, GoesOn, Moves, Refuses, WriteFailed}
use Rattle.mp4_machine.specs.Readings.{after, most_of, plus, no_effects, then_read}
use Rattle.mp4_machine.specs.declared.tally.Tally.{Tally}
use Rattle.mp4_machine.proofs.AccountLemmas.{Counts-none, Spends-counts}
use Rattle.mp4_machine.proofs.InputLemmas.{Refuses-there, WriteFailed-emitted, back_to}
use Rattle.mp4_machine.proofs.ReadingAskLemmas.{plus-none}
use Rattle.mp4_machine.proofs.ReadingLemmas.{then_read-emitted}
use Rattle.mp4_machine.proofs.ContinuationLemmas.{GoesOn-gathered}
use Rattle.mp4_grammar.specs.declared.command.Command.{Command}
use Rattle.mp4_grammar.specs.declared.command.Command.TheVariants.{Samples, Fragments, Records, Check}
use Rattle.mp4_grammar.specs.declared.kinds.Kind.TheVariants.{Mdat}
use Rattle.mp4_grammar.specs.Commands.{accepted, command_meaning}
use Rattle.mp4_grammar.specs.Contexts.{Context, context, table_of}
use Rattle.mp4_grammar.specs.Items.{after_moof, faulty, media_body, reads_in}
use Rattle.mp4_grammar.specs.Kinds.{kind_in}
use Rattle.mp4_grammar.specs.Meanings.{Fragment, Meaning, counted_in, fragment_fault, needed_in}
use Rattle.mp4_fragment_machine.specs.Places.{InMdatHeader, claim_of, continuation_at, reached_of, reads_at}
use Rattle.std.specs.Option.{option_or}
use Rattle.mp4_frag.specs.Places.{place_fault}
use Rattle.mp4_frag.specs.Moofs.{moof_runs}
use Rattle.mp4_fragment_machine.specs.States.{IsPendingMoof, claimed_in, pending_fragment, in_mdat, known, moof_in, taken_by}
use Rattle.mp4_fragment_machine.specs.declared.pending_moof.PendingMoof.{PendingMoof}
use Rattle.mp4_fragment_machine.proofs.BodyLemmas.{claimed_apart}
use Rattle.mp4_fragment_machine.proofs.BufferedBoxLemmas.{Moves-all_back}
use Rattle.mp4_fragment_machine.proofs.SecondLemmas.{after-bad, second-accepted}

-- the effects of a fragment request nothing, and count it
most-accepted : (command : Command) (f : Fragment) → most_of (accepted command f) ≡ 0
most-accepted Check f = refl
most-accepted Fragments f = refl
most-accepted Records f = refl
most-accepted Samples f = refl

tally-accepted : (command : Command) (f : Fragment) → (accepted command f).tally ≡ counted_in f
tally-accepted Check f = refl
tally-accepted Fragments f = plus-none (counted_in f)
tally-accepted Records f = plus-none (counted_in f)
tally-accepted Samples f = plus-none (counted_in f)

marks-accepted : (command : Command) (f : Fragment) → (accepted command f).fragment_ends ≡ []
marks-accepted Check f = refl
marks-accepted Fragments f = refl
marks-accepted Records f = refl
marks-accepted Samples f = refl

-- commands that write no fragments refuse none
pub listed_good : (command : Command) (number : ℕ) (w : PendingMoof) (tracks : List Track) (h : Header) → place_fault (pending_fragment number w tracks h).payload (moof_runs (moof_in w) tracks) ≡ None → fragment_fault (command_meaning command) (pending_fragment number w tracks h) ≡ None
listed_good command number w tracks h e = ap (λ o. option_or o None) e

-- how much is claimed where a moof waits
pub claimed_after : (number : ℕ) (w : PendingMoof) (tracks : Option (List Track)) → IsPendingMoof tracks w → (x : List ℕ) → claim_of (InMdatHeader (context w.moof.at tracks number) (known tracks) w.moof.bytes x) ≡ claimed_in tracks (Some w)
claimed_after number w tracks i x = omega (arith, i.size, i.len, ap table_of i.is_known)

-- a pending moof, by the tracks that are known
module _ (meaning : Meaning) (number : ℕ) (o : Environment) (w : PendingMoof) (tracks : Option (List Track)) (i : IsPendingMoof tracks w) (low : claimed_in tracks (Some w) ≤ o.account.live) where
  abbrev pub waits : List ℕ → Continuation
  waits x = continuation_at meaning (InMdatHeader (context w.moof.at tracks number) (known tracks) w.moof.bytes x)

  -- what is claimed there
  pub claims_after : (x : List ℕ) → (waits x).claim ≡ table_of tracks + taken_by (Some w)
  claims_after x = omega (arith, i.size, i.len, ap table_of i.is_known)

  -- bytes of the header after it
  pub GoesOn-after_head : (buffered x new : List ℕ) → new ≡ buffered ++ x → GoesOn o o (waits buffered) x (waits new)
  GoesOn-after_head buffered x new e =
      GoesOn-gathered o (λ l. then_read (reads_in meaning) (after_moof meaning (context w.moof.at tracks number) (known tracks) w.moof.bytes l)) (w.moof.at + length w.moof.bytes) (waits []).claim buffered x new e

  -- no header begins with them: all is given back
  pub Refuses-after : (x more : List ℕ) (at : ℕ) → at ≡ w.moof.at + w.moof.size → length x ≡ need x → header_at x ≡ steps.BadSize → Refuses o (back_to (back_to o (taken_by (Some w))) (table_of tracks)) (waits x) more (fault BadSize (kind_of x) at)
  Refuses-after x more at e len bad =
      let ends : w.moof.at + length w.moof.bytes ≡ at = omega (arith, i.size, e) in
      let own = claims_after x in
      Refuses-there o (back_to (back_to o (taken_by (Some w))) (table_of tracks)) (waits x) [] more (fault BadSize (kind_of x) at)
      (subst (λ n. Moves o (back_to (back_to o (taken_by (Some w))) (table_of tracks)) n 0 no_effects) (sym own) (Moves-all_back o (table_of tracks) (taken_by (Some w)) (omega (arith, low, claimed_apart tracks (Some w)))))
      (λ later. ap (then_read (reads_in meaning)) (after-bad meaning (context w.moof.at tracks number) (known tracks) w.moof.bytes x later len bad) ∙ ap (λ n. at_fault BadSize (kind_of x) n) ends)

-- of a moof all bytes are there, and a row for each of its runs
pub record HasRows (tracks : List Track) (w : PendingMoof) : Type 0 where
  pub size : length w.moof.bytes ≡ w.moof.size
  pub len : length w.runs.rows ≡ length (moof_runs (moof_in w) tracks)

-- so it is where one waits
pub rows_of : (tracks : List Track) (w : PendingMoof) → IsPendingMoof (Some tracks) w → HasRows tracks w
rows_of tracks w i = record { size = i.size; len = i.len }

module _ (command : Command) (number : ℕ) (o : Environment) (w : PendingMoof) (tracks : List Track) (h : Header) (x : List ℕ)
    (i : HasRows tracks w) (len : length x ≡ need x) (is : header_at x ≡ steps.Whole h) (low : claimed_in (Some tracks) (Some w) ≤ o.account.live) where
  abbrev pub c : Context
  c = context w.moof.at (Some tracks) number

  abbrev pub place : Continuation
  place = continuation_at (command_meaning command) (InMdatHeader c tracks w.moof.bytes x)

  abbrev pub f : Fragment
  f = pending_fragment number w tracks h

  abbrev pub next : ℕ
  next = w.moof.at + w.moof.size

  ends : next ≡ w.moof.at + length w.moof.bytes
  ends = omega (arith, i.size)

  -- what is claimed there
  pub claims : place.claim ≡ 64 * length tracks + taken_by (Some w)
  claims = omega (arith, i.size, i.len)

  all_back : Moves o (back_to (back_to o (taken_by (Some w))) (64 * length tracks)) place.claim 0 no_effects
  all_back = subst (λ n. Moves o (back_to (back_to o (taken_by (Some w))) (64 * length tracks)) n 0 no_effects) (sym claims) (Moves-all_back o (64 * length tracks) (taken_by (Some w)) (omega (arith, low)))

  -- it is refused: the moof, its list and the table are given back
  pub Refuses-fragment : (more : List ℕ) (g : Fault) → ((later : List ℕ) → after_moof (command_meaning command) c tracks w.moof.bytes (x ++ later) ≡ faulty g) → Refuses o (back_to (back_to o (taken_by (Some w))) (64 * length tracks)) place more g
  Refuses-fragment more g r = Refuses-there o (back_to (back_to o (taken_by (Some w))) (64 * length tracks)) place [] more g all_back (λ later. ap (then_read (reads_in (command_meaning command))) (r later))

  module _ (near : least_end next h h.size ≤ longest) (mdat : kind_in h.kind.0 ≡ Mdat) (good : fragment_fault (command_meaning command) f ≡ None) where
    reads-emitted : (later : List ℕ) → place.reads later ≡ after (accepted command f) (then_read (reads_in (command_meaning command)) (media_body (command_meaning command) f next h h.size later))
    reads-emitted later =
        ap (then_read (reads_in (command_meaning command))) (second-accepted (command_meaning command) c tracks w.moof.bytes h x len is later (subst (λ n. least_end n h h.size ≤ longest) ends near) mdat good)
        ∙ then_read-emitted (reads_in (command_meaning command)) (accepted command f) (media_body (command_meaning command) f (w.moof.at + length w.moof.bytes) h h.size later)
        ∙ ap (λ n. after (accepted command f) (then_read (reads_in (command_meaning command)) (media_body (command_meaning command) f n h h.size later))) (sym ends)

    reads-mdat : (size : Size) (later : List ℕ) → then_read (reads_in (command_meaning command)) (media_body (command_meaning command) f next h size later) ≡ reads_at (command_meaning command) (in_mdat number (Some tracks) w next h (needed_in f) size) later
    reads-mdat (Exact s) later = refl
    reads-mdat ToEnd later = refl

    reached-mdat : (size : Size) (needed : ℕ) → HasRoom size h.header_len → least_end next h size ≤ longest → reached_of (in_mdat number (Some tracks) w next h needed size) ≡ place.reached
    reached-mdat (Exact s) needed room fits = omega (arith, ends, room, (whole_is x h is).1, len)
    reached-mdat ToEnd needed room fits = omega (arith, ends, fits, (whole_is x h is).1, len)

    claim-mdat : (size : Size) (needed : ℕ) → claim_of (in_mdat number (Some tracks) w next h needed size) ≡ place.claim
    claim-mdat (Exact s) needed = omega (arith, claims)
    claim-mdat ToEnd needed = omega (arith, claims)

    -- it is accepted and written
    GoesOn-fragment : (o' : Environment) (needed : ℕ) → HasRoom h.size h.header_len → needed ≡ needed_in f → o'.account ≡ o.account → o'.tally ≡ plus o.tally (counted_in f) → Passes o.written o'.written o.waiting o'.waiting (accepted command f).text
        → GoesOn o o' place [] (continuation_at (command_meaning command) (in_mdat number (Some tracks) w next h needed h.size))
    GoesOn-fragment o' needed room enough same counted p = record {
      produced = accepted command f;
      moves = record {
        passes = subst (PassesMarked o.written o'.written o.waiting o'.waiting (accepted command f).text) (sym (marks-accepted command f)) p;
        counts = subst (λ n. Counts o.account o'.account place.claim (claim_of (in_mdat number (Some tracks) w next h needed h.size)) n) (sym (most-accepted command f))
            (subst (λ n. Counts o.account o'.account place.claim n 0) (sym (claim-mdat h.size needed)) (subst (λ a. Counts o.account a place.claim place.claim 0) (sym same) (Counts-none o.account place.claim)));
        tallied = counted ∙ ap (plus o.tally) (sym (tally-accepted command f));
      };
      reached = reached-mdat h.size needed room near ∙ omega arith;
      rest = λ later. reads-emitted later ∙ ap (after (accepted command f)) (reads-mdat h.size later ∙ ap (λ n. reads_at (command_meaning command) (in_mdat number (Some tracks) w next h n h.size) later) (sym enough));
    }

    pub GoesOn-fragment_at : (at : ℕ) → at ≡ next → (o' : Environment) (needed : ℕ) → HasRoom h.size h.header_len → needed ≡ needed_in f → o'.account ≡ o.account → o'.tally ≡ plus o.tally (counted_in f) → Passes o.written o'.written o.waiting o'.waiting (accepted command f).text
        → GoesOn o o' place [] (continuation_at (command_meaning command) (in_mdat number (Some tracks) w at h needed h.size))
    GoesOn-fragment_at at same o' needed room enough account counted p =
        subst (λ n. GoesOn o o' place [] (continuation_at (command_meaning command) (in_mdat number (Some tracks) w n h needed h.size))) (sym same) (GoesOn-fragment o' needed room enough account counted p)

    -- it is accepted, and can't be written: everything is given back
    pub WriteFailed-fragment : (u : Option (List ℕ)) (v : Pending) (t : Tally) (more later : List ℕ) → t ≡ plus o.tally (counted_in f) → Breaks o.written u o.waiting v (accepted command f).text
        → WriteFailed o (record { written = u; waiting = v; account = (back_to (back_to o (taken_by (Some w))) (64 * length tracks)).account; tally = t }) place.claim (place.reads (more ++ later))
    WriteFailed-fragment u v t more later counted p =
        WriteFailed-emitted o (record { written = u; waiting = v; account = (back_to (back_to o (taken_by (Some w))) (64 * length tracks)).account; tally = t }) place.claim (accepted command f) _ (place.reads (more ++ later)) (reads-emitted (more ++ later)) (subst (BreaksMarked o.written u o.waiting v (accepted command f).text) (sym (marks-accepted command f)) p)
        (Spends-counts o.account _ place.claim 0 0 all_back.counts) (counted ∙ ap (plus o.tally) (sym (tally-accepted command f)))
