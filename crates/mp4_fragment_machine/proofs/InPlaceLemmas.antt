-- A fragment that is whole in the input.
use Rattle.std.proofs.Common.{◌≡◌, ◌∙◌, ℕ, ◌+◌, ◌-◌, ◌*◌, ◌<◌, ◌≤◌, max, List, [], ◌++◌, length, take, drop, take-append-drop, Option, None, Some, ap, sym, refl, arith, subst}
use Rattle.std.specs.Prelude.{map}
use Rattle.std.proofs.lemmas.List.{length-drop, length-map}
use Rattle.mp4_box.specs.declared.headers.FourCc.{FourCc}
use Rattle.mp4_box.specs.declared.headers.Header.{Header}
use Rattle.mp4_box.specs.declared.headers.Size.TheVariants.{Exact}
use Rattle.mp4_box.specs.declared.headers.Step.TheVariants as steps
use Rattle.mp4_box.specs.Headers.{HasRoom, header_at, need}
use Rattle.mp4_box.specs.Order.{least}
use Rattle.mp4_box.proofs.HeaderLemmas.{header_at-append, need-append, need-least, room_of, whole_is}
use Rattle.mp4_init.specs.declared.table.Track.{Track}
use Rattle.mp4_frag.specs.Moofs.{IsRead, fault_before_times, moof_runs, moof_trafs, time_faults}
use Rattle.mp4_frag.specs.Implementation.RunRows.{row_of_run}
use Rattle.mp4_traf.specs.Runs.{moof_at}
use Rattle.mp4_traf.specs.Settling.{settled}
use Rattle.mp4_frag.proofs.SettleLemmas.{settled_length}
use Rattle.mp4_ledger.specs.Memory.{Account, claimed, given_back}
use Rattle.mp4_machine.specs.Bodies.{least_end, longest}
use Rattle.mp4_machine.specs.Blocks.{Breaks, Passes, Pending}
use Rattle.mp4_machine.specs.Inputs.{Continuation, Environment, GoesOn, StopsAt, WriteFailed, environment}
use Rattle.mp4_machine.specs.Readings.{plus, no_effects}
use Rattle.mp4_machine.specs.declared.body.Extent.TheVariants as extents
use Rattle.mp4_machine.specs.declared.tally.Tally.{Tally}
use Rattle.mp4_machine.specs.declared.stop.Stop.TheVariants.{Write}
use Rattle.mp4_machine.proofs.InputLemmas.{GoesOn-more, GoesOn-silent, GoesOn-take_more, StopsAt-take_more, back_to, claimed_from}
use Rattle.mp4_grammar.specs.declared.command.Command.{Command}
use Rattle.mp4_grammar.specs.declared.kinds.Kind.TheVariants.{Moof, Mdat}
use Rattle.mp4_grammar.specs.Commands.{accepted, command_meaning}
use Rattle.mp4_grammar.specs.Contexts.{Context, context}
use Rattle.mp4_grammar.specs.Items.{fragment, inspected, reads_in}
use Rattle.mp4_grammar.specs.Kinds.{kind_in, most_moof}
use Rattle.mp4_grammar.specs.Meanings.{Fragment, Meaning, counted_in, fragment_fault, needed_in}
use Rattle.mp4_fragment_machine.specs.Places.{InBody, InHeader, InBuffered, InMdatHeader, continuation_at}
use Rattle.mp4_fragment_machine.specs.States.{claimed_in, pending_fragment, in_mdat}
use Rattle.mp4_fragment_machine.specs.declared.pending_moof.PendingMoof.{PendingMoof}
use Rattle.mp4_fragment_machine.proofs.MdatHeaderLemmas.{GoesOn-fragment_at, HasRows, WriteFailed-fragment}
use Rattle.mp4_machine.proofs.ContinuationLemmas.{GoesOn-over, GoesOn-passed}
use Rattle.mp4_fragment_machine.proofs.BodyLemmas.{Moves-settled, back_twice}
use Rattle.mp4_fragment_machine.proofs.HeadLemmas.{GoesOn-head, GoesOn-keep, reads-kind}
use Rattle.mp4_fragment_machine.proofs.BufferedBoxLemmas.{GoesOn-moof, inspection, none_of}
use Rattle.mp4_fragment_machine.proofs.TakeLemmas.{GoesOn-held}
use Rattle.mp4_machine.proofs.HeadLemmas.{front-is, front-len}
use Rattle.mp4_machine.proofs.StepLemmas.{GoesOn-then}

-- ---- a moof

module _ (meaning : Meaning) (number : ℕ) (o : Environment) (at : ℕ) (tracks : List Track) (h : Header) (x : List ℕ)
    (is : header_at x ≡ steps.Whole h) (kind : kind_in h.kind.0 ≡ Moof) (sized : h.size ≡ Exact (length x)) (most : length x ≤ most_moof) (near : at + length x ≤ longest)
    (low : 64 * length tracks ≤ o.account.live) where
  abbrev pub c : Context
  c = context at (Some tracks) number

  abbrev pub header_bytes : List ℕ
  header_bytes = take h.header_len x

  abbrev pub rest : List ℕ
  rest = drop h.header_len x

  some : 0 < length x
  some = let w = whole_is x h is in omega (arith, w.0, w.1, need-least x)

  abbrev held : Environment
  held = claimed_from o (length x)

  -- the environment after its moof: it was claimed, its samples were read, and its list was claimed
  abbrev pub listed : Environment
  listed = claimed_from (inspection meaning (claimed_from o (length x)) at number tracks h.kind (length x) x refl) (64 * length (moof_runs (moof_at x at) tracks))

  to_header : GoesOn o o (continuation_at meaning (InHeader c [])) header_bytes (continuation_at meaning (InHeader c header_bytes))
  to_header = GoesOn-head meaning o c [] header_bytes header_bytes refl

  to_held : GoesOn o held (continuation_at meaning (InHeader c header_bytes)) [] (continuation_at meaning (InBuffered c h.kind (length x) header_bytes))
  to_held =
      GoesOn-keep meaning o at number (Some tracks) h header_bytes most_moof low
      (λ later. reads-kind meaning c h header_bytes (front-len x h is) (front-is x h is) Moof (Some tracks) later (subst (λ s. least_end at h s ≤ longest) (sym sized) near) kind refl) (length x) sized most some

  -- all of it came, and is held
  pub GoesOn-held_whole : GoesOn o (claimed_from o (length x)) (continuation_at meaning (InHeader c [])) x (continuation_at meaning (InBuffered c h.kind (length x) x))
  GoesOn-held_whole =
      let all : header_bytes ++ rest ≡ x = take-append-drop h.header_len x in
      let begun = GoesOn-then low to_header (continuation_at meaning (InBuffered c h.kind (length x) header_bytes)) to_held in
      let more = GoesOn-more low begun rest (continuation_at meaning (InBuffered c h.kind (length x) (header_bytes ++ rest))) (GoesOn-held meaning held c h.kind (length x) header_bytes rest) in
      subst (λ l. GoesOn o held (continuation_at meaning (InHeader c [])) l (continuation_at meaning (InBuffered c h.kind (length x) l))) all more

  -- it is good, and waits for its mdat
  pub GoesOn-moof_whole : IsRead (moof_at x at) tracks → GoesOn o listed (continuation_at meaning (InHeader c [])) x (continuation_at meaning (InMdatHeader c tracks x []))
  GoesOn-moof_whole read =
      let good = none_of (fault_before_times (moof_at x at) tracks) (least (time_faults (moof_trafs (moof_at x at) tracks))) read in
      GoesOn-then low GoesOn-held_whole (continuation_at meaning (InMdatHeader c tracks x [])) (GoesOn-moof meaning held at number tracks h.kind (length x) x refl (omega (arith, low)) good.0 good.1 some)

-- ---- the mdat after it

module _ (command : Command) (number : ℕ) (o : Environment) (at : ℕ) (tracks : List Track) (kind : FourCc) (m x : List ℕ) (g : Header) (s : ℕ)
    (is : header_at x ≡ steps.Whole g) (mdat : kind_in g.kind.0 ≡ Mdat) (sized : g.size ≡ Exact s) (whole : s ≤ length x) (near : at + length m + s ≤ longest)
    (low : 64 * length tracks + length m + 64 * length (moof_runs (moof_at m at) tracks) ≤ o.account.live) where
  abbrev meaning : Meaning
  meaning = command_meaning command

  abbrev waits : List ℕ → Continuation
  waits y = continuation_at meaning (InMdatHeader (context at (Some tracks) number) tracks m y)

  -- the moof with its runs, as it waits for its mdat
  abbrev w : PendingMoof
  w = record {
    moof = record { at = at; kind = kind; size = length m; bytes = m };
    runs = record { rows = map (row_of_run 0) (moof_runs (moof_at m at) tracks); faulty_by_track = None };
  }

  abbrev pub f : Fragment
  f = pending_fragment number w tracks g

  abbrev pub next : ℕ
  next = at + length m

  rows : HasRows tracks w
  rows = record { size = refl; len = length-map (moof_runs (moof_at m at) tracks) (row_of_run 0) }

  room : g.header_len ≤ s
  room = subst (λ z. HasRoom z g.header_len) sized (room_of x g is)

  fits : least_end next g g.size ≤ longest
  fits = subst (λ z. least_end next g z ≤ longest) (sym sized) near

  abbrev mdat_head : List ℕ
  mdat_head = take g.header_len x

  to_head : GoesOn o o (waits []) mdat_head (waits mdat_head)
  to_head = GoesOn-silent o (waits []) (waits mdat_head) mdat_head refl (omega arith) (λ later. refl)

  low_claim : (waits []).claim ≤ o.account.live
  low_claim = omega (arith, low)

  module _ (good : fragment_fault meaning f ≡ None) where
    -- it is written, and its media are passed over
    module _ (o' : Environment) (account : o'.account ≡ o.account) (tally : o'.tally ≡ plus o.tally (counted_in f)) (passes : Passes o.written o'.written o.waiting o'.waiting (accepted command f).text) where
      abbrev pub settled_to : Environment
      settled_to = back_to (back_to o' (64 * length w.runs.rows)) (length m)

      abbrev after_end : ℕ → Context
      after_end end = context end (Some (settled tracks (moof_trafs (moof_at m at) tracks))) number

      abbrev after_it : Context
      after_it = after_end (next + s)

      abbrev body : ℕ → Continuation
      body left = continuation_at meaning (InBody (λ _. no_effects) next g.kind after_it left (claimed_in (Some tracks) (Some w)))

      to_body : GoesOn o o' (waits mdat_head) [] (body (s - g.header_len))
      to_body =
          subst (λ z. GoesOn o o' (waits mdat_head) [] (continuation_at meaning (in_mdat number (Some tracks) w next g (needed_in f) z))) sized
          (GoesOn-fragment_at command number o w tracks g mdat_head rows (front-len x g is) (front-is x g is) (omega (arith, low, rows.len)) fits mdat good next refl o' (needed_in f) (room_of x g is) refl account tally passes)

      to_end : GoesOn o' o' (body (s - g.header_len)) (take (s - g.header_len) (drop g.header_len x)) (body 0)
      to_end =
          let n = s - g.header_len in
          let none : n - n ≡ 0 = omega arith in
          subst (λ k. GoesOn o' o' (body n) (take n (drop g.header_len x)) (body k)) none
          (GoesOn-passed (reads_in meaning) after_end (claimed_in (Some tracks) (Some w)) o' next g.kind n n (extents.Sized (next + s)) (drop g.header_len x) (omega arith) (omega (arith, room, whole, length-drop g.header_len x)) (omega (arith, room)))

      to_next : GoesOn o' settled_to (body 0) [] (continuation_at meaning (InHeader after_it []))
      to_next =
          GoesOn-over (reads_in meaning) after_end (claimed_in (Some tracks) (Some w)) o' next g.kind settled_to (λ _. no_effects) (next + s) 0 (continuation_at meaning (InHeader after_it [])) refl refl
          (Moves-settled o' (64 * length tracks) (length m) (64 * length w.runs.rows) _ (ap (λ n. 64 * n) (settled_length tracks (moof_trafs (moof_at m at) tracks))) (omega (arith, low, rows.len, ap (λ a. a.live) account))) (omega arith) (λ later. refl)

      pub GoesOn-mdat_whole : GoesOn o settled_to (waits []) (take s x) (continuation_at meaning (InHeader after_it []))
      GoesOn-mdat_whole =
          let effects = GoesOn-then low_claim to_head (body (s - g.header_len)) to_body in
          let passed = GoesOn-take_more low_claim g.header_len x effects (s - g.header_len) (body 0) to_end in
          let all : g.header_len + (s - g.header_len) ≡ s = omega (arith, room) in
          GoesOn-then low_claim (subst (λ n. GoesOn o o' (waits []) (take n x) (body 0)) all passed) (continuation_at meaning (InHeader after_it [])) to_next

    -- it can't be written: everything is given back
    pub StopsAt-mdat_whole : (u : Option (List ℕ)) (v : Pending) (a : Account) (t : Tally) (more : List ℕ) → a ≡ given_back (given_back o.account (length m + 64 * length w.runs.rows)) (64 * length tracks) → t ≡ plus o.tally (counted_in f) → Breaks o.written u o.waiting v (accepted command f).text
        → StopsAt o (record { written = u; waiting = v; account = a; tally = t }) (waits []) (x ++ more) Write
    StopsAt-mdat_whole u v a t more back counted p =
        StopsAt-take_more low_claim g.header_len x to_head (record { written = u; waiting = v; account = a; tally = t }) more Write
        (λ later. subst (λ k. WriteFailed o (record { written = u; waiting = v; account = k; tally = t }) (waits mdat_head).claim ((waits mdat_head).reads ((drop g.header_len x ++ more) ++ later))) (sym back)
        (WriteFailed-fragment command number o w tracks g mdat_head rows (front-len x g is) (front-is x g is) (omega (arith, low, rows.len)) fits mdat good u v t (drop g.header_len x ++ more) later counted p))

-- ---- both

-- what was claimed part by part and given back is as if it were claimed at once
pub claimed_at_once : (a : Account) (n m k : ℕ) → k ≡ n + m → given_back (given_back (claimed (claimed a n) m) m) n ≡ given_back (claimed a k) k
claimed_at_once a n m k e =
    let live : a.live + n + m - m - n ≡ a.live + k - k = omega arith in
    let peak : max (max a.peak (a.live + n)) (a.live + n + m) ≡ max a.peak (a.live + k) = omega (arith, e) in
    ap (λ l. record { limit = a.limit; live = l; peak = max (max a.peak (a.live + n)) (a.live + n + m) }) live ∙ ap (λ p. record { limit = a.limit; live = a.live + k - k; peak = p }) peak

-- where it stops the table of the tracks is given back too
pub back_at_once : (a : Account) (n m k table : ℕ) → k ≡ n + m → given_back (given_back (claimed a k) k) table ≡ given_back (given_back (claimed (claimed a n) m) (n + m)) table
back_at_once a n m k table e =
    ap (λ b. given_back b table)
    (sym (claimed_at_once a n m k e) ∙ back_twice (claimed (claimed a n) m) m n)

-- the header of a box that is at the front of some bytes
pub front_is : (m x : List ℕ) (h : Header) → m ≡ take (length m) x → header_at x ≡ steps.Whole h → h.header_len ≤ length m → length m ≤ length x → header_at m ≡ steps.Whole h
front_is m x h e is room within =
    let y = drop (length m) x in
    let all : m ++ y ≡ x = ap (λ l. l ++ y) e ∙ take-append-drop (length m) x in
    let w = whole_is x h is in
    let same : need m ≡ need x = sym (need-append m y (omega (arith, w.1, room, need-least x))) ∙ ap need all in
    sym (header_at-append m y (omega (arith, same, w.1, room))) ∙ ap header_at all ∙ is

module _ (command : Command) (number : ℕ) (o : Environment) (at : ℕ) (tracks : List Track) (input m : List ℕ) (h g : Header) (s claim : ℕ)
    (front : m ≡ take (length m) input) (within : length m ≤ length input) (is : header_at input ≡ steps.Whole h) (moof : kind_in h.kind.0 ≡ Moof) (sized : h.size ≡ Exact (length m)) (most : length m ≤ most_moof)
    (read : IsRead (moof_at m at) tracks) (claims : claim ≡ length m + 64 * length (moof_runs (moof_at m at) tracks))
    (after : header_at (drop (length m) input) ≡ steps.Whole g) (mdat : kind_in g.kind.0 ≡ Mdat) (stated : g.size ≡ Exact s) (whole : s ≤ length (drop (length m) input)) (near : at + length m + s ≤ longest)
    (low : 64 * length tracks ≤ o.account.live) where
  abbrev starts : Continuation
  starts = continuation_at (command_meaning command) (InHeader (context at (Some tracks) number) [])

  begins : header_at m ≡ steps.Whole h
  begins = front_is m input h front is (subst (λ z. HasRoom z h.header_len) sized (room_of input h is)) within

  abbrev listed_of : Environment
  listed_of = listed (command_meaning command) number o at tracks h m begins moof sized most (omega (arith, near)) low

  to_after : GoesOn o listed_of starts (take (length m) input) (continuation_at (command_meaning command) (InMdatHeader (context at (Some tracks) number) tracks m []))
  to_after = subst (λ l. GoesOn o listed_of starts l (continuation_at (command_meaning command) (InMdatHeader (context at (Some tracks) number) tracks m []))) front (GoesOn-moof_whole (command_meaning command) number o at tracks h m begins moof sized most (omega (arith, near)) low read)

  module _ (u : Option (List ℕ)) (v : Pending) (a : Account) (t : Tally)
      (good : fragment_fault (command_meaning command) (fragment (context at (Some tracks) number) tracks m g) ≡ None)
      (account : a ≡ given_back (claimed o.account claim) claim)
      (tally : t ≡ plus (plus o.tally (inspected (moof_at m at))) (counted_in (fragment (context at (Some tracks) number) tracks m g))) where
    -- it is written
    pub GoesOn-whole : Passes o.written u o.waiting v (accepted command (fragment (context at (Some tracks) number) tracks m g)).text
        → GoesOn o (environment u v a t) starts (take (length m + s) input) (continuation_at (command_meaning command) (InHeader (context (at + length m + s) (Some (settled tracks (moof_trafs (moof_at m at) tracks))) number) []))
    GoesOn-whole passes =
        let o' : Environment = record { written = u; waiting = v; account = listed_of.account; tally = t } in
        let r = continuation_at (command_meaning command) (InHeader (context (at + length m + s) (Some (settled tracks (moof_trafs (moof_at m at) tracks))) number) []) in
        let low' : 64 * length tracks + length m + 64 * length (moof_runs (moof_at m at) tracks) ≤ listed_of.account.live = omega (arith, low) in
        let goes = GoesOn-mdat_whole command number listed_of at tracks h.kind m (drop (length m) input) g s after mdat stated whole near low' good o' refl tally passes in
        let rows : length (map (row_of_run 0) (moof_runs (moof_at m at) tracks)) ≡ length (moof_runs (moof_at m at) tracks) = length-map (moof_runs (moof_at m at) tracks) (row_of_run 0) in
        let same : given_back (given_back listed_of.account (64 * length (map (row_of_run 0) (moof_runs (moof_at m at) tracks)))) (length m) ≡ a =
        ap (λ n. given_back (given_back listed_of.account (64 * n)) (length m)) rows ∙ claimed_at_once o.account (length m) (64 * length (moof_runs (moof_at m at) tracks)) claim claims ∙ sym account in
        subst (λ k. GoesOn o (environment u v k t) starts (take (length m + s) input) r) same (GoesOn-take_more low (length m) input to_after s r goes)

    -- it can't be written: everything is given back
    pub StopsAt-whole : (more : List ℕ) → Breaks o.written u o.waiting v (accepted command (fragment (context at (Some tracks) number) tracks m g)).text → StopsAt o (environment u v (given_back a (64 * length tracks)) t) starts (input ++ more) Write
    StopsAt-whole more p =
        let low' : 64 * length tracks + length m + 64 * length (moof_runs (moof_at m at) tracks) ≤ listed_of.account.live = omega (arith, low) in
        let rows : length (map (row_of_run 0) (moof_runs (moof_at m at) tracks)) ≡ length (moof_runs (moof_at m at) tracks) = length-map (moof_runs (moof_at m at) tracks) (row_of_run 0) in
        let same : given_back a (64 * length tracks) ≡ given_back (given_back listed_of.account (length m + 64 * length (map (row_of_run 0) (moof_runs (moof_at m at) tracks)))) (64 * length tracks) =
        ap (λ b. given_back b (64 * length tracks)) account
        ∙ back_at_once o.account (length m) (64 * length (moof_runs (moof_at m at) tracks)) claim (64 * length tracks) claims
        ∙ ap (λ n. given_back (given_back listed_of.account (length m + 64 * n)) (64 * length tracks)) (sym rows) in
        StopsAt-take_more low (length m) input to_after (environment u v (given_back a (64 * length tracks)) t) more Write
        (StopsAt-mdat_whole command number listed_of at tracks h.kind m (drop (length m) input) g s after mdat stated whole near low' good u v (given_back a (64 * length tracks)) t more same tally p)
