-- A fragment that is whole in the input, with one run, whose fault is a time or the place of that run.
use Rattle.std.proofs.Common.{◌≡◌, ℕ, ◌+◌, ◌*◌, ◌≤◌, Bool, true, false, List, [], ◌∷◌, ◌++◌, length, map, take, drop, Some, None, ap, sym, refl, ◌∙◌, arith, subst}
use Rattle.std.proofs.lemmas.List.{length-map}
use Rattle.mp4_box.specs.declared.headers.Header.{Header}
use Rattle.mp4_box.specs.declared.headers.Size.TheVariants.{Exact}
use Rattle.mp4_box.specs.declared.headers.Step.TheVariants as steps
use Rattle.mp4_box.specs.declared.rules.Fault.{Fault}
use Rattle.mp4_box.specs.Headers.{header_at}
use Rattle.mp4_box.specs.Order.{least}
use Rattle.mp4_init.specs.declared.table.Track.{Track}
use Rattle.mp4_frag.specs.declared.single_run.SingleRun.{SingleRun}
use Rattle.mp4_frag.specs.SingleRuns.{IsSingle}
use Rattle.mp4_frag.specs.Moofs.{fault_before_times, moof_of, moof_runs, moof_samples, moof_trafs, time_faults}
use Rattle.mp4_frag.specs.Places.{place_fault}
use Rattle.mp4_traf.specs.Runs.{MoofBytes, moof_at}
use Rattle.mp4_frag.proofs.MoofLemmas.{count_none}
use Rattle.mp4_frag.proofs.SoundLemmas.{few_timed}
use Rattle.mp4_frag.specs.Implementation.RunRows.{row_of_run}
use Rattle.mp4_ledger.specs.Memory.{Account, claimed, given_back}
use Rattle.mp4_machine.specs.Bodies.{least_end, longest}
use Rattle.mp4_machine.specs.Inputs.{Continuation, Environment, GoesOn, StopsAt, environment}
use Rattle.mp4_machine.specs.declared.stop.Stop.TheVariants.{Stream}
use Rattle.mp4_machine.specs.declared.tally.Tally.{Tally}
use Rattle.mp4_machine.specs.Readings.{plus}
use Rattle.mp4_machine.proofs.HeadLemmas.{front-is, front-len}
use Rattle.mp4_machine.proofs.InputLemmas.{GoesOn-silent, StopsAt-take_more, back_to, claimed_from}
use Rattle.mp4_grammar.specs.Contexts.{Context, context}
use Rattle.mp4_grammar.specs.Items.{end_of, fragment, inspected}
use Rattle.mp4_grammar.specs.Kinds.{most_moof}
use Rattle.mp4_grammar.specs.Meanings.{Meaning, fragment_fault}
use Rattle.mp4_grammar.specs.declared.kinds.Kind.TheVariants.{Moof}
use Rattle.mp4_fragment_machine.specs.Places.{InHeader, InBuffered, InMdatHeader, Untouched, continuation_at}
use Rattle.mp4_recut.specs.Operations.{operation_meaning, number_in}
use Rattle.mp4_recut.specs.declared.operation.Operation.{Operation}
use Rattle.mp4_recut.specs.declared.operation.Operation.TheVariants as operations
use Rattle.mp4_grammar.specs.declared.command.Command.TheVariants.{Check, Fragments, Records, Samples}
use Rattle.mp4_fragment_machine.specs.declared.counter.Counter.{Counter}
use Rattle.mp4_fragment_machine.specs.States.{HasCounted, HasStopped, IsCounted, Progress, cut_most, cut_reads, known, taken_by}
use Rattle.mp4_fragment_machine.specs.Implementation.Feeds.{seen}
use Rattle.mp4_fragment_machine.specs.Implementation.Steps.{Borrowed, StopsIn, at_state, environment_before, ledger_alone}
use Rattle.mp4_fragment_machine.specs.declared.state.Carried.{Carried}
use Rattle.mp4_fragment_machine.specs.declared.state.State.TheVariants as states
use Rattle.mp4_fragment_machine.specs.Implementation.InPlace.{AreBoxes, IsRefused, Late, Misplaced, payload_in}
use Rattle.mp4_fragment_machine.specs.declared.pending_moof.PendingMoof.{PendingMoof}
use Rattle.mp4_fragment_machine.specs.declared.in_place.Boxes.{Boxes}
use Rattle.mp4_fragment_machine.proofs.MdatHeaderLemmas.{HasRows}
use Rattle.mp4_fragment_machine.proofs.CountLemmas.{counted_moof, counted_unlisted}
use Rattle.mp4_fragment_machine.proofs.FragmentLemmas.{first_is, inspected_more, moof_len, single_is, some_moof}
use Rattle.mp4_fragment_machine.proofs.BufferedBoxLemmas.{Refuses-late}
use Rattle.mp4_fragment_machine.proofs.SecondLemmas.{misplaced-run, payload-of, second-misplaced}
use Rattle.mp4_fragment_machine.proofs.SplitLemmas.{Refuses-split}
use Rattle.mp4_fragment_machine.proofs.StepLemmas.{counted_stop}
use Rattle.mp4_fragment_machine.proofs.InPlaceLemmas.{GoesOn-held_whole, GoesOn-moof_whole, back_at_once, listed}

module _ (meaning : Meaning) (number : ℕ) (o : Environment) (at : ℕ) (tracks : List Track) (input : List ℕ) (b : Boxes) (are : AreBoxes at input b) (low : 64 * length tracks ≤ o.account.live) where
  abbrev c : Context
  c = context at (Some tracks) number

  abbrev m : List ℕ
  m = b.moof.now

  abbrev h : Header
  h = are.moof.header

  abbrev starts : Continuation
  starts = continuation_at meaning (InHeader c [])

  len_is : length m ≡ are.span.size
  len_is = moof_len at input b are

  begins : header_at m ≡ steps.Whole h
  begins = first_is Moof at input are.span are.moof m are.bytes

  sized : h.size ≡ Exact (length m)
  sized = are.moof.sized ∙ ap Exact (sym len_is)

  most : length m ≤ most_moof
  most = omega (arith, len_is, are.most)

  near : at + length m ≤ longest
  near = omega (arith, len_is, are.moof.near)

  front : m ≡ take (length m) input
  front = are.bytes ∙ ap (λ k. take k input) (sym len_is)

  -- the environment where it stops, once the track table is given back too
  abbrev stopped_at : Account → Tally → Environment
  stopped_at a t = environment o.written o.waiting (given_back a (64 * length tracks)) t

  -- the times of its moof are at fault: the moof was claimed, and its samples were read
  pub StopsAt-late : (a : Account) (t : Tally) → a ≡ given_back (claimed o.account (length m)) (length m) → t ≡ plus o.tally (inspected (moof_at m at))
      → (more : List ℕ) (f : Fault) → fault_before_times (moof_at m at) tracks ≡ None → least (time_faults (moof_trafs (moof_at m at) tracks)) ≡ Some f → StopsAt o (stopped_at a t) starts (input ++ more) (Stream f)
  StopsAt-late a t account tally more f good bad =
      let held = claimed_from o (length m) in
      let to_moof : GoesOn o held starts (take (length m) input) (continuation_at meaning (InBuffered c h.kind (length m) m)) =
      subst (λ l. GoesOn o held starts l (continuation_at meaning (InBuffered c h.kind (length m) m))) front (GoesOn-held_whole meaning number o at tracks h m begins are.moof.is_kind sized most near low) in
      rw (account, tally)
      (StopsAt-take_more low (length m) input to_moof (stopped_at (given_back (claimed o.account (length m)) (length m)) (plus o.tally (inspected (moof_at m at)))) more (Stream f)
      (Refuses-late meaning held at number tracks h.kind (length m) m refl (omega (arith, low)) (drop (length m) input ++ more) f good bad))

  module _ (l : SingleRun) (single_run : IsSingle (moof_at m at) tracks l) where
    abbrev g : Header
    g = are.mdat.header

    abbrev x : List ℕ
    x = drop (length m) input

    abbrev listed_of : Environment
    listed_of = listed meaning number o at tracks h m begins are.moof.is_kind sized most near low

    abbrev waits : List ℕ → Continuation
    waits y = continuation_at meaning (InMdatHeader c tracks m y)

    -- the moof with its run, as it waits for its mdat
    abbrev w : PendingMoof
    w = record {
      moof = record { at = at; kind = h.kind; size = length m; bytes = m };
      runs = record { rows = map (row_of_run 0) (moof_runs (moof_at m at) tracks); faulty_by_track = None };
    }

    rows : HasRows tracks w
    rows = record { size = refl; len = length-map (moof_runs (moof_at m at) tracks) (row_of_run 0) }

    one : length (moof_runs (moof_at m at) tracks) ≡ 1
    one = ap length single_run.run

    mdat_is : header_at x ≡ steps.Whole g
    mdat_is = ap (λ k. header_at (drop k input)) len_is ∙ are.mdat.is

    fits : least_end (at + length m) g g.size ≤ longest
    fits = subst (λ z. least_end (at + length m) g z ≤ longest) (sym are.mdat.sized) (omega (arith, len_is, are.mdat.near))

    abbrev mdat_head : List ℕ
    mdat_head = take g.header_len x

    misplaced : (f : Fault) → place_fault (payload_in (at + are.span.size) b.mdat) (l.run ∷ []) ≡ Some f → fragment_fault meaning (fragment c tracks m g) ≡ Some f
    misplaced f bad =
        let next : at + are.span.size ≡ at + length m = omega (arith, len_is) in
        let start : at + are.span.size + b.mdat.header_len ≡ at + are.span.size + g.header_len = omega (arith, are.mdat.header_len) in
        let end : Some (at + are.span.size + b.mdat.size) ≡ end_of (at + are.span.size) g.size = ap (end_of (at + are.span.size)) (sym are.mdat.sized) in
        misplaced-run meaning (payload_in (at + are.span.size) b.mdat) (fragment c tracks m g) f (payload-of (payload_in (at + are.span.size) b.mdat) c tracks m (at + are.span.size) g next start end)
        (ap (place_fault (payload_in (at + are.span.size) b.mdat)) single_run.run ∙ bad)

    -- its run may not lie where it does: the moof and a row of a list were claimed, and its samples were read
    pub StopsAt-misplaced : (a : Account) (t : Tally) → a ≡ given_back (claimed o.account (length m + 64)) (length m + 64) → t ≡ plus o.tally (inspected (moof_at m at))
        → (more : List ℕ) (f : Fault) → place_fault (payload_in (at + are.span.size) b.mdat) (l.run ∷ []) ≡ Some f → StopsAt o (stopped_at a t) starts (input ++ more) (Stream f)
    StopsAt-misplaced a t account tally more f bad =
        let n = 64 * length (moof_runs (moof_at m at) tracks) in
        let to_moof : GoesOn o listed_of starts (take (length m) input) (waits []) =
        subst (λ y. GoesOn o listed_of starts y (waits [])) front (GoesOn-moof_whole meaning number o at tracks h m begins are.moof.is_kind sized most near low single_run.read) in
        let to_head : GoesOn listed_of listed_of (waits []) mdat_head (waits mdat_head) = GoesOn-silent listed_of (waits []) (waits mdat_head) mdat_head refl (omega arith) (λ later. refl) in
        let stopped : Environment = back_to (back_to listed_of (taken_by (Some w))) (64 * length tracks) in
        let same : given_back (given_back listed_of.account (taken_by (Some w))) (64 * length tracks) ≡ given_back a (64 * length tracks) =
        ap (λ k. given_back (given_back listed_of.account (length m + 64 * k)) (64 * length tracks)) rows.len
        ∙ sym (ap (λ k. given_back k (64 * length tracks)) account ∙ back_at_once o.account (length m) n (length m + 64) (64 * length tracks) (omega (arith, one))) in
        let refuses = Refuses-split meaning number listed_of w tracks mdat_head rows (omega (arith, low, rows.len)) (drop g.header_len x ++ more) f
        (λ later. second-misplaced meaning c tracks m g mdat_head (front-len x g mdat_is) (front-is x g mdat_is) later f fits are.mdat.is_kind (misplaced f bad)) in
        let after = StopsAt-take_more (omega (arith, low)) g.header_len x to_head stopped more (Stream f) refuses in
        let all = StopsAt-take_more low (length m) input to_moof stopped more (Stream f) after in
        rw tally (subst (λ k. StopsAt o (environment o.written o.waiting k (plus o.tally (inspected (moof_at m at)))) starts (input ++ more) (Stream f)) same all)

-- a machine stops so, where the table of the tracks is still claimed
pub StopsIn-whole : (l : Borrowed) (old new : Carried) (at : ℕ) (input : List ℕ) (f : Fault) (tracks : List Track) → old.tracks ≡ Some tracks → old.header_bytes ≡ [] → l.failed' ≡ l.failed → new.operation ≡ old.operation → new.tracks ≡ old.tracks → new.header_bytes ≡ []
    → 64 * length tracks ≤ l.account'.live → HasStopped new.operation new.counter
    → ((more : List ℕ) → StopsAt (environment_before l old) (environment l.written' l.waiting' (given_back l.account' (64 * length tracks)) new.counter.tally) (continuation_at (operation_meaning old.operation) (InHeader (context at (Some tracks) (number_in old.operation old.counter.tally)) [])) (input ++ more) (Stream f))
    → StopsIn l old new (at_state old (states.Header at)) input (Stream f)
StopsIn-whole l old new at input f tracks known empty unfailed operation same header_bytes left counted stops = record {
  step = record { stops = λ more. rw (known, empty) (stops more); failed = λ e. absurd cc; unfailed = λ _. unfailed };
  operation = operation;
  tracks = same;
  empty = header_bytes;
  left = rw known left;
  counted = counted;
}

-- ---- what is counted where it stops

few_of : (index : Bool) (rows inspected : ℕ) → rows + cut_most index 0 + 0 ≤ cut_reads index * inspected → rows ≤ 12 * inspected
few_of true rows inspected h = omega (arith, h)
few_of false rows inspected h = omega (arith, h)

-- no row was read more than twelve times
pub few_rows : (operation : Operation) (c : Counter) (b : ℕ) → IsCounted operation c b 0 0 → c.steps.rows ≤ 12 * c.tally.inspected
few_rows (operations.List Samples) c b i = omega (arith, i.few)
few_rows (operations.List Fragments) c b i = omega (arith, i.few)
few_rows (operations.List Records) c b i = omega (arith, i.few)
few_rows (operations.List Check) c b i = omega (arith, i.few)
few_rows (operations.Split cut) c b i = few_of cut.index c.steps.rows c.tally.inspected i.few

-- a moof has few samples where no other rule than that of times is broken
pub few_samples : (h : MoofBytes) (tracks : List Track) → fault_before_times h tracks ≡ None → moof_samples h ≤ 1000000
few_samples h tracks good = omega (arith, (few_timed (moof_of h) (count_none h tracks good)).most)

-- ---- a fragment that is refused

module _ {m : Progress} {account : Account} {at : ℕ} {input : List ℕ} {bytes n rows : ℕ} {f : Fault} where
  pub refused-state : IsRefused m account at input bytes n rows f → m.state ≡ states.Header at
  refused-state (Late b bad moof_alone once) = bad.boxes.state
  refused-state (Misplaced b l bad samples with_row twice) = bad.boxes.state

  pub refused-tracks : IsRefused m account at input bytes n rows f → m.tracks ≡ Some (known m.tracks)
  refused-tracks (Late b bad moof_alone once) = bad.boxes.tracks
  refused-tracks (Misplaced b l bad samples with_row twice) = bad.boxes.tracks

  -- it may be claimed
  pub refused-room : IsRefused m account at input bytes n rows f → account.live + bytes ≤ account.limit
  refused-room (Late b bad moof_alone once) = omega (arith, bad.boxes.room, moof_alone)
  refused-room (Misplaced b l bad samples with_row twice) = omega (arith, bad.boxes.room, with_row)

  -- it has few samples
  pub refused-few : IsRefused m account at input bytes n rows f → n ≤ 1000000
  refused-few (Late b bad moof_alone once) = omega (arith, few_samples (moof_at b.moof.now at) (known m.tracks) bad.good, bad.samples)
  refused-few (Misplaced b l bad samples with_row twice) = omega (arith, (single_is (moof_at b.moof.now at) (known m.tracks) l bad.single_run).few, samples)

  pub refused-rows : IsRefused m account at input bytes n rows f → rows ≤ 2 * n
  refused-rows (Late b bad moof_alone once) = omega (arith, once)
  refused-rows (Misplaced b l bad samples with_row twice) = omega (arith, twice)

-- what it was counted by
abbrev pub refusing : Carried → (n rows : ℕ) → Carried
refusing k n rows = record k { counter = record { tally = record k.counter.tally { inspected = k.counter.tally.inspected + n }; steps = record { rows = k.counter.steps.rows + rows } } }

-- a machine stops at it, where its claim was counted
pub refused-stops : (k : Carried) (u : Untouched) (account account' : Account) (at : ℕ) (input : List ℕ) (bytes n rows : ℕ) (f : Fault) → 64 * length (known k.tracks) ≤ account.live → HasCounted k.operation (states.Header at) k.counter → account' ≡ given_back (claimed account bytes) bytes
    → IsRefused (seen k (states.Header at)) account at input bytes n rows f → StopsIn (ledger_alone u account account') k (refusing k n rows) (at_state k (states.Header at)) input (Stream f)
refused-stops k u account account' at input bytes n reads f low counted taken (Late b bad moof_alone once) =
    let list = known k.tracks in
    let are = bad.boxes.are in
    let h = moof_at b.moof.now at in
    let o = environment u.written u.waiting account k.counter.tally in
    let tally = inspected_more k.counter.tally h n bad.samples in
    StopsIn-whole (ledger_alone u account account') k _ at input f list bad.boxes.tracks bad.boxes.empty refl refl refl bad.boxes.empty
    (rw taken (omega (arith, low)))
    (counted_stop k.operation _ (at + are.span.size) (counted_moof k.operation k.counter _ h at are.span.size reads 0 counted (some_moof at input b are) are.moof.near (few_samples h list bad.good) tally refl (omega (arith, once, bad.samples)) (omega arith)))
    (λ more. StopsAt-late (operation_meaning k.operation) (number_in k.operation k.counter.tally) o at list input b are low account' _ (subst (λ z. account' ≡ given_back (claimed account z) z) moof_alone taken) tally more f bad.good bad.late)
refused-stops k u account account' at input bytes n reads f low counted taken (Misplaced b l bad samples with_row twice) =
    let list = known k.tracks in
    let are = bad.boxes.are in
    let h = moof_at b.moof.now at in
    let o = environment u.written u.waiting account k.counter.tally in
    let few = (single_is h list l bad.single_run).few in
    let all : n ≡ moof_samples h = omega (arith, samples, bad.single_run.samples) in
    let tally = inspected_more k.counter.tally h n all in
    StopsIn-whole (ledger_alone u account account') k _ at input f list bad.boxes.tracks bad.boxes.empty refl refl refl bad.boxes.empty
    (rw taken (omega (arith, low)))
    (counted_unlisted k.operation _ (at + are.span.size) l.run.count
    (counted_moof k.operation k.counter _ h at are.span.size reads l.run.count counted (some_moof at input b are) are.moof.near (omega (arith, few, bad.single_run.samples)) tally refl (omega (arith, all, samples, twice)) (omega (arith, bad.single_run.samples))))
    (λ more. StopsAt-misplaced (operation_meaning k.operation) (number_in k.operation k.counter.tally) o at list input b are low l bad.single_run account' _ (subst (λ z. account' ≡ given_back (claimed account z) z) with_row taken) tally more f bad.misplaced)
