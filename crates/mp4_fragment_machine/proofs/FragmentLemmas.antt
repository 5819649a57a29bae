-- A fragment that is whole in the input.
use Rattle.std.proofs.Common.{◌≡◌, ◌∙◌, ℕ, ◌+◌, ◌*◌, ◌<◌, ◌≤◌, ◌==◌, true, false, not, append-nil, List, [], ◌∷◌, ◌++◌, length, take, drop, Option, None, Some, ap, sym, refl, arith, subst}
use Rattle.std.proofs.lemmas.List.{length-drop, length-take-le}
use Rattle.std.proofs.lemmas.List.Sums.{sum_by-cons}
use Rattle.std.specs.Prelude.{option_map}
use Rattle.std.specs.List.{flat_map, sum_by}
use Rattle.std.specs.Option.{option_or}
use Rattle.mp4_ledger.specs.Memory.{Account, claimed, given_back}
use Rattle.mp4_init.specs.Tracks.{with_next}
use Rattle.mp4_box.specs.Headers.{HasRoom, IsBytes, IsWhole, header_at}
use Rattle.mp4_box.specs.declared.headers.Header.{Header}
use Rattle.mp4_box.specs.declared.headers.Size.TheVariants.{Exact}
use Rattle.mp4_box.specs.declared.headers.Step.TheVariants as steps
use Rattle.mp4_box.proofs.HeaderLemmas.{need-least, room_of, whole_is}
use Rattle.mp4_init.specs.declared.table.Track.{Track}
use Rattle.mp4_run_order.specs.declared.runs.ListedRun.{ListedRun}
use Rattle.mp4_run_order.specs.declared.runs.Payload.{Payload}
use Rattle.mp4_run_order.specs.Places.{IsOffender, LiesIn, Placed, first_offender}
use Rattle.mp4_run_order.specs.Takings.{has_samples}
use Rattle.mp4_run_order.proofs.SearchLemmas.{offender_means}
use Rattle.mp4_traf.specs.declared.run.Run.{Run}
use Rattle.mp4_frag.specs.declared.single_run.SingleRun.{SingleRun}
use Rattle.mp4_frag.specs.SingleRuns.{IsSingle}
use Rattle.mp4_frag.specs.Moofs.{IsRead, moof_runs, moof_samples, moof_trafs}
use Rattle.mp4_traf.specs.Settling.{settled}
use Rattle.mp4_frag.specs.Places.{run_place_fault, place_fault, listed_run}
use Rattle.mp4_run_order.specs.Orders.{taken_by}
use Rattle.mp4_frag.specs.RunLists.{taken_runs}
use Rattle.mp4_traf.specs.Runs.{MoofBytes, moof_at}
use Rattle.mp4_traf.specs.Ranges.{IsRunOf}
use Rattle.mp4_frag.proofs.ReadRunLemmas.{ranged_run}
use Rattle.mp4_machine.proofs.HoldingLemmas.{begins_whole}
use Rattle.mp4_grammar.specs.Commands.{accepted, command_meaning}
use Rattle.mp4_grammar.specs.Items.{end_of, fragment, inspected}
use Rattle.mp4_grammar.specs.Kinds.{most_moof}
use Rattle.mp4_grammar.specs.Meanings.{Fragment, counted_in, fragment_fault}
use Rattle.mp4_grammar.specs.Contexts.{context}
use Rattle.mp4_grammar.specs.Samples.{sample_lines, samples_of_run}
use Rattle.mp4_grammar.specs.declared.command.Command.{Command}
use Rattle.mp4_grammar.specs.declared.kinds.Kind.{Kind}
use Rattle.mp4_grammar.specs.declared.kinds.Kind.TheVariants.{Moof, Mdat}
use Rattle.mp4_machine.specs.Bodies.{longest}
use Rattle.mp4_machine.specs.Blocks.{Breaks, Passes, Pending}
use Rattle.mp4_machine.specs.Inputs.{Environment, GoesOn, StopsAt, environment}
use Rattle.mp4_machine.specs.Readings.{plus}
use Rattle.mp4_machine.specs.declared.stop.Stop.TheVariants.{Write}
use Rattle.mp4_machine.specs.declared.tally.Tally.{Tally}
use Rattle.mp4_fragment_machine.specs.Places.{InHeader, continuation_at}
use Rattle.mp4_fragment_machine.specs.Implementation.InPlace.{AreBoxes, IsFirstBox, IsFragment, payload_in}
use Rattle.mp4_fragment_machine.specs.declared.in_place.Boxes.{Boxes}
use Rattle.mp4_fragment_machine.specs.declared.in_place.Span.{Span}
use Rattle.mp4_fragment_machine.proofs.MediaLemmas.{AreIn, media_in}
use Rattle.mp4_fragment_machine.proofs.InPlaceLemmas.{GoesOn-whole, StopsAt-whole, front_is}
use Rattle.mp4_machine.proofs.ReadingAskLemmas.{same_tally}

-- ---- a box at the front

module _ (kind : Kind) (at : ℕ) (x : List ℕ) (b : Span) (first : IsFirstBox kind at x b) where
  -- its header has room
  pub first_fits : b.header_len ≤ b.size
  first_fits = omega (arith, first.header_len, subst (λ z. HasRoom z first.header.header_len) first.sized (room_of x first.header first.is))

  module _ (m : List ℕ) (is : m ≡ take b.size x) where
    pub first_len : length m ≡ b.size
    first_len = ap length is ∙ length-take-le b.size x first.whole

    -- its bytes begin with its header
    pub first_is : header_at m ≡ steps.Whole first.header
    first_is =
        front_is m x first.header (is ∙ ap (λ n. take n x) (sym first_len)) first.is (omega (arith, first_fits, first.header_len, first_len)) (omega (arith, first.whole, first_len))

    pub first_whole : IsBytes m → IsWhole m
    first_whole fits = begins_whole b.size m fits (first.header, first_is, first.sized) first_len

-- ---- a run that is the only one

none_blamed : (o : Option ListedRun) → option_map (λ run. run_place_fault run.number) o ≡ None → o ≡ None
none_blamed None e = refl
none_blamed (Some run) e = absurd cc

module _ (p : Payload) (run : Run) (is_placed : place_fault p (run ∷ []) ≡ None) where
  placed : Placed p (listed_run run ∷ [])
  placed =
      subst (IsOffender p (listed_run run ∷ [])) (none_blamed (first_offender p (listed_run run ∷ [])) is_placed) (offender_means p (listed_run run ∷ []) (λ i j d low high. absurd (omega (arith, low, high))))

  pub lies : has_samples (listed_run run) ≡ true → LiesIn p (listed_run run)
  lies some = (placed 0 (listed_run run) (omega arith) (λ e. none_has e some)).lies
    where
      none_has : (listed_run run).count ≡ 0 → has_samples (listed_run run) ≡ true → ⊥
      none_has e t = let no : has_samples (listed_run run) ≡ false = ap (λ n. not (n == 0)) e in absurd cc

  -- it has no more bytes than the payload
  pub single_fits : (moof_bytes : List ℕ) (end : ℕ) → p.end ≡ Some end → p.start ≤ end → IsRunOf moof_bytes run → p.start + run.bytes ≤ end
  single_fits moof_bytes end e room is =
      let one : AreIn p (run ∷ []) = record { rise = (tt, tt); lie = (lies, tt) } in
      omega (arith, media_in moof_bytes p end (run ∷ []) 1 e room one (is, tt), sum_by-cons (λ (r : Run). r.bytes) run [])

-- ---- a fragment

-- samples that were inspected
pub inspected_more : (t : Tally) (h : MoofBytes) (n : ℕ) → n ≡ moof_samples h → record t { inspected = t.inspected + n } ≡ plus t (inspected h)
inspected_more t h n e =
    same_tally (omega arith) (omega arith) (omega arith) (ap (λ k. t.inspected + k) e)

module _ (h : MoofBytes) (tracks : List Track) (l : SingleRun) (single_run : IsSingle h tracks l) where
  pub one_taken : taken_runs h tracks ≡ l.run ∷ []
  one_taken = ap (taken_by listed_run) single_run.run

  pub single_is : IsRunOf h.bytes l.run
  single_is = ranged_run h tracks single_run.read [] [] l.run (record { is = single_run.run }) single_run.range

  -- its lines are those of the run
  pub single_lines : sample_lines (flat_map (samples_of_run h.bytes) (taken_runs h tracks)) ≡ sample_lines (samples_of_run h.bytes l.run)
  single_lines = ap (λ runs. sample_lines (flat_map (samples_of_run h.bytes) runs)) one_taken ∙ ap sample_lines (append-nil (samples_of_run h.bytes l.run))

  -- and so are its bytes
  pub single_bytes : sum_by (λ (run : Run). run.bytes) (taken_runs h tracks) ≡ l.run.bytes
  single_bytes = let one = ap (sum_by (λ (run : Run). run.bytes)) one_taken in omega (arith, one, sum_by-cons (λ (run : Run). run.bytes) l.run [])

module _ (at : ℕ) (input : List ℕ) (b : Boxes) (are : AreBoxes at input b) where
  pub moof_len : length b.moof.now ≡ are.span.size
  moof_len = first_len Moof at input are.span are.moof b.moof.now are.bytes

  pub moof_whole : IsWhole b.moof.now
  moof_whole = first_whole Moof at input are.span are.moof b.moof.now are.bytes are.valid

  pub some_moof : 0 < are.span.size
  some_moof =
      let w = whole_is input are.moof.header are.moof.is in
      omega (arith, w.1, need-least input, are.moof.header_len, first_fits Moof at input are.span are.moof)

-- its boxes have room for their headers, and the input for them
pub record BoxesFit (at : ℕ) (input : List ℕ) (b : Boxes) : Type 0 where
  pub header_len : b.mdat.header_len ≤ b.mdat.size
  pub whole : length b.moof.now + b.mdat.size ≤ length input
  pub near : at + length b.moof.now + b.mdat.size ≤ longest

pub boxes_fit : (at : ℕ) (input : List ℕ) (b : Boxes) → AreBoxes at input b → BoxesFit at input b
boxes_fit at input b are =
    let len = moof_len at input b are in
    record {
      header_len = first_fits Mdat (at + are.span.size) (drop are.span.size input) b.mdat are.mdat;
      whole = omega (arith, len, are.moof.whole, are.mdat.whole, length-drop are.span.size input);
      near = omega (arith, len, are.mdat.near);
    }

module _ (at : ℕ) (tracks : List Track) (input : List ℕ) (b : Boxes) (are : AreBoxes at input b) where
  abbrev m : List ℕ
  m = b.moof.now

  abbrev g : Header
  g = are.mdat.header

  abbrev n : ℕ
  n = length b.moof.now + b.mdat.size

  abbrev runs : List Run
  runs = moof_runs (moof_at b.moof.now at) tracks

  long : length b.moof.now ≡ are.span.size
  long = moof_len at input b are

  -- the fragment with its number
  abbrev pub emitted : ℕ → Fragment
  emitted number = fragment (context at (Some tracks) number) tracks b.moof.now are.mdat.header

  pub emitted_payload : (emitted 1).payload ≡ payload_in (at + are.span.size) b.mdat
  emitted_payload =
      ap (λ k. record { start = at + k + g.header_len; end = end_of (at + k) g.size }) long
      ∙ ap (λ k. record { start = at + are.span.size + k; end = end_of (at + are.span.size) g.size }) are.mdat.header_len
      ∙ ap (λ z. record { start = at + are.span.size + b.mdat.header_len; end = end_of (at + are.span.size) z }) are.mdat.sized

  within : length m ≤ length input
  within = omega (arith, long, are.moof.whole)

  front : m ≡ take (length m) input
  front = are.bytes ∙ ap (λ k. take k input) (sym long)

  after : header_at (drop (length m) input) ≡ steps.Whole g
  after = ap (λ k. header_at (drop k input)) long ∙ are.mdat.is

  sized : are.moof.header.size ≡ Exact (length m)
  sized = are.moof.sized ∙ ap Exact (sym long)

  whole : b.mdat.size ≤ length (drop (length m) input)
  whole = subst (λ k. b.mdat.size ≤ length (drop k input)) (sym long) are.mdat.whole

  near : at + length m + b.mdat.size ≤ longest
  near = omega (arith, long, are.mdat.near)

  most : length m ≤ most_moof
  most = omega (arith, long, are.most)

  -- its runs may lie where they do
  module _ (read : IsRead (moof_at b.moof.now at) tracks) (is_placed : place_fault (payload_in (at + are.span.size) b.mdat) (moof_runs (moof_at b.moof.now at) tracks) ≡ None) where
    emitted_is_good : (command : Command) (number : ℕ) → fragment_fault (command_meaning command) (emitted number) ≡ None
    emitted_is_good command number = ap (λ o. option_or o None) (ap (λ p. place_fault p runs) emitted_payload ∙ is_placed)

    module _ (command : Command) (number : ℕ) (o : Environment) (low : 64 * length tracks ≤ o.account.live) (u : Option (List ℕ)) (v : Pending) (a : Account) (t : Tally)
        (claim : ℕ) (claims : claim ≡ length b.moof.now + 64 * length (moof_runs (moof_at b.moof.now at) tracks)) (account : a ≡ given_back (claimed o.account claim) claim)
        (tally : t ≡ plus (plus o.tally (inspected (moof_at b.moof.now at))) (counted_in (emitted number))) where
      -- it is written
      pub GoesOn-emitted : Passes o.written u o.waiting v (accepted command (emitted number)).text
          → GoesOn o (environment u v a t) (continuation_at (command_meaning command) (InHeader (context at (Some tracks) number) [])) (take (length b.moof.now + b.mdat.size) input) (continuation_at (command_meaning command) (InHeader (context (at + (length b.moof.now + b.mdat.size)) (Some (settled tracks (moof_trafs (moof_at b.moof.now at) tracks))) number) []))
      GoesOn-emitted passes =
          let goes = GoesOn-whole command number o at tracks input m are.moof.header g b.mdat.size claim front within are.moof.is are.moof.is_kind sized most read claims after are.mdat.is_kind are.mdat.sized whole near low u v a t (emitted_is_good command number) account tally passes in
          let end : at + length m + b.mdat.size ≡ at + n = omega arith in
          subst (λ k. GoesOn o (environment u v a t) (continuation_at (command_meaning command) (InHeader (context at (Some tracks) number) [])) (take n input) (continuation_at (command_meaning command) (InHeader (context k (Some (settled tracks (moof_trafs (moof_at m at) tracks))) number) []))) end goes

      -- it can't be written
      pub StopsAt-emitted : (more : List ℕ) → Breaks o.written u o.waiting v (accepted command (emitted number)).text → StopsAt o (environment u v (given_back a (64 * length tracks)) t) (continuation_at (command_meaning command) (InHeader (context at (Some tracks) number) [])) (input ++ more) Write
      StopsAt-emitted more p =
          StopsAt-whole command number o at tracks input m are.moof.header g b.mdat.size claim front within are.moof.is are.moof.is_kind sized most read claims after are.mdat.is_kind are.mdat.sized whole near low u v a t (emitted_is_good command number) account tally more p

-- ---- one with just one run

module _ (at : ℕ) (tracks : List Track) (input : List ℕ) (b : Boxes) (l : SingleRun) (is : IsFragment at tracks input b l) where
  len_is : length b.moof.now ≡ is.boxes.span.size
  len_is = moof_len at input b is.boxes

  pub run_is : IsRunOf b.moof.now l.run
  run_is = single_is (moof_at b.moof.now at) tracks l is.single_run

  -- its media lie in its mdat
  pub media_fits : at + is.boxes.span.size + l.run.bytes + 8 ≤ at + is.boxes.span.size + b.mdat.size
  media_fits =
      let room = first_fits Mdat (at + is.boxes.span.size) (drop is.boxes.span.size input) b.mdat is.boxes.mdat in
      let w = whole_is (drop is.boxes.span.size input) is.boxes.mdat.header is.boxes.mdat.is in
      let last = single_fits (payload_in (at + is.boxes.span.size) b.mdat) l.run is.is_placed b.moof.now (at + is.boxes.span.size + b.mdat.size) refl (omega (arith, room)) run_is in
      omega (arith, last, w.1, need-least (drop is.boxes.span.size input), is.boxes.mdat.header_len)

  -- the fragment with its number
  abbrev pub it : ℕ → Fragment
  it number = fragment (context at (Some tracks) number) tracks b.moof.now is.boxes.mdat.header

  pub payload_same : (it 1).payload ≡ payload_in (at + is.boxes.span.size) b.mdat
  payload_same = emitted_payload at tracks input b is.boxes

  placed_all : place_fault (payload_in (at + is.boxes.span.size) b.mdat) (moof_runs (moof_at b.moof.now at) tracks) ≡ None
  placed_all = ap (place_fault (payload_in (at + is.boxes.span.size) b.mdat)) is.single_run.run ∙ is.is_placed

  claims_one : length b.moof.now + 64 ≡ length b.moof.now + 64 * length (moof_runs (moof_at b.moof.now at) tracks)
  claims_one = let one : length (moof_runs (moof_at b.moof.now at) tracks) ≡ 1 = ap length is.single_run.run in omega (arith, one)

  module _ (command : Command) (number : ℕ) (o : Environment) (low : 64 * length tracks ≤ o.account.live) (u : Option (List ℕ)) (v : Pending) (a : Account) (t : Tally)
      (account : a ≡ given_back (claimed o.account (length b.moof.now + 64)) (length b.moof.now + 64)) (tally : t ≡ plus (plus o.tally (inspected (moof_at b.moof.now at))) (counted_in (it number))) where
    -- it is written
    pub GoesOn-it : Passes o.written u o.waiting v (accepted command (it number)).text
        → GoesOn o (environment u v a t) (continuation_at (command_meaning command) (InHeader (context at (Some tracks) number) [])) (take (length b.moof.now + b.mdat.size) input) (continuation_at (command_meaning command) (InHeader (context (at + (length b.moof.now + b.mdat.size)) (Some (with_next l.track l.run.end tracks)) number) []))
    GoesOn-it passes =
        subst (λ ts. GoesOn o (environment u v a t) (continuation_at (command_meaning command) (InHeader (context at (Some tracks) number) [])) (take (length b.moof.now + b.mdat.size) input) (continuation_at (command_meaning command) (InHeader (context (at + (length b.moof.now + b.mdat.size)) (Some ts) number) []))) is.single_run.ends
        (GoesOn-emitted at tracks input b is.boxes is.single_run.read placed_all command number o low u v a t (length b.moof.now + 64) claims_one account tally passes)

    -- it can't be written
    pub StopsAt-it : (more : List ℕ) → Breaks o.written u o.waiting v (accepted command (it number)).text → StopsAt o (environment u v (given_back a (64 * length tracks)) t) (continuation_at (command_meaning command) (InHeader (context at (Some tracks) number) [])) (input ++ more) Write
    StopsAt-it = StopsAt-emitted at tracks input b is.boxes is.single_run.read placed_all command number o low u v a t (length b.moof.now + 64) claims_one account tally
