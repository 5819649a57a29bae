-- A fragment that is whole in the input, and is recut.
use Rattle.std.proofs.Common.{◌≡◌, ◌∙◌, ℕ, ◌+◌, ◌-◌, ◌*◌, ◌<◌, ◌≤◌, ◌^◌, pos, Bool, true, false, List, [], ◌∷◌, ◌++◌, length, length-append, length-take-le, take, take-append-drop, drop, append-nil, append_assoc, Option, None, Some, ap, sym, refl, arith, subst}
use Rattle.std.specs.Prelude.{◌≤ℤ◌, IfSome}
use Rattle.std.specs.List.{sum_by}
use Rattle.std.specs.Option.{option_or}
use Rattle.std.proofs.Math.Seq.{drop-append_seam, take-append_seam}
use Rattle.std.proofs.lemmas.List.{length-drop}
use Rattle.std.proofs.lemmas.List.Sums.{sum_by-cons}
use Rattle.mp4_box.specs.declared.headers.FourCc.{FourCc}
use Rattle.mp4_box.specs.declared.headers.Header.{Header}
use Rattle.mp4_box.specs.declared.headers.Size.TheVariants.{Exact}
use Rattle.mp4_box.specs.declared.headers.Step.TheVariants as steps
use Rattle.mp4_box.specs.Headers.{HasRoom, header_at}
use Rattle.mp4_box.proofs.HeaderLemmas.{room_of}
use Rattle.mp4_init.specs.declared.table.Track.{Track}
use Rattle.mp4_frag.specs.Moofs.{moof_runs, moof_trafs}
use Rattle.mp4_frag.specs.Places.{place_fault}
use Rattle.mp4_traf.specs.Runs.{end_place, moof_at}
use Rattle.mp4_traf.specs.Settling.{settled}
use Rattle.mp4_frag.specs.declared.single_run.SingleRun.{SingleRun}
use Rattle.mp4_traf.specs.declared.run.Run.{Run}
use Rattle.mp4_frag.proofs.SettleLemmas.{settled_length}
use Rattle.mp4_ledger.specs.Memory.{Account, claimed, given_back}
use Rattle.mp4_pieces.specs.declared.cut.Cut.{Cut}
use Rattle.mp4_pieces.specs.Pieces.{piece_count, pieces_of}
use Rattle.mp4_pieces.specs.declared.piece.Piece.{Piece}
use Rattle.mp4_pieces.specs.Rooms.{room_fault, room_faults}
use Rattle.mp4_pieces.proofs.FitsLemmas.{room_to}
use Rattle.mp4_machine.specs.Bodies.{least_end, longest, body_item}
use Rattle.mp4_machine.specs.Blocks.{BreaksMarked, PassesMarked, Pending}
use Rattle.mp4_machine.specs.Inputs.{Continuation, Environment, GoesOn, Moves, StopsAt, WriteFailed, environment}
use Rattle.mp4_machine.specs.Readings.{Effects, after, both, no_effects, then_read}
use Rattle.mp4_machine.specs.declared.stop.Stop.TheVariants.{Write}
use Rattle.mp4_machine.specs.declared.tally.Tally.{Tally}
use Rattle.mp4_machine.proofs.BlockLemmas.{Passes-none}
use Rattle.mp4_machine.proofs.BodyLemmas.{nat_lt_false}
use Rattle.mp4_machine.proofs.InputLemmas.{GoesOn-silent, GoesOn-take_more, StopsAt-take_more}
use Rattle.mp4_machine.proofs.ReadingLemmas.{silent-both, then_read-emitted}
use Rattle.mp4_grammar.specs.Contexts.{Context, context, table_of}
use Rattle.mp4_grammar.specs.Items.{context_after_fragment, end_of, fragment, inspected, media_body, reads_in, with_runs}
use Rattle.mp4_grammar.specs.Meanings.{Fragment, Meaning, fragment_fault, runs_in}
use Rattle.mp4_recut.specs.Media.{Outputs, MediaPosition, WriteFailedIn, output_from}
use Rattle.mp4_machine.specs.declared.fragment_end.FragmentEnd.{FragmentEnd}
use Rattle.mp4_recut.specs.OutputFragments.{Ascends, OutputFragment, fragment_ends_in, slices, fragments_effects}
use Rattle.mp4_recut.proofs.OutputFragmentLemmas.{emitted_all}
use Rattle.mp4_recut.specs.Splitting.{output_fragments, run_fragments, runs_fragments, splitting, timescale_of}
use Rattle.mp4_recut.proofs.AscendLemmas.{runs_ascend}
use Rattle.mp4_recut.proofs.FragmentLemmas.{some_samples}
use Rattle.mp4_recut.proofs.OutputFragmentLemmas.{output_of-slices}
use Rattle.mp4_recut.proofs.RoomLemmas.{no_fault, room_for_samples, run_length}
use Rattle.mp4_fragment_machine.specs.Places.{InBody, InHeader, InMdatHeader, continuation_at}
use Rattle.mp4_fragment_machine.specs.Implementation.Recuts.{first_position, in_media, with_samples}
use Rattle.mp4_fragment_machine.specs.States.{IsCounted, cut_least, cut_most, cut_reads}
use Rattle.mp4_fragment_machine.specs.declared.counter.Counter.{Counter}
use Rattle.mp4_recut.specs.declared.operation.Operation.TheVariants as operations
use Rattle.mp4_fragment_machine.specs.Implementation.InPlace.{IsFragment, media_in, media_start, payload_in}
use Rattle.mp4_fragment_machine.specs.declared.in_place.Boxes.{Boxes}
use Rattle.mp4_machine.specs.Accounts.{Counts}
use Rattle.mp4_fragment_machine.proofs.SecondLemmas.{second-accepted}
use Rattle.mp4_fragment_machine.proofs.BodyLemmas.{Moves-settled, back_twice}
use Rattle.mp4_fragment_machine.proofs.FragmentLemmas.{BoxesFit, boxes_fit, lies, media_fits, moof_len, one_taken, payload_same, run_is}
use Rattle.mp4_fragment_machine.proofs.RecutLemmas.{GoesOn-begun, cut_short_first}
use Rattle.mp4_machine.proofs.HeadLemmas.{front-is, front-len}
use Rattle.mp4_machine.proofs.StepLemmas.{GoesOn-then}
use Rattle.mp4_fragment_machine.proofs.InPlaceLemmas.{GoesOn-moof_whole, back_at_once, claimed_at_once, front_is, listed}
use Rattle.mp4_init.specs.Tracks.{with_next}
use Rattle.mp4_machine.proofs.ReadingAskLemmas.{same_tally}

-- nothing was written yet
pub Outputs-none : (a : Option (List ℕ)) (v : Pending) (n : ℕ) (p : MediaPosition) → Outputs a a v v n n p [] p
Outputs-none a v n p = record {
  effects = no_effects;
  emits = record {
    plain = record { requests = refl; samples = refl; media = refl; inspected = refl };
    passes = Passes-none a v;
    counted = omega arith;
  };
  rest = λ later. sym (silent-both (output_from p later));
}

-- the effects of a body of which all bytes came
pub body-all : (meaning : Meaning) (emit : List ℕ → Effects) (at : ℕ) (kind : FourCc) (next : Context) (x later : List ℕ) → then_read (reads_in meaning) (body_item emit at kind next (length x) (x ++ later)) ≡ after (emit x) (reads_in meaning next later)
body-all meaning emit at kind next x later =
    rw (nat_lt_false (length (x ++ later)) (length x) (omega (arith, length-append x later)), take-append_seam x later, drop-append_seam x later) refl

-- all of a body came, and what isn't needed any more was given back
pub GoesOn-all : (meaning : Meaning) (at : ℕ) (kind : FourCc) (o o' : Environment) (p : MediaPosition) (next : Context) (own : ℕ) (x : List ℕ) → length x ≤ next.at → Moves o o' own (table_of next.tracks) (output_from p x)
    → GoesOn o o' (continuation_at meaning (InBody (output_from p) at kind next (length x) own)) x (continuation_at meaning (InHeader next []))
GoesOn-all meaning at kind o o' p next own x low m = record {
  produced = output_from p x;
  moves = m;
  reached = omega (arith, low);
  rest = λ later. body-all meaning (output_from p) at kind next x later;
}

module _ (cut : Cut) (o : Environment) (at : ℕ) (tracks : List Track) (input : List ℕ) (b : Boxes) (l : SingleRun) (is : IsFragment at tracks input b l) (plain : cut.index ≡ false) (few : o.tally.fragments + 1 + l.run.count ≤ 4294967296) (low : 64 * length tracks ≤ o.account.live) where
  abbrev m : List ℕ
  m = b.moof.now

  abbrev x : List ℕ
  x = drop (length b.moof.now) input

  abbrev number : ℕ
  number = o.tally.fragments + 1

  abbrev c : Context
  c = context at (Some tracks) (o.tally.fragments + 1)

  abbrev h : Header
  h = is.boxes.moof.header

  abbrev g : Header
  g = is.boxes.mdat.header

  abbrev f : Fragment
  f = fragment (context at (Some tracks) (o.tally.fragments + 1)) tracks b.moof.now is.boxes.mdat.header

  abbrev s : ℕ
  s = b.mdat.size

  abbrev end : ℕ
  end = at + length b.moof.now + b.mdat.size

  abbrev pieces : List Piece
  pieces = pieces_of cut b.moof.now l.run

  abbrev payload : List ℕ
  payload = take (b.mdat.size - is.boxes.mdat.header.header_len) (drop is.boxes.mdat.header.header_len (drop (length b.moof.now) input))

  abbrev ahead : List OutputFragment
  ahead = run_fragments cut b.moof.now l.run (timescale_of tracks l.run.track) 0 (o.tally.fragments + 1) (pieces_of cut b.moof.now l.run)

  -- what is put, and where moofs end in it
  abbrev pub put : List ℕ
  put = slices (media_start at b) (media_in input b) (run_fragments cut b.moof.now l.run (timescale_of tracks l.run.track) 0 (o.tally.fragments + 1) (pieces_of cut b.moof.now l.run))

  abbrev pub fragment_ends : List FragmentEnd
  fragment_ends = fragment_ends_in (media_start at b) (media_in input b) (run_fragments cut b.moof.now l.run (timescale_of tracks l.run.track) 0 (o.tally.fragments + 1) (pieces_of cut b.moof.now l.run))

  fit : BoxesFit at input b
  fit = boxes_fit at input b is.boxes

  head_is : g.header_len ≡ b.mdat.header_len
  head_is = is.boxes.mdat.header_len

  -- ---- it is accepted

  placed : place_fault f.payload (moof_runs f.moof f.tracks) ≡ None
  placed = ap (λ p. place_fault p (moof_runs (moof_at m at) tracks)) (payload_same at tracks input b l is) ∙ ap (place_fault (payload_in (at + is.boxes.span.size) b.mdat)) is.single_run.run ∙ is.is_placed

  has_room : room_fault cut f.moof (moof_runs f.moof f.tracks) number ≡ None
  has_room =
      let runs = moof_runs f.moof f.tracks in
      sym (no_fault (room_faults cut f.moof runs number) (room_to cut f.moof runs number (room_for_samples cut f.moof tracks number plain (omega (arith, few, is.single_run.samples)))))

  good : fragment_fault (splitting cut) f ≡ None
  good = ap (λ e. option_or e (room_fault cut f.moof (moof_runs f.moof f.tracks) number)) placed ∙ has_room

  -- ---- the effects of its media

  taken : runs_in f ≡ l.run ∷ []
  taken = one_taken (moof_at m at) tracks l is.single_run

  all_fragments : output_fragments cut f ≡ ahead
  unfolding runs_fragments
  all_fragments = ap (runs_fragments cut m tracks number) taken ∙ append-nil ahead

  ends : f.payload.end ≡ Some end
  ends = ap (end_of (at + length m)) is.boxes.mdat.sized

  len : length payload ≡ s - g.header_len
  len = length-take-le (s - g.header_len) (drop g.header_len x) (omega (arith, head_is, fit.header_len, fit.whole, length-drop g.header_len x, length-drop (length m) input))

  lie : 0 < l.run.bytes → (pos f.payload.start ≤ℤ l.run.place) × (end_place l.run ≤ℤ pos end)
  lie some =
      let is_placed : place_fault f.payload (l.run ∷ []) ≡ None = ap (place_fault f.payload) (sym is.single_run.run) ∙ placed in
      let in_it = lies f.payload l.run is_placed (some_samples m l.run (run_is at tracks input b l is) some) in
      (in_it.from, subst (λ (e : Option ℕ). IfSome e (λ n. end_place l.run ≤ℤ pos n)) ends in_it.to)

  ascends : Ascends f.payload.start end (output_fragments cut f)
  ascends =
      subst (λ (runs : List Run). Ascends f.payload.start end (runs_fragments cut m tracks number runs)) (sym taken)
      (runs_ascend cut m tracks number f.payload.start end (l.run ∷ []) (omega (arith, head_is, fit.header_len)) (run_is at tracks input b l is, tt) (lie, tt) (tt, tt))

  effects : output_from (first_position cut f) payload ≡ fragments_effects put fragment_ends (length pieces)
  effects =
      let last : end ≡ f.payload.start + length payload = omega (arith, len, head_is, fit.header_len) in
      let begins : f.payload.start ≡ media_start at b = omega (arith, head_is) in
      let same : payload ≡ media_in input b = ap (λ k. take (s - k) (drop k x)) head_is in
      output_of-slices f.payload.start payload (output_fragments cut f) (subst (λ e. Ascends f.payload.start e (output_fragments cut f)) last ascends)
      ∙ ap (emitted_all f.payload.start payload) all_fragments
      ∙ ap (λ k. emitted_all k payload ahead) begins
      ∙ ap (λ z. emitted_all (media_start at b) z ahead) same
      ∙ ap (fragments_effects put fragment_ends) (run_length cut m l.run (timescale_of tracks l.run.track) 0 number pieces)

  counted : (splitting cut).numbered f ≡ number + length pieces
  counted = omega (arith, ap (piece_count cut m) taken, sum_by-cons (λ (r : Run). length (pieces_of cut m r)) l.run [])

  -- ---- its boxes, one after the other

  moof_len_is : length m ≡ is.boxes.span.size
  moof_len_is = moof_len at input b is.boxes

  front : m ≡ take (length m) input
  front = is.boxes.bytes ∙ ap (λ k. take k input) (sym moof_len_is)

  within : length m ≤ length input
  within = omega (arith, moof_len_is, is.boxes.moof.whole)

  sized : h.size ≡ Exact (length m)
  sized = is.boxes.moof.sized ∙ ap Exact (sym moof_len_is)

  begins_moof : header_at m ≡ steps.Whole h
  begins_moof = front_is m input h front is.boxes.moof.is (subst (λ z. HasRoom z h.header_len) sized (room_of input h is.boxes.moof.is)) within

  abbrev listed_of : Environment
  listed_of = listed (splitting cut) number o at tracks h m begins_moof is.boxes.moof.is_kind sized (omega (arith, moof_len_is, is.boxes.most)) (omega (arith, fit.near)) low

  abbrev starts : Continuation
  starts = continuation_at (splitting cut) (InHeader c [])

  abbrev waits : List ℕ → Continuation
  waits y = continuation_at (splitting cut) (InMdatHeader c tracks m y)

  to_after : GoesOn o listed_of starts (take (length m) input) (waits [])
  to_after =
      subst (λ y. GoesOn o listed_of starts y (waits [])) front
      (GoesOn-moof_whole (splitting cut) number o at tracks h m begins_moof is.boxes.moof.is_kind sized (omega (arith, moof_len_is, is.boxes.most)) (omega (arith, fit.near)) low is.single_run.read)

  following : header_at x ≡ steps.Whole g
  following = ap (λ k. header_at (drop k input)) moof_len_is ∙ is.boxes.mdat.is

  abbrev mdat_head : List ℕ
  mdat_head = take g.header_len x

  to_head : GoesOn listed_of listed_of (waits []) mdat_head (waits mdat_head)
  to_head = GoesOn-silent listed_of (waits []) (waits mdat_head) mdat_head refl (omega arith) (λ later. refl)

  fits : least_end (at + length m) g g.size ≤ longest
  fits = subst (λ z. least_end (at + length m) g z ≤ longest) (sym is.boxes.mdat.sized) fit.near

  abbrev own : ℕ
  own = with_runs c tracks m

  low_claim : own ≤ listed_of.account.live
  low_claim = omega (arith, low)

  abbrev accepted_of : Environment
  accepted_of = environment listed_of.written listed_of.waiting listed_of.account (with_samples f listed_of.tally listed_of.tally.fragments)

  abbrev after_it : Context
  after_it = context_after_fragment (splitting cut) f (at + length m + s)

  abbrev body : ℕ → Continuation
  body left = continuation_at (splitting cut) (InBody (output_from (first_position cut f)) (at + length m) g.kind after_it left own)

  to_body : GoesOn listed_of accepted_of (waits mdat_head) [] (body (length payload))
  to_body =
      subst (λ k. GoesOn listed_of accepted_of (waits mdat_head) [] (body k)) (sym len)
      (subst (λ z. GoesOn listed_of accepted_of (waits mdat_head) [] (continuation_at (splitting cut) (in_media cut f (first_position cut f) (at + length m) g own z))) is.boxes.mdat.sized
      (GoesOn-begun cut c tracks m mdat_head g (front-len x g following) (front-is x g following) fits is.boxes.mdat.is_kind good listed_of.written listed_of.written listed_of.waiting listed_of.waiting listed_of.tally listed_of.tally.fragments (first_position cut f) listed_of.account (room_of x g following)
      (Outputs-none listed_of.written listed_of.waiting listed_of.tally.fragments (first_position cut f))))

  module _ (u : Option (List ℕ)) (v : Pending) (a : Account) (t : Tally) (account : a ≡ given_back (claimed o.account (length b.moof.now + 64)) (length b.moof.now + 64))
      (samples : t.samples ≡ o.tally.samples + l.run.count) (media : t.media_bytes ≡ o.tally.media_bytes + l.run.bytes) (inspects : t.inspected ≡ o.tally.inspected + l.run.count) where
    one : length (moof_runs (moof_at m at) tracks) ≡ 1
    one = ap length is.single_run.run

    back_of : given_back (given_back listed_of.account (64 * length (moof_runs (moof_at m at) tracks))) (length m) ≡ a
    back_of = claimed_at_once o.account (length m) (64 * length (moof_runs (moof_at m at) tracks)) (length m + 64) (omega (arith, one)) ∙ sym account

    bytes_of : sum_by (λ (r : Run). r.bytes) (runs_in f) ≡ l.run.bytes
    bytes_of = ap (sum_by (λ (r : Run). r.bytes)) taken ∙ sum_by-cons (λ (r : Run). r.bytes) l.run [] ∙ omega arith

    -- its fragments were put
    pub GoesOn-recut_whole : t.fragments ≡ o.tally.fragments + length (pieces_of cut b.moof.now l.run) → PassesMarked o.written u o.waiting v put fragment_ends
        → GoesOn o (environment u v a t) (continuation_at (splitting cut) (InHeader (context at (Some tracks) (o.tally.fragments + 1)) [])) (take (length b.moof.now + b.mdat.size) input)
        (continuation_at (splitting cut) (InHeader (context (at + (length b.moof.now + b.mdat.size)) (Some (with_next l.track l.run.end tracks)) (t.fragments + 1)) []))
    GoesOn-recut_whole fragments passes =
        let meaning = splitting cut in
        let o' = environment u v a t in
        let r = continuation_at meaning (InHeader after_it []) in
        let ended = 64 * length (settled tracks (moof_trafs (moof_at m at) tracks)) in
        let n = length b.moof.now + b.mdat.size in
        let back = Moves-settled accepted_of (64 * length tracks) (length m) (64 * length (moof_runs (moof_at m at) tracks)) ended (ap (λ k. 64 * k) (settled_length tracks (moof_trafs (moof_at m at) tracks))) low_claim in
        let tallied = same_tally {s = t} (omega (arith, fragments)) (omega (arith, samples, is.single_run.samples)) (omega (arith, media, bytes_of)) (omega (arith, inspects, is.single_run.samples)) in
        let moves : Moves accepted_of o' own ended (output_from (first_position cut f) payload) =
        subst (Moves accepted_of o' own ended) (sym effects) (record { passes = passes; counts = subst (λ k. Counts listed_of.account k own ended 0) back_of back.counts; tallied = tallied }) in
        let to_end = GoesOn-all meaning (at + length m) g.kind accepted_of o' (first_position cut f) after_it own payload (omega (arith, len)) moves in
        let effects_of = GoesOn-then low_claim to_head (body (length payload)) to_body in
        let passed = GoesOn-take_more low_claim g.header_len x effects_of (s - g.header_len) r to_end in
        let all : g.header_len + (s - g.header_len) ≡ s = omega (arith, head_is, fit.header_len) in
        let goes = GoesOn-take_more low (length m) input to_after s r (subst (λ k. GoesOn listed_of o' (waits []) (take k x) r) all passed) in
        let there : at + length m + s ≡ at + n = omega arith in
        let next : (splitting cut).numbered f ≡ t.fragments + 1 = omega (arith, counted, fragments) in
        subst (λ k. GoesOn o o' starts (take n input) (continuation_at meaning (InHeader (context (at + n) (Some (with_next l.track l.run.end tracks)) k) []))) next
        (subst (λ ts. GoesOn o o' starts (take n input) (continuation_at meaning (InHeader (context (at + n) (Some ts) ((splitting cut).numbered f)) []))) is.single_run.ends
        (subst (λ k. GoesOn o o' starts (take n input) (continuation_at meaning (InHeader (context k (Some (settled tracks (moof_trafs (moof_at m at) tracks))) ((splitting cut).numbered f)) []))) there goes))

    -- a write failed as they were put: all is given back
    pub StopsAt-recut_whole : (more : List ℕ) → o.tally.fragments ≤ t.fragments → t.fragments ≤ o.tally.fragments + length (pieces_of cut b.moof.now l.run) → BreaksMarked o.written u o.waiting v put fragment_ends
        → StopsAt o (environment u v (given_back a (64 * length tracks)) t) (continuation_at (splitting cut) (InHeader (context at (Some tracks) (o.tally.fragments + 1)) [])) (input ++ more) Write
    StopsAt-recut_whole more least most prefix =
        let o'' = environment u v (given_back a (64 * length tracks)) t in
        StopsAt-take_more low (length m) input to_after o'' more Write
        (StopsAt-take_more low_claim g.header_len x to_head o'' more Write (λ later. write_fails ((drop g.header_len x ++ more) ++ later) (rest_of more later) (same_bytes more later)))
      where
        rest_of : List ℕ → List ℕ → List ℕ
        rest_of more later = (drop (s - g.header_len) (drop g.header_len x) ++ more) ++ later

        same_bytes : (more later : List ℕ) → (drop g.header_len x ++ more) ++ later ≡ payload ++ rest_of more later
        same_bytes more later =
            let y = drop g.header_len x in
            let z = drop (s - g.header_len) y in
            ap (λ l. (l ++ more) ++ later) (sym (take-append-drop (s - g.header_len) y))
            ∙ ap (λ l. l ++ later) (append_assoc payload z more)
            ∙ append_assoc payload (z ++ more) later

        counted_so : with_samples f listed_of.tally t.fragments ≡ t
        counted_so = sym (same_tally {s = t} refl (omega (arith, samples, is.single_run.samples)) (omega (arith, media, bytes_of)) (omega (arith, inspects, is.single_run.samples)))

        given : given_back listed_of.account own ≡ given_back a (64 * length tracks)
        given =
            let runs = 64 * length (moof_runs (moof_at m at) tracks) in
            let sum : own ≡ 64 * length tracks + (length m + runs) = omega arith in
            ap (given_back listed_of.account) sum
            ∙ sym (back_twice listed_of.account (length m + runs) (64 * length tracks))
            ∙ sym (back_at_once o.account (length m) runs (length m + 64) (64 * length tracks) (omega (arith, one)))
            ∙ ap (λ k. given_back k (64 * length tracks)) (sym account)

        write_fails : (all rest : List ℕ) → all ≡ payload ++ rest → WriteFailed listed_of (environment u v (given_back a (64 * length tracks)) t) (waits mdat_head).claim ((waits mdat_head).reads all)
        write_fails all rest e =
            let meaning = splitting cut in
            let emitted_first = fragments_effects put fragment_ends (length pieces) in
            let reads : (waits mdat_head).reads all ≡ after (meaning.accepted f) (then_read (reads_in meaning) (media_body meaning f (at + length m) g g.size all)) =
            ap (then_read (reads_in meaning)) (second-accepted meaning c tracks m g mdat_head (front-len x g following) (front-is x g following) all fits is.boxes.mdat.is_kind good) ∙ then_read-emitted (reads_in meaning) (meaning.accepted f) (media_body meaning f (at + length m) g g.size all) in
            let body_reads : then_read (reads_in meaning) (media_body meaning f (at + length m) g g.size all) ≡ after emitted_first (reads_in meaning after_it rest) =
            ap (λ z. then_read (reads_in meaning) (media_body meaning f (at + length m) g z all)) is.boxes.mdat.sized
            ∙ ap (λ y. then_read (reads_in meaning) (body_item (meaning.media f) (at + length m) g.kind after_it (s - g.header_len) y)) e
            ∙ ap (λ k. then_read (reads_in meaning) (body_item (meaning.media f) (at + length m) g.kind after_it k (payload ++ rest))) (sym len)
            ∙ body-all meaning (meaning.media f) (at + length m) g.kind after_it payload rest
            ∙ ap (λ z. after z (reads_in meaning after_it rest)) effects in
            let is_emitted : ((waits mdat_head).reads all).effects ≡ both (meaning.accepted f) (both emitted_first (reads_in meaning after_it rest).effects) = ap (λ z. z.effects) (reads ∙ ap (after (meaning.accepted f)) body_reads) in
            let cut_short : WriteFailedIn listed_of.written u listed_of.waiting v listed_of.tally.fragments t.fragments emitted_first = record { text = prefix; least = omega (arith, least); most = omega (arith, most) } in
            let so = cut_short_first cut c tracks m mdat_head g (front-len x g following) (front-is x g following) fits is.boxes.mdat.is_kind good listed_of.written u listed_of.waiting v listed_of.tally t.fragments own listed_of.account emitted_first (reads_in meaning after_it rest).effects ((waits mdat_head).reads all) is_emitted low_claim cut_short in
            subst (λ k. WriteFailed listed_of (environment u v (given_back a (64 * length tracks)) k) own ((waits mdat_head).reads all)) counted_so
            (subst (λ k. WriteFailed listed_of (environment u v k (with_samples f listed_of.tally t.fragments)) own ((waits mdat_head).reads all)) given so)

-- ---- what is counted

least_whole : (b : Bool) (inspected samples rows k : ℕ) → b ≡ false → inspected + samples + 0 + cut_least b samples ≤ rows → (inspected + k) + (samples + k) + 0 + cut_least b (samples + k) ≤ rows + 5 * k
least_whole true inspected samples rows k e i = absurd cc
least_whole false inspected samples rows k e i = omega (arith, i)

most_whole : (b : Bool) (inspected rows k : ℕ) → b ≡ false → rows + cut_most b 0 + 0 ≤ cut_reads b * inspected → rows + 5 * k + cut_most b 0 + 0 ≤ cut_reads b * (inspected + k)
most_whole true inspected rows k e i = absurd cc
most_whole false inspected rows k e i = omega (arith, i)

-- no sample waits after it
pub counted_in_place : (cut : Cut) (at : ℕ) (tracks : List Track) (input : List ℕ) (b : Boxes) (l : SingleRun) (is : IsFragment at tracks input b l) (c c' : Counter) → cut.index ≡ false → IsCounted (operations.Split cut) c at 0 0 → c'.tally.fragments + 1 ≤ 2 ^ 32
    → c'.tally.samples ≡ c.tally.samples + l.run.count → c'.tally.media_bytes ≡ c.tally.media_bytes + l.run.bytes → c'.tally.inspected ≡ c.tally.inspected + l.run.count → c'.steps.rows ≡ c.steps.rows + 5 * l.run.count
    → IsCounted (operations.Split cut) c' (at + (length b.moof.now + b.mdat.size)) 0 0
counted_in_place cut at tracks input b l is c c' plain i fits samples media inspects rows =
    let few = (run_is at tracks input b l is).few in
    let room = media_fits at tracks input b l is in
    let len = moof_len at input b is.boxes in
    let near = is.boxes.mdat.near in
    record {
      fragments = omega (arith, fits);
      media = omega (arith, media, i.media, room, len);
      inspected = omega (arith, inspects, i.inspected, few, room);
      samples = omega (arith, samples, i.samples, few, room);
      all = omega (arith, samples, inspects, i.all);
      some = rw (samples, inspects, rows) (least_whole cut.index c.tally.inspected c.tally.samples c.steps.rows l.run.count plain i.some);
      few = rw (inspects, rows) (most_whole cut.index c.tally.inspected c.steps.rows l.run.count plain i.few);
      far = omega (arith, near, len);
    }
