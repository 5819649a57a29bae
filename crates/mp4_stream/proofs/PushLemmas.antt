-- Pieces that are pushed into a Feeder, one after the other.
use Rattle.std.proofs.Common.{suc, [], ◌∷◌, length, take, append-nil, ◌≡◌, ◌∙◌, ℕ, ◌+◌, ◌-◌, ◌*◌, ◌≤◌, ◌<◌, List, ◌++◌, drop, append_assoc, true, Option, None, Some, Result, Ok, Err, IfErr, IfOk, OnOk, IsErrOf, ap, sym, refl, arith, subst, ⊎_elim}
use Rattle.std.specs.Io.KnownBytes.{Appends}
use Rattle.std.proofs.KnownBytes.{Appends-trans}
use Rattle.std.specs.List.{flat_map}
use Rattle.std.proofs.Math.ListN.{get_or}
use Rattle.std.proofs.Math.Seq.{take-suc}
use Rattle.std.proofs.lemmas.Grind.{flat_map-append}
use Rattle.std.proofs.lemmas.Bool.{cases_lt}
use Rattle.std.proofs.lemmas.List.{take-append-drop}
use Rattle.mp4_box.specs.declared.rules.Fault.{Fault}
use Rattle.mp4_ends.specs.Streams.{AppendsPrefix}
use Rattle.mp4_ends.proofs.StreamLemmas.{AppendsPrefix-longer, AppendsPrefix-more}
use Rattle.mp4_fragment_machine.specs.States.{listed_by, reads_of}
use Rattle.mp4_grammar.specs.Contexts.{Context, first_context}
use Rattle.mp4_grammar.specs.HeldSizes.{Holds, HoldsWithin}
use Rattle.mp4_grammar.specs.Joined.{joined}
use Rattle.mp4_grammar.specs.Meanings.{IsGrowing, Meaning}
use Rattle.mp4_grammar.specs.declared.kinds.Kind.{Kind}
use Rattle.mp4_grammar.proofs.CommandLemmas.{command_meaning-growing}
use Rattle.mp4_grammar.proofs.ItemLemmas.{reads-grow}
use Rattle.mp4_machine.specs.Ends.{Sent}
use Rattle.mp4_machine.specs.Fed.{AllWhole, Borrowed, ClaimRefusedAfter, FedUntil, Sums, WritesRest, sums_in}
use Rattle.mp4_machine.specs.Readings.{GrowsTo, Outcome, Sound, Faulty, CutOff, Reading, Effects, decided_in, fault_in}
use Rattle.mp4_machine.specs.declared.stop.Stop.{Stop}
use Rattle.mp4_machine.specs.declared.stop.Stop.TheVariants.{Stream, Read, Write, OverLimit, Memory}
use Rattle.mp4_machine.proofs.FedRunLemmas.{text-more}
use Rattle.mp4_recut.specs.Operations as readings
use Rattle.mp4_recut.specs.declared.operation.Operation.{Operation}
use Rattle.mp4_recut.specs.declared.operation.Operation.TheVariants as operations
use Rattle.mp4_recut.proofs.SplitLemmas.{splitting-growing}
use Rattle.mp4_stream.specs.Feeders.{ClaimsWithin, Feeding, Feeds, Finishes, IsAfter, fragments_of, held_by, live, sums_of, totals_of}
use Rattle.mp4_stream.specs.Pushes.{HasNoRoom, Pushes, StopsIn}
use Rattle.mp4_stream.specs.declared.totals.Totals.{Totals}

-- ---- more bytes

operation-growing : (operation : Operation) → IsGrowing (readings.operation_meaning operation)
operation-growing (operations.List command) = command_meaning-growing command
operation-growing (operations.Split cut) = splitting-growing cut

holds-more : (meaning : Meaning) (c : Context) (b x : List ℕ) (kind : Kind) (size : ℕ) → Holds meaning c b kind size → Holds meaning c (b ++ x) kind size
holds-more meaning c b x kind size h = record {
  items = h.items;
  rest = h.rest ++ x;
  cut = ap (λ (y : List ℕ). y ++ x) h.cut ∙ append_assoc (joined h.items) h.rest x;
  sound = h.sound;
  box = record { header = h.box.header; header_bytes = h.box.header_bytes; more = h.box.more ++ x; spelled = h.box.spelled; cut = ap (λ (y : List ℕ). y ++ x) h.box.cut ∙ append_assoc h.box.header_bytes h.box.more x };
  type = h.type;
  limit = h.limit;
  here = h.here;
  small = h.small;
}

within-front : (meaning : Meaning) (c : Context) (b x : List ℕ) (moov moof : ℕ) → HoldsWithin meaning c (b ++ x) moov moof → HoldsWithin meaning c b moov moof
within-front meaning c b x moov moof w = record {
  moovs = λ size h. w.moovs size (holds-more meaning c b x _ size h);
  moofs = λ size h. w.moofs size (holds-more meaning c b x _ size h);
}

module _ (operation : Operation) (b x : List ℕ) where
  grows : GrowsTo (readings.reads_of operation b) (readings.reads_of operation (b ++ x))
  grows = reads-grow (readings.operation_meaning operation) (operation-growing operation) first_context b x

  prefix-more : (o n : Option (List ℕ)) → AppendsPrefix o n (live operation b) → AppendsPrefix o n (live operation (b ++ x))
  prefix-more o n h = AppendsPrefix-longer o n (live operation b) grows.effects.text.0 (live operation (b ++ x)) h (sym grows.effects.text.1)

  no-room-more : (others limit : ℕ) → HasNoRoom operation b others limit → HasNoRoom operation (b ++ x) others limit
  no-room-more others limit h moov moof w = h moov moof (within-front (readings.operation_meaning operation) first_context b x moov moof w)

  stops-more : (s : Sent) (others limit : ℕ) (e : Stop) → StopsIn operation b s others limit (decided_in (readings.reads_of operation b).outcome) e → StopsIn operation (b ++ x) s others limit (decided_in (readings.reads_of operation (b ++ x)).outcome) e
  stops-more s others limit (Stream f) h =
      let same : readings.reads_of operation (b ++ x) ≡ readings.reads_of operation b = grows.early f h.0 in
      (ap (λ (r : Reading). decided_in r.outcome) same ∙ h.0, subst (λ (r : Reading). Appends s.written s.written' r.effects.text) (sym same) h.1)
  stops-more s others limit (Read at) h = h
  stops-more s others limit Write h = (h.0, prefix-more s.written s.written' h.1)
  stops-more s others limit OverLimit h = (no-room-more others limit h.0, prefix-more s.written s.written' h.1)
  stops-more s others limit Memory h = prefix-more s.written s.written' h

-- ---- inputs, one after the other

pub joined-more : {X : Type 0} (bytes : X → List ℕ) (pieces : List X) (i : ℕ) (d : X) → i < length pieces → flat_map bytes (take (i + 1) pieces) ≡ flat_map bytes (take i pieces) ++ bytes (get_or pieces i d)
joined-more bytes pieces i d h =
    let next : i + 1 ≡ suc i = omega arith in
    ap (λ n. flat_map bytes (take n pieces)) next ∙ ap (flat_map bytes) (take-suc pieces i d h) ∙ flat_map-append bytes (take i pieces) (get_or pieces i d ∷ [])
    ∙ ap (λ x. flat_map bytes (take i pieces) ++ x) (append-nil (bytes (get_or pieces i d)))

-- ---- the input at which it stops

module _ (operation : Operation) (b input : List ℕ) (l : Borrowed) (own : ℕ) (sums : Sums) (first : Option (List ℕ)) (before : Appends first l.written (live operation b)) where
  refused_claim : ClaimRefusedAfter (readings.reads_of operation) b (b ++ input) l own sums → AppendsPrefix first l.written' (live operation (b ++ input))
  refused_claim r =
      let n = r.request.text_before in
      let all = live operation (b ++ input) in
      (live operation b ++ r.effects.text, drop n all, Appends-trans first l.written l.written' (live operation b) r.effects.text before r.text, sym (take-append-drop n all) ∙ ap (λ (y : List ℕ). y ++ drop n all) r.front)

  stops-now : (s : Sent) (others limit : ℕ) (e : Stop) → s.written ≡ first → s.written' ≡ l.written' → (e ≡ Write → s.failed' ≡ true) → (e ≡ OverLimit → HasNoRoom operation (b ++ input) others limit) → FedUntil (readings.reads_of operation) b input l own sums e
      → StopsIn operation (b ++ input) s others limit (decided_in (readings.reads_of operation (b ++ input)).outcome) e
  stops-now s others limit (Stream f) p q failed over until = (until.1, rw (p, q) (text-more (readings.reads_of operation) b (b ++ input) l own 0 until.0 first before))
  stops-now s others limit (Read at) p q failed over until = absurd until
  stops-now s others limit Write p q failed over until =
      (failed refl, rw (p, q, ap (λ (t : Effects). t.text) until.all) (AppendsPrefix-more first l.written l.written' (live operation b) until.effects.text before until.text))
  stops-now s others limit OverLimit p q failed over until = (over refl, rw (p, q) (refused_claim until.0))
  stops-now s others limit Memory p q failed over until = rw (p, q) (refused_claim until.0)

abbrev as-err : {T : Type 0} → Stop → Result T Stop
as-err x = Err x

over-means : {T : Type 0} (operation : Operation) (b : List ℕ) (peak others limit : ℕ) (e : Stop) → ClaimsWithin {T = T} operation b peak others limit (Err e) → e ≡ OverLimit → HasNoRoom operation b others limit
over-means {T = T} operation b peak others limit e claims is moov moof w = ⊎_elim
    (λ (short : limit < others + (2 * moov + 5 * moof)). short)
    (λ (room : others + (2 * moov + 5 * moof) ≤ limit). absurd (claims.enough moov moof w room (ap (as-err {T = T}) is)))
    (cases_lt limit (others + (2 * moov + 5 * moof)))

-- ---- after inputs whose join is b

-- a Feeder that runs is after them with their text written; one that has stopped has stopped within them
pub record SoFar (operation : Operation) (b : List ℕ) (s : Sent) (others limit : ℕ) (f : Feeding) : Type 0 where
  pub running : f.stop ≡ None → IsAfter f b × Appends s.written s.written' (live operation b)
  pub stopped : (e : Stop) → f.stop ≡ Some e → StopsIn operation b s others limit (decided_in (readings.reads_of operation b).outcome) e

-- what a call to a Feeder that has stopped leaves
pub record StaysSo {T : Type 0} (f f' : Feeding) (s s' : Sent) (r : Result T Stop) (e : Stop) : Type 0 where
  pub answer : r ≡ Err e
  pub same : f' ≡ f
  pub ends : s' ≡ s

some-is : (e k : Stop) → ◌≡◌ {A = Option Stop} (Some e) (Some k) → e ≡ k
some-is e k h = cc

module _ {T : Type 0} (operation : Operation) (b input : List ℕ) (s s' : Sent) (others limit : ℕ) (f f' : Feeding) (l : Borrowed) (same : f.operation ≡ operation) (low : l.account.live ≡ others + held_by f) (of : l.account.limit ≡ limit)
    (from : s'.written ≡ s.written) (here : l.written ≡ s.written') (there : s'.written' ≡ l.written') (so_far : SoFar operation b s others limit f) where
  pushed-ok : (t : T) → f.stop ≡ None → Feeds {T = T} b input f f' l (Ok t) → f'.stop ≡ None → SoFar operation (b ++ input) s' others limit f'
  pushed-ok t runs fed on = record {
    running = λ _.
        let before : Appends s.written l.written (live operation b) = rw here (so_far.running runs).1 in
        (fed.ok.0, rw (from, there) (text-more (readings.reads_of operation) b (b ++ input) l (held_by f) (held_by f') (subst (λ (x : Operation). WritesRest (readings.reads_of x) b (b ++ input) l (held_by f) (held_by f')) same fed.ok.1) s.written before));
    stopped = λ e is. let no : ◌≡◌ {A = Option Stop} None (Some e) = sym on ∙ is in absurd cc;
  }

  pushed-err : (e : Stop) → f.stop ≡ None → Feeds {T = T} b input f f' l (Err e) → f'.stop ≡ Some e → (e ≡ Write → s'.failed' ≡ true) → SoFar operation (b ++ input) s' others limit f'
  pushed-err e runs fed off failed = record {
    running = λ is. let no : ◌≡◌ {A = Option Stop} None (Some e) = sym is ∙ off in absurd cc;
    stopped = λ k is.
        let before : Appends s.written l.written (live operation b) = rw here (so_far.running runs).1 in
        let until = subst (λ (x : Operation). FedUntil (readings.reads_of x) b input l (held_by f) (sums_of f') e) same fed.err.0 in
        let claims = subst (λ (x : Operation). ClaimsWithin {T = T} x (b ++ input) f'.peak (l.account.live - held_by f) l.account.limit (Err e)) same fed.claims in
        let rest : l.account.live - held_by f ≡ others = omega (arith, low) in
        let claimed = subst (λ (n : ℕ). ClaimsWithin {T = T} operation (b ++ input) f'.peak n l.account.limit (Err e)) rest claims in
        let known = subst (λ (n : ℕ). ClaimsWithin {T = T} operation (b ++ input) f'.peak others n (Err e)) of claimed in
        subst (StopsIn operation (b ++ input) s' others limit (decided_in (readings.reads_of operation (b ++ input)).outcome)) (some-is e k (sym off ∙ is))
        (stops-now operation b input l (held_by f) (sums_of f') s.written before s' others limit e from there failed (over-means operation (b ++ input) f'.peak others limit e known) until);
  }

  pushed-on : (r : Result T Stop) → f.stop ≡ None → Feeds b input f f' l r → OnOk r (f'.stop ≡ None) → IfErr r (λ e. f'.stop ≡ Some e) → (IsErrOf r Write → s'.failed' ≡ true) → SoFar operation (b ++ input) s' others limit f'
  pushed-on (Ok t) runs fed on off failed = pushed-ok t runs fed on
  pushed-on (Err e) runs fed on off failed = pushed-err e runs fed off (λ is. failed (ap (as-err {T = T}) is))

  -- the input that is pushed in, whatever came before
  pub pushed : (r : Result T Stop) → (IsAfter f b → Feeds b input f f' l r) → OnOk r (f'.stop ≡ None) → IfErr r (λ e. f'.stop ≡ Some e) → (f.stop ≡ None → IsErrOf r Write → s'.failed' ≡ true) → ((e : Stop) → f.stop ≡ Some e → StaysSo f f' s s' r e) → SoFar operation (b ++ input) s' others limit f'
  pushed r feeds on off failed stays = by f.stop refl
    where
      by : (o : Option Stop) → f.stop ≡ o → SoFar operation (b ++ input) s' others limit f'
      by None is = pushed-on r is (feeds (so_far.running is).0) on off (failed is)
      by (Some e) is =
          let stay = stays e is in
          record {
            running = λ none. let no : ◌≡◌ {A = Option Stop} (Some e) None = sym is ∙ (sym (ap (λ (x : Feeding). x.stop) stay.same) ∙ none) in absurd cc;
            stopped = λ k at.
                let known : f.stop ≡ Some k = sym (ap (λ (x : Feeding). x.stop) stay.same) ∙ at in
                stops-more operation b input s' others limit k (subst (λ (x : Sent). StopsIn operation b x others limit (decided_in (readings.reads_of operation b).outcome) k) (sym stay.ends) (so_far.stopped k known));
          }

-- ---- the end of the stream

early-fault : (o : Outcome) (f : Fault) → decided_in o ≡ Some f → fault_in o ≡ Some f
early-fault Sound f h = absurd cc
early-fault (Faulty g) f h = h
early-fault (CutOff g) f h = absurd cc

module _ (operation : Operation) (b : List ℕ) (s : Sent) (others limit : ℕ) where
  stops-ended : (e : Stop) → StopsIn operation b s others limit (decided_in (readings.reads_of operation b).outcome) e → StopsIn operation b s others limit (fault_in (readings.reads_of operation b).outcome) e
  stops-ended (Stream f) h = (early-fault (readings.reads_of operation b).outcome f h.0, h.1)
  stops-ended (Read at) h = h
  stops-ended Write h = h
  stops-ended OverLimit h = h
  stops-ended Memory h = h

  module _ (f : Feeding) (same : f.operation ≡ operation) (so_far : SoFar operation b s others limit f) where
    ended-ok : (t : Totals) → f.stop ≡ None → Finishes f b (Ok t) → t ≡ totals_of f → f.machine.counter.tally.inspected + t.samples + listed_by f.operation t.samples ≤ t.rows_read → t.rows_read ≤ reads_of f.operation * f.machine.counter.tally.inspected → Pushes operation b s others limit (Ok t)
    ended-ok t runs fin is some few =
        let now = so_far.running runs in
        let sums = subst (λ (x : Operation). sums_of f ≡ sums_in (readings.reads_of x b).effects) same now.0.sums in
        let tally : f.machine.counter.tally ≡ (readings.reads_of operation b).effects.tally = ap (λ (k : Sums). k.tally) sums in (
          subst (λ (x : Operation). fault_in (readings.reads_of x b).outcome ≡ None) same fin,
          now.1,
          record {
            whole = f.fragments;
            all = subst (λ (x : Operation). AllWhole (readings.reads_of x b).effects f.fragments) same now.0.fragments;
            fragments = ap (λ (x : Totals). x.fragments) is ∙ ap (λ (x : Operation). fragments_of x f.machine.counter.tally.fragments f.fragments) same ∙ ap (λ (n : ℕ). fragments_of operation n f.fragments) (ap (λ x. x.fragments) tally);
            samples = ap (λ (x : Totals). x.samples) is ∙ ap (λ x. x.samples) tally;
            media_bytes = ap (λ (x : Totals). x.media_bytes) is ∙ ap (λ x. x.media_bytes) tally;
            peak = ap (λ (x : Totals). x.peak) is ∙ ap (λ (k : Sums). k.peak) sums;
            some = subst (λ (x : Operation). (readings.reads_of operation b).effects.tally.inspected + t.samples + listed_by x t.samples ≤ t.rows_read) same (subst (λ n. n + t.samples + listed_by f.operation t.samples ≤ t.rows_read) (ap (λ x. x.inspected) tally) some);
            few = subst (λ (x : Operation). t.rows_read ≤ reads_of x * (readings.reads_of operation b).effects.tally.inspected) same (subst (λ n. t.rows_read ≤ reads_of f.operation * n) (ap (λ x. x.inspected) tally) few);
          },
        )

    ended-err : (e : Stop) → f.stop ≡ None → Finishes f b (Err e) → Pushes operation b s others limit (Err e)
    ended-err (Stream fault) runs fin = (subst (λ (x : Operation). fault_in (readings.reads_of x b).outcome ≡ Some fault) same fin, (so_far.running runs).1)
    ended-err (Read at) runs fin = absurd fin
    ended-err Write runs fin = absurd fin
    ended-err OverLimit runs fin = absurd fin
    ended-err Memory runs fin = absurd fin

    ended-runs : (r : Result Totals Stop) → f.stop ≡ None → Finishes f b r → IfOk r (λ t. t ≡ totals_of f) → IfOk r (λ t. f.machine.counter.tally.inspected + t.samples + listed_by f.operation t.samples ≤ t.rows_read) → IfOk r (λ t. t.rows_read ≤ reads_of f.operation * f.machine.counter.tally.inspected) → Pushes operation b s others limit r
    ended-runs (Ok t) runs fin totals some few = ended-ok t runs fin totals some few
    ended-runs (Err e) runs fin totals some few = ended-err e runs fin

    pub ended : (r : Result Totals Stop) → (IsAfter f b → Finishes f b r) → ((e : Stop) → f.stop ≡ Some e → r ≡ Err e) → IfOk r (λ t. t ≡ totals_of f) → IfOk r (λ t. f.machine.counter.tally.inspected + t.samples + listed_by f.operation t.samples ≤ t.rows_read) → IfOk r (λ t. t.rows_read ≤ reads_of f.operation * f.machine.counter.tally.inspected) → Pushes operation b s others limit r
    ended r finishes stopped totals some few = by f.stop refl
      where
        by : (o : Option Stop) → f.stop ≡ o → Pushes operation b s others limit r
        by None is = ended-runs r is (finishes (so_far.running is).0) totals some few
        by (Some e) is = subst (Pushes operation b s others limit) (sym (stopped e is)) (stops-ended e (so_far.stopped e is))
