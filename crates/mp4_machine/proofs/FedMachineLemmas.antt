-- What a machine is after the bytes of a stream that it was fed, and what the next input does.
use Rattle.std.proofs.Common.{◌≡◌, ◌∙◌, ℕ, ◌+◌, ◌-◌, ◌≤◌, ◌<◌, List, [], ◌∷◌, ◌++◌, length, take, max, Option, None, Some, Result, Ok, Err, ap, sym, refl, arith, append-nil, subst}
use Rattle.mp4_box.specs.Headers.{IsBytes}
use Rattle.mp4_ledger.specs.Memory.{Account}
use Rattle.mp4_machine.specs.Blocks.{IsSent, Pending}
use Rattle.mp4_machine.specs.Ends.{Sent}
use Rattle.mp4_machine.specs.Fed.{AllWhole, Borrowed, ClaimRefusedAfter, FedUntil, Sums, borrowed, sums_in}
use Rattle.mp4_machine.specs.FedMachines.{ClaimsByRequests, Feeds, FeedsInput, IsAfter, IsOrdered, Shown, WritesBefore, sums_of}
use Rattle.mp4_machine.specs.Inputs.{Continuation, GoesOn, HasNoEffects, IsBegun, StopsAt, TakesAll, change, environment, farthest}
use Rattle.mp4_machine.specs.Inputs as inputs
use Rattle.mp4_machine.specs.Readings.{Reading, both, decided_in, greatest, most_of, no_effects, whole_in}
use Rattle.mp4_machine.specs.declared.stop.Stop.{Stop}
use Rattle.mp4_machine.specs.declared.stop.Stop.TheVariants.{Stream, Read, Write, OverLimit, Memory}
use Rattle.mp4_machine.specs.declared.tally.Tally.{Tally}
use Rattle.mp4_machine.proofs.FedLemmas.{IsAfter-begun, goes-emits, goes-is_after, goes-peak, is_after-undecided, lifted, marked, peak_after, stops-until, takes-live}
use Rattle.mp4_machine.proofs.FedRunLemmas.{whole-more}
use Rattle.mp4_machine.proofs.ReadingAskLemmas.{greatest-append}
use Rattle.mp4_machine.proofs.RunLemmas.{bytes-more}

-- ---- no byte has come

module _ (p : Continuation) (counted : Tally) (begun : IsBegun p counted) where
  abbrev start : Shown
  start = record { continuation = p; counted = counted; stop = None; peak = 0; fragments = 0 }

  none-begun : (p.reads []).effects ≡ no_effects
  none-begun = ap (λ r. r.effects) begun.none

  undecided-begun : decided_in (p.reads []).outcome ≡ None
  undecided-begun = ap (λ r. decided_in r.outcome) begun.none

  pub after-begun : IsAfter p.reads start []
  after-begun = record {
    running = refl;
    bytes = λ i. omega arith;
    undecided = undecided-begun;
    near = omega arith;
    machine = subst (inputs.IsAfter p.reads [] p) (sym begun.counted) (IsAfter-begun p (subst (IsBegun p) begun.counted begun));
    sums = ap (λ t. record { tally = t; peak = 0 }) begun.counted ∙ sym (ap sums_in none-begun);
    fragments = λ n. ap (λ t. whole_in (length t.text + n) 0 t.fragment_ends) none-begun;
  }

-- ---- what is claimed, by the requests of the stream

claims-ok : {T : Type 0} {t : T} (reads : List ℕ → Reading) (b : List ℕ) (peak others limit : ℕ) → peak ≡ most_of (reads b).effects → ClaimsByRequests {T = T} reads b peak others limit (Ok t)
claims-ok reads b peak others limit e = record { most = omega (arith, e); enough = λ room is. absurd cc }

module _ (reads : List ℕ → Reading) (b input : List ℕ) (l : Borrowed) (own : ℕ) (s : Sums) (low : own ≤ l.account.live) where
  -- before a claim that is refused, and with it
  refused-within : (r : ClaimRefusedAfter reads b (b ++ input) l own s) → (s.peak ≤ most_of (reads (b ++ input)).effects) × (r.request.sum ≤ most_of (reads (b ++ input)).effects)
  refused-within r =
      let before = (both (reads b).effects r.effects).requests in
      let whole : most_of (reads (b ++ input)).effects ≡ max (greatest before) (max r.request.sum (greatest r.requested.0)) = ap greatest r.requested.1 ∙ greatest-append before (r.request ∷ r.requested.0) in
      (omega (arith, whole, ap (λ k. k.peak) r.sums), omega (arith, whole))

  refused-over : (r : ClaimRefusedAfter reads b (b ++ input) l own s) → l.account'.limit < l.account'.live + r.request.sum → (l.account.live - own) + most_of (reads (b ++ input)).effects ≤ l.account.limit → ⊥
  refused-over r far room = omega (arith, far, (refused-within r).1, room, r.counts.live, r.counts.limit, low)

  claims-err : {T : Type 0} (e : Stop) → FedUntil reads b input l own s e → ClaimsByRequests {T = T} reads (b ++ input) s.peak (l.account.live - own) l.account.limit (Err e)
  claims-err (Stream f) until = record { most = omega (arith, ap (λ k. k.peak) until.2); enough = λ room is. absurd cc }
  claims-err (Read at) until = absurd until
  claims-err Write until = record { most = until.peak_most; enough = λ room is. absurd cc }
  claims-err OverLimit until = record { most = (refused-within until.0).0; enough = λ room is. refused-over until.0 until.1 room }
  claims-err Memory until = record { most = (refused-within until.0).0; enough = λ room is. absurd cc }

  -- the text before a claim that is refused
  module _ (ordered : IsOrdered reads) where
    before-refused : (r : ClaimRefusedAfter reads b (b ++ input) l own s) → (reads (take r.request.at (b ++ input))).effects.text ≡ (reads b).effects.text ++ r.effects.text
    before-refused r = sym (ordered.before (b ++ input) (both (reads b).effects r.effects).requests r.request r.requested.0 r.requested.1) ∙ r.front

    writes-before : (e : Stop) (until : FedUntil reads b input l own s e) → WritesBefore reads b input l own s e until
    writes-before (Stream f) until = tt
    writes-before (Read at) until = absurd until
    writes-before Write until = tt
    writes-before OverLimit until = before-refused until.0
    writes-before Memory until = before-refused until.0

-- ---- the input

-- what it is after the input, where its machine is there and has counted so much, with the account of its ledger so before
-- and after, and so many fragments
abbrev pub fed : Shown → Continuation → Tally → (a k : Account) → Option Stop → ℕ → Shown
fed p q counted a k stop n = record { continuation = q; counted = counted; stop = stop; peak = peak_after p.peak (a.live - p.continuation.claim) k.peak; fragments = n }

module _ (p : Shown) (q : Continuation) (counted : Tally) (s : Sent) (a k : Account) (running : p.stop ≡ None) (few : p.continuation.claim ≤ p.peak) (low : p.continuation.claim ≤ a.live) (high : a.live ≤ a.peak) (input : List ℕ) (fits : IsBytes input) (v v' : Pending) (clear : IsSent v) (here : v.whole ≡ p.fragments) where
  module _ (reads : List ℕ → Reading) (b : List ℕ) (ordered : IsOrdered reads) (st : IsAfter reads p b) where
    most : p.peak ≡ most_of (reads b).effects
    most = ap (λ (x : Sums). x.peak) st.sums

    feeds-ok : {T : Type 0} (t : T) → IsSent v' → GoesOn (environment s.written v (marked a) p.counted) (environment s.written' v' k counted) p.continuation input q → HasNoEffects q → q.reached ≤ farthest
        → Feeds {T = T} reads b input p (fed p q counted a k None v'.whole) (borrowed s v.whole v'.whole a (lifted k a.peak)) (Ok t)
    feeds-ok t clear' g quiet near =
        let o = environment s.written v (marked a) p.counted in
        let o' = environment s.written' v' k counted in
        let is_after = goes-is_after reads b st.machine input o o' a refl clear refl high low p.peak most few clear' g quiet in
        let peak = goes-peak reads b st.machine input o o' a refl clear refl high low p.peak most few clear' g quiet in
        let emits = goes-emits reads b st.machine input o o' a refl clear refl high low p.peak most few clear' g quiet in
        let bytes = bytes-more b input st.bytes fits in
        record {
          bytes = bytes;
          ok = (
            record {
              running = refl;
              bytes = bytes;
              undecided = is_after-undecided reads (b ++ input) is_after quiet;
              near = omega (arith, is_after.reached, near);
              machine = is_after;
              sums = ap (λ t. record { tally = t; peak = peak_after p.peak (a.live - p.continuation.claim) k.peak }) is_after.tally ∙ ap (λ n. record { tally = (reads (b ++ input)).effects.tally; peak = n }) peak;
              fragments = whole-more reads b (b ++ input) (borrowed s v.whole v'.whole a (lifted k a.peak)) p.continuation.claim _ emits (subst (AllWhole (reads b).effects) (sym here) st.fragments);
            },
            emits,
          );
          err = tt;
          claims = claims-ok reads (b ++ input) (peak_after p.peak (a.live - p.continuation.claim) k.peak) (a.live - p.continuation.claim) a.limit peak;
        }

    feeds-err : {T : Type 0} (e : Stop) → ((e ≡ Write → ⊥) → IsSent v') → ((more : List ℕ) → StopsAt (environment s.written v (marked a) p.counted) (environment s.written' v' k counted) p.continuation (input ++ more) e)
        → Feeds {T = T} reads b input p (fed p q counted a k (Some e) v'.whole) (borrowed s v.whole v'.whole a (lifted k a.peak)) (Err e)
    feeds-err e clear' g =
        let o = environment s.written v (marked a) p.counted in
        let o' = environment s.written' v' k counted in
        let until = stops-until reads b st.machine input o o' a refl clear refl high low p.peak most few e clear' (subst (λ x. StopsAt o o' p.continuation x e) (append-nil input) (g [])) in
        let l = borrowed s v.whole v'.whole a (lifted k a.peak) in
        let sums = sums_of (fed p q counted a k (Some e) v'.whole) in
        record {
          bytes = bytes-more b input st.bytes fits;
          ok = tt;
          err = (until, writes-before reads b input l p.continuation.claim sums low ordered e until);
          claims = claims-err reads b input l p.continuation.claim sums low e until;
        }

-- why it stopped, by what its machine returned
abbrev pub stop_of : Result (Unit {0}) Stop → Option Stop
stop_of (Ok t) = None
stop_of (Err e) = Some e

-- its machine takes the input, between a mark and a lift of the ledger
pub fed-by : {X : Type 0} {made made' : X} (p : Shown) (q : Continuation) (counted : Tally) (s : Sent) (a k : Account) → p.stop ≡ None → p.continuation.claim ≤ p.peak → p.continuation.claim ≤ a.live → a.live ≤ a.peak → (input : List ℕ) (v v' : Pending) → IsSent v → v.whole ≡ p.fragments
    → (r : Result (Unit {0}) Stop) → TakesAll (change s v v' (marked a) k p.counted counted) p.continuation input q made made' r → FeedsInput p (fed p q counted a k (stop_of r) v'.whole) made made' s a (lifted k a.peak) input r
fed-by p q counted s a k running few low high input v v' clear here (Ok t) g =
    let left = takes-live (Ok t) low g.takes g.spent in
    record {
      feeds = λ reads b ordered st. subst (λ n. Feeds {T = Unit {0}} reads b input p (fed p q counted a k None v'.whole) (borrowed s n v'.whole a (lifted k a.peak)) (Ok t)) here (feeds-ok p q counted s a k running few low high input g.bytes v v' clear here reads b ordered st t (g.sent (λ is. absurd cc)) g.takes.ok g.quiet g.near);
      task = g.task;
      runs = refl;
      stops = tt;
      spent = tt;
      failed = λ runs is. absurd cc;
      kept = g.takes.kept;
      live = left.0;
      limit = left.1;
      claim = g.claim;
    }
fed-by p q counted s a k running few low high input v v' clear here (Err e) g =
    let left = takes-live (Err e) low g.takes g.spent in
    record {
      feeds = λ reads b ordered st. subst (λ n. Feeds {T = Unit {0}} reads b input p (fed p q counted a k (Some e) v'.whole) (borrowed s n v'.whole a (lifted k a.peak)) (Err e)) here (feeds-err p q counted s a k running few low high input g.bytes v v' clear here reads b ordered st e (λ other. g.sent (λ is. other cc)) g.takes.err);
      task = g.task;
      runs = tt;
      stops = refl;
      spent = g.spent;
      failed = λ runs is. g.takes.failed is;
      kept = g.takes.kept;
      live = left.0;
      limit = left.1;
      claim = g.claim;
    }
