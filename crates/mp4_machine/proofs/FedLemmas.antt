-- What a machine does after some bytes of a stream when it is fed the next input.
use Rattle.std.proofs.Common.{◌≡◌, ℕ, zero, suc, ◌+◌, ◌-◌, ◌≤◌, List, [], ◌++◌, length, take, max, None, Result, Ok, Err, OnErr, ap, sym, ◌∙◌, refl, arith, append-nil, append_assoc, length-append, subst}
use Rattle.std.proofs.Math.Seq.{take-append-add}
use Rattle.mp4_box.specs.declared.rules.Fault.{Fault}
use Rattle.mp4_ledger.specs.Memory.{Account}
use Rattle.mp4_machine.specs.Accounts.{Counts, Spends}
use Rattle.mp4_machine.specs.Blocks.{IsSent}
use Rattle.mp4_machine.specs.Fed.{Borrowed, Sums, WritesRest, ClaimRefusedAfter, FedUntil}
use Rattle.mp4_machine.specs.Inputs.{Environment, Continuation, GoesOn, Refuses, ClaimRefused, WriteFailed, StopsAt, IsAfter, HasNoEffects, IsBegun, Change, Takes}
use Rattle.mp4_machine.specs.Readings.{moved, Reading, Effects, Faulty, AtMost, both, after, no_effects, requests_memory, shifted, plus, uncounted, most_of, decided_in}
use Rattle.mp4_machine.specs.declared.stop.Stop.{Stop}
use Rattle.mp4_machine.specs.declared.stop.Stop.TheVariants.{Stream, Read, Write, OverLimit, Memory}
use Rattle.mp4_machine.specs.declared.tally.Tally.{Tally}
use Rattle.mp4_machine.proofs.BlockLemmas.{Appends-passed, whole-broken, whole-passed}
use Rattle.mp4_machine.proofs.MarkLemmas.{moved-append, moved-past}
use Rattle.mp4_machine.proofs.ReadingAskLemmas.{AtMost-after, AtMost-plus, most-both, plus-none, shifted-append}
use Rattle.mp4_machine.proofs.ReadingLemmas.{after-both, both-silent, after-silent}
use Rattle.mp4_machine.proofs.RunLemmas.{takes-left}

-- ---- the account of a ledger that is marked before a call and lifted after it

-- an account whose peak counts from what is claimed
abbrev pub marked : Account → Account
marked a = record { limit = a.limit; live = a.live; peak = a.live }

-- an account whose peak is so much at least
abbrev pub lifted : Account → ℕ → Account
lifted a peak = record { limit = a.limit; live = a.live; peak = max a.peak peak }

Counts-lifted : (a b : Account) (own own' m : ℕ) → a.live ≤ a.peak → Counts (marked a) b own own' m → Counts a (lifted b a.peak) own own' m
Counts-lifted a b own own' m low c = record { limit = c.limit; live = c.live; peak = omega (arith, c.peak, low) }

Spends-lifted : (a b : Account) (own own' m : ℕ) → a.live ≤ a.peak → Spends (marked a) b own own' m → Spends a (lifted b a.peak) own own' m
Spends-lifted a b own own' m low c = record { limit = c.limit; live = c.live; at_least = omega arith; at_most = omega (arith, c.at_most, low) }

-- the most that was claimed so far, where others have `base` bytes out and the peak after the call is this
abbrev pub peak_after : (peak base most : ℕ) → ℕ
peak_after peak base most = max peak (most - base)

own-exact : (a b : Account) (own own' m peak : ℕ) → own ≤ a.live → own ≤ peak → Counts (marked a) b own own' m → peak_after peak (a.live - own) b.peak ≡ max peak m
own-exact a b own own' zero peak low few c = omega (arith, c.peak, low, few)
own-exact a b own own' (suc m) peak low few c = omega (arith, c.peak, low, few)

own-most : (a b : Account) (own own' m peak : ℕ) → own ≤ a.live → own ≤ peak → Spends (marked a) b own own' m → peak_after peak (a.live - own) b.peak ≤ max peak m
own-most a b own own' zero peak low few c = omega (arith, c.at_most, low, few)
own-most a b own own' (suc m) peak low few c = omega (arith, c.at_most, low, few)

-- a machine to which no byte has come
pub IsAfter-begun : (p : Continuation) → IsBegun p uncounted → IsAfter p.reads [] p uncounted
IsAfter-begun p begun =
    let effects : (p.reads []).effects ≡ no_effects = ap (λ r. r.effects) begun.none in
    record {
      reached = begun.reached;
      rest = λ later. sym (ap (λ t. after t (p.reads later)) effects ∙ after-silent (p.reads later));
      tally = sym (ap (λ t. t.tally) effects);
    }

-- ---- the end of the stream

module _ (reads : List ℕ → Reading) (b : List ℕ) {p : Continuation} {counted : Tally} (s : IsAfter reads b p counted) where
  pub is_after-undecided : HasNoEffects p → decided_in (reads b).outcome ≡ None
  is_after-undecided quiet = ap (λ l. decided_in (reads l).outcome) (sym (append-nil b)) ∙ ap (λ r. decided_in r.outcome) (s.rest []) ∙ quiet.early

  -- ---- the next input

  module _ (input : List ℕ) where
    reads-after : (later : List ℕ) → reads ((b ++ input) ++ later) ≡ after (reads b).effects (p.reads (input ++ later))
    reads-after later = ap reads (append_assoc b input later) ∙ s.rest (input ++ later)

    reads-input : reads (b ++ input) ≡ after (reads b).effects (p.reads (input ++ []))
    reads-input = ap reads (sym (append-nil (b ++ input))) ∙ reads-after []

    -- between a mark and a lift of the ledger
    module _ (o o' : Environment) (a : Account) (same : o.tally ≡ counted) (none : IsSent o.waiting) (from : o.account ≡ marked a) (high : a.live ≤ a.peak) (low : p.claim ≤ a.live) where
      abbrev borrowed_by : Borrowed
      borrowed_by = record { written = o.written; written' = o'.written; whole = o.waiting.whole; whole' = o'.waiting.whole; account = a; account' = lifted o'.account a.peak }

      counts-lifted : (own' m : ℕ) → Counts o.account o'.account p.claim own' m → Counts a (lifted o'.account a.peak) p.claim own' m
      counts-lifted own' m c = Counts-lifted a o'.account p.claim own' m high (subst (λ k. Counts k o'.account p.claim own' m) from c)

      -- what was claimed at once, by what was so far
      module _ (peak : ℕ) (most : peak ≡ most_of (reads b).effects) (few : p.claim ≤ peak) where
        abbrev peak' : ℕ
        peak' = peak_after peak (a.live - p.claim) o'.account.peak

        peak-exact : (own' : ℕ) (effects : Effects) → Counts o.account o'.account p.claim own' (most_of effects) → peak' ≡ most_of (both (reads b).effects effects)
        peak-exact own' effects c =
            own-exact a o'.account p.claim own' (most_of effects) peak low few (subst (λ k. Counts k o'.account p.claim own' (most_of effects)) from c)
            ∙ ap (λ k. max k (most_of effects)) most ∙ sym (most-both (reads b).effects effects)

        -- it goes on
        module _ {q : Continuation} (none' : IsSent o'.waiting) (g : GoesOn o o' p input q) (quiet : HasNoEffects q) where
          goes-reads : (later : List ℕ) → reads ((b ++ input) ++ later) ≡ after (both (reads b).effects g.produced) (q.reads later)
          goes-reads later = reads-after later ∙ ap (after (reads b).effects) (g.rest later) ∙ after-both (reads b).effects g.produced (q.reads later)

          goes-emitted : (reads (b ++ input)).effects ≡ both (reads b).effects g.produced
          goes-emitted =
              ap (λ l. (reads l).effects) (sym (append-nil (b ++ input))) ∙ ap (λ r. r.effects) (goes-reads []) ∙ ap (both (both (reads b).effects g.produced)) quiet.effects
              ∙ both-silent (both (reads b).effects g.produced)

          pub goes-is_after : IsAfter reads (b ++ input) q o'.tally
          goes-is_after = record {
            reached = omega (arith, g.reached, s.reached, length-append b input);
            rest = λ later. goes-reads later ∙ ap (λ t. after t (q.reads later)) (sym goes-emitted);
            tally = g.moves.tallied ∙ ap (λ t. plus t g.produced.tally) (same ∙ s.tally) ∙ ap (λ t. t.tally) (sym goes-emitted);
          }

          pub goes-emits : WritesRest reads b (b ++ input) borrowed_by p.claim q.claim
          goes-emits = record { effects = g.produced; all = goes-emitted; text = Appends-passed g.moves.passes none.bytes none'.bytes; fragments = whole-passed g.moves.passes none none'; counts = counts-lifted q.claim (most_of g.produced) g.moves.counts }

          pub goes-peak : peak' ≡ most_of (reads (b ++ input)).effects
          goes-peak = peak-exact q.claim g.produced g.moves.counts ∙ ap most_of (sym goes-emitted)

        -- what is counted after a stop
        abbrev sums' : Sums
        sums' = record { tally = o'.tally; peak = peak' }

        -- it meets a fault
        refuses : (f : Fault) → IsSent o'.waiting → Refuses o o' p input f → FedUntil reads b input borrowed_by p.claim sums' (Stream f)
        refuses f none' g =
            let is : reads (b ++ input) ≡ after (reads b).effects (record { effects = g.produced; outcome = Faulty f }) = reads-input ∙ ap (after (reads b).effects) (g.rest []) in
            let effects : (reads (b ++ input)).effects ≡ both (reads b).effects g.produced = ap (λ r. r.effects) is in
            let tally : o'.tally ≡ (reads (b ++ input)).effects.tally = g.moves.tallied ∙ ap (λ t. plus t g.produced.tally) (same ∙ s.tally) ∙ ap (λ t. t.tally) (sym effects) in
            let most : peak' ≡ most_of (reads (b ++ input)).effects = peak-exact 0 g.produced g.moves.counts ∙ ap most_of (sym effects) in (
              record { effects = g.produced; all = effects; text = Appends-passed g.moves.passes none.bytes none'.bytes; fragments = whole-passed g.moves.passes none none'; counts = counts-lifted 0 (most_of g.produced) g.moves.counts },
              ap (λ r. decided_in r.outcome) is,
              ap (λ t. record { tally = t; peak = peak' }) tally ∙ ap (λ n. record { tally = (reads (b ++ input)).effects.tally; peak = n }) most,
            )

        -- a claim is refused
        claim_refused : IsSent o'.waiting → (g : ClaimRefused o o' p input) → (r : ClaimRefusedAfter reads b (b ++ input) borrowed_by p.claim sums') × (r.request.sum ≡ g.sum)
        claim_refused none' g =
            let more = (g.continues []).effects in
            let n = length (reads b).effects.text in
            let k = length g.produced.text in
            let all = plus (reads b).effects.tally (plus g.produced.tally uncounted) in
            let effects : (reads (b ++ input)).effects ≡ both (reads b).effects (both g.produced (both (requests_memory g.at g.sum) more)) = ap (λ r. r.effects) (reads-input ∙ ap (after (reads b).effects) (g.rest [])) in
            let tally : o'.tally ≡ all = g.moves.tallied ∙ ap (λ t. plus t g.produced.tally) (same ∙ s.tally) ∙ ap (plus (reads b).effects.tally) (sym (plus-none g.produced.tally)) in (
              record {
                request = record { at = g.at; sum = g.sum; text_before = n + (k + 0); counted = all };
                effects = g.produced;
                requested = (
                  shifted (reads b).effects (shifted g.produced (shifted (requests_memory g.at g.sum) more.requests)),
                  ap (λ t. t.requests) effects
                      ∙ ap (λ l. (reads b).effects.requests ++ l) (shifted-append (reads b).effects g.produced.requests (shifted g.produced (both (requests_memory g.at g.sum) more).requests))
                      ∙ sym (append_assoc (reads b).effects.requests (shifted (reads b).effects g.produced.requests) _),
                );
                front =
                    ap (λ t. take (n + (k + 0)) t.text) effects ∙ take-append-add (reads b).effects.text (g.produced.text ++ more.text) (k + 0)
                    ∙ ap (λ l. (reads b).effects.text ++ l) (take-append-add g.produced.text more.text 0 ∙ append-nil g.produced.text);
                placed = omega arith;
                marked = (
                  moved n (moved k (both (requests_memory g.at g.sum) more).fragment_ends),
                  ap (λ t. t.fragment_ends) effects
                      ∙ ap (λ l. (reads b).effects.fragment_ends ++ l) (moved-append n g.produced.fragment_ends (moved k (both (requests_memory g.at g.sum) more).fragment_ends))
                      ∙ sym (append_assoc (reads b).effects.fragment_ends (moved n g.produced.fragment_ends) _),
                  moved-past n k more.fragment_ends (g.past []),
                );
                text = Appends-passed g.moves.passes none.bytes none'.bytes;
                fragments = whole-passed g.moves.passes none none';
                counts = counts-lifted 0 (most_of g.produced) g.moves.counts;
                sums = ap (λ t. record { tally = t; peak = peak' }) tally ∙ ap (λ m. record { tally = all; peak = m }) (peak-exact 0 g.produced g.moves.counts);
                most = subst (λ t. AtMost t (reads (b ++ input)).effects.tally) (sym tally) (subst (λ t. AtMost all t.tally) (sym effects) (AtMost-after (reads b).effects.tally (plus g.produced.tally uncounted) (plus g.produced.tally (plus uncounted more.tally)) (AtMost-after g.produced.tally uncounted (plus uncounted more.tally) (AtMost-plus uncounted more.tally))));
              },
              refl,
            )

        -- a write fails
        write_fails : WriteFailed o o' p.claim (p.reads (input ++ [])) → FedUntil reads b input borrowed_by p.claim sums' Write
        write_fails g =
            let own = (p.reads (input ++ [])).effects in
            let effects : (reads (b ++ input)).effects ≡ both (reads b).effects own = ap (λ r. r.effects) reads-input in
            let spends = subst (λ k. Spends k o'.account p.claim 0 (most_of own)) from g.spends in
            let all = most-both (reads b).effects own in
            record {
              effects = own;
              all = effects;
              text = (g.text.front, g.text.rest, g.text.written, ap (λ l. l ++ own.text) (sym none.bytes) ∙ g.text.all);
              fragments = whole-broken g.text none;
              spends = Spends-lifted a o'.account p.claim 0 (most_of own) high spends;
              least = subst (λ t. AtMost t o'.tally) (same ∙ s.tally) g.least;
              most = subst (AtMost o'.tally) (ap (λ t. plus t own.tally) (same ∙ s.tally) ∙ ap (λ t. t.tally) (sym effects)) g.most;
              peak_least = omega (arith, most);
              peak_most = omega (arith, own-most a o'.account p.claim 0 (most_of own) peak low few spends, most, all, ap most_of effects);
            }

        pub stops-until : (e : Stop) → ((e ≡ Write → ⊥) → IsSent o'.waiting) → StopsAt o o' p input e → FedUntil reads b input borrowed_by p.claim sums' e
        unfolding claim_refused
        stops-until (Stream f) none' g = refuses f (none' (λ is. absurd cc)) g
        stops-until (Read at) none' g = absurd g
        stops-until Write none' g = write_fails (g [])
        stops-until OverLimit none' (g, far) = let r = claim_refused (none' (λ is. absurd cc)) g in (r.0, omega (arith, far, r.1))
        stops-until Memory none' (g, near) = let r = claim_refused (none' (λ is. absurd cc)) g in (r.0, omega (arith, near, r.1))

-- ---- what is claimed after a call

pub takes-live : {T : Type 0} {change : Change} {p q : Continuation} {input : List ℕ} {taken : T → List ℕ} (r : Result T Stop) → p.claim ≤ change.before.account.live → Takes change p input taken (λ _. q) r → OnErr r (q.claim ≡ 0)
    → (change.after.account.live + p.claim ≡ change.before.account.live + q.claim) × (change.after.account.limit ≡ change.before.account.limit)
takes-live (Ok t) low g spent = (g.ok.moves.counts.live, g.ok.moves.counts.limit)
takes-live (Err e) low g spent = let left = takes-left low g in (omega (arith, left.0, spent), left.1)
