-- A run that stops after some bytes, or at the next input.
use Rattle.std.proofs.Common.{◌≡◌, ℕ, zero, suc, ◌+◌, ◌≤◌, ◌<◌, List, [], ◌∷◌, ◌++◌, length, take, true, Some, None, Result, Err, inl, inr, ap, sym, ◌∙◌, refl, arith, append-nil, append_assoc, length-append, length-take, subst, ◌==◌}
use Rattle.std.proofs.Math.Seq.{take-append-add}
use Rattle.std.proofs.lemmas.Bool.Decides.{nat_tests}
use Rattle.std.specs.Io.KnownBytes.{Appends, Consumes}
use Rattle.mp4_ledger.specs.Memory.{Account}
use Rattle.mp4_ledger.specs.declared.ledger.Refused.{Refused}
use Rattle.mp4_ledger.specs.declared.ledger.Refused.TheVariants as refusals
use Rattle.mp4_box.specs.Headers.{IsBytes}
use Rattle.mp4_box.specs.declared.rules.Fault.{Fault}
use Rattle.mp4_machine.specs.Accounts.{Counts, Spends}
use Rattle.mp4_machine.specs.Blocks.{BreaksMarked, IsSent, PassesMarked, unused}
use Rattle.mp4_machine.specs.Readings.{moved, whole_in, AtMost, greatest, Effects, Reading, empty_reading, uncounted, plus, fault_in, decided_in, after, both, requests_memory, shifted, most_of}
use Rattle.mp4_machine.specs.Inputs.{Environment, Continuation, Refuses, ClaimRefused, StopsAt, Change, Takes, IsFed, refusal_of}
use Rattle.mp4_machine.specs.Ends.{Ends}
use Rattle.mp4_machine.specs.StreamRuns.{Claims, StreamRun, IsOneRead, WritesAll, WritesPrefix, IsPrompt, ClaimRefusedAt, StopsWith, ReadsStream}
use Rattle.mp4_machine.specs.declared.stop.Stop.{Stop}
use Rattle.mp4_machine.specs.declared.tally.Tally.{Tally}
use Rattle.mp4_machine.specs.declared.stop.Stop.TheVariants.{Stream, Read, Write, OverLimit, Memory}
use Rattle.mp4_machine.proofs.ReadingAskLemmas.{AtMost-after, AtMost-plus, most-both, plus-none, shifted-append}
use Rattle.mp4_machine.proofs.AccountLemmas.{Counts-more, Spends-after}
use Rattle.mp4_machine.proofs.BlockLemmas.{Appends-passed, BreaksMarked-passed, PassesMarked-more, whole-sent}
use Rattle.mp4_machine.proofs.MarkLemmas.{moved-append, moved-none, moved-past, whole_in-before}

-- ---- how much was claimed

peak-exact : (k l : Account) (claim m : ℕ) → k.peak ≡ k.live → Counts k l 0 claim m → l.peak ≡ k.live + m
peak-exact k l claim zero z c = omega (arith, c.peak, z)
peak-exact k l claim (suc m) z c = omega (arith, c.peak, z)

peak-most : (k l : Account) (claim m : ℕ) → k.peak ≡ k.live → Spends k l 0 claim m → l.peak ≤ k.live + m
peak-most k l claim zero z c = omega (arith, c.at_most, z)
peak-most k l claim (suc m) z c = omega (arith, c.at_most, z)

-- ---- a run over a machine that was fed all of the bytes b

-- the run that is seen where it began and ended so
abbrev pub run_of : (List ℕ → Reading) → List ℕ → Environment → Environment → Ends → StreamRun
run_of reads b start now ends = record {
  reads = reads;
  bytes = b;
  ends = ends;
  claims = record { copy = start.account.live; limit = start.account.limit; peak = now.account.peak };
  fragments = now.waiting.whole;
  tally = now.tally;
}

module _ (reads : List ℕ → Reading) (b : List ℕ) (start : Environment) (fresh : start.waiting ≡ unused) (marked : start.account.peak ≡ start.account.live) where
  -- at first nothing waited
  clear : start.waiting.bytes ≡ []
  clear = ap (λ v. v.bytes) fresh

  module _ {now : Environment} {p : Continuation} (s : IsFed reads b start now p) where
    -- what all of the bytes are read as
    reads-all : reads b ≡ after (reads b).effects (p.reads [])
    reads-all = ap reads (sym (append-nil b)) ∙ s.is_after.rest []

    pub fed-fault : fault_in (reads b).outcome ≡ fault_in (p.reads []).outcome
    fed-fault = ap (λ r. fault_in r.outcome) reads-all

    pub fed-undecided : decided_in (reads b).outcome ≡ None
    fed-undecided = ap (λ r. decided_in r.outcome) reads-all ∙ s.quiet.early

    pub fed-emits : (ends : Ends) → ends.written ≡ start.written → ends.written' ≡ now.written → WritesAll (run_of reads b start now ends)
    fed-emits ends from to = record {
      text = subst (λ w. Appends ends.written w (reads b).effects.text) (sym to) (subst (λ w. Appends w now.written (reads b).effects.text) (sym from) (Appends-passed s.text clear s.sent.bytes));
      fragments = whole-sent (subst (λ v. PassesMarked start.written now.written v now.waiting (reads b).effects.text (reads b).effects.fragment_ends) fresh s.text) s.sent;
      peak = peak-exact start.account now.account p.claim (most_of (reads b).effects) marked s.counts;
      tally = s.is_after.tally;
    }

    -- no byte came since, or the bytes of one read
    abbrev pub prompt-now : (ends : Ends) → ends.last_read ≡ 0 → IsPrompt (run_of reads b start now ends)
    prompt-now ends none = record { early = b; last = []; cut = sym (append-nil b); read = λ some. record { few = omega arith; gave = sym none }; undecided = fed-undecided }

    abbrev pub prompt-read : (got : List ℕ) (later : Environment) (ends : Ends) → IsOneRead ends start.account.live got → IsPrompt (run_of reads (b ++ got) start later ends)
    prompt-read got later ends one = record { early = b; last = got; cut = refl; read = λ some. one; undecided = fed-undecided }

    -- ---- the next input stops it

    module _ (then : Environment) (input : List ℕ) (low : p.claim ≤ now.account.live) where
      -- the effects of the bytes before, and of some more
      passes-both : (effects : Effects) → PassesMarked now.written then.written now.waiting then.waiting effects.text effects.fragment_ends → PassesMarked start.written then.written start.waiting then.waiting (both (reads b).effects effects).text (both (reads b).effects effects).fragment_ends
      passes-both effects q = PassesMarked-more s.text q

      -- so many fragments are whole in it, where all was sent
      whole-both : (effects : Effects) → PassesMarked now.written then.written now.waiting then.waiting effects.text effects.fragment_ends → IsSent then.waiting → then.waiting.whole ≡ whole_in (length (both (reads b).effects effects).text) 0 (both (reads b).effects effects).fragment_ends
      whole-both effects q done = whole-sent (subst (λ v. PassesMarked start.written then.written v then.waiting (both (reads b).effects effects).text (both (reads b).effects effects).fragment_ends) fresh (passes-both effects q)) done

      reads-both : reads (b ++ input) ≡ after (reads b).effects (p.reads (input ++ []))
      reads-both = ap reads (ap (λ l. b ++ l) (sym (append-nil input))) ∙ s.is_after.rest (input ++ [])

      counts-both : (effects : Effects) → Counts now.account then.account p.claim 0 (most_of effects) → Counts start.account then.account 0 0 (most_of (both (reads b).effects effects))
      counts-both effects c = subst (Counts start.account then.account 0 0) (sym (most-both (reads b).effects effects))
          (Counts-more start.account now.account then.account 0 p.claim 0 (most_of (reads b).effects) (most_of effects) (omega arith) s.counts c)

      refuses-emits : (f : Fault) (ends : Ends) → ends.written ≡ start.written → ends.written' ≡ then.written → IsSent then.waiting → Refuses now then p input f → WritesAll (run_of reads (b ++ input) start then ends)
      refuses-emits f ends from to none g =
          let effects : (reads (b ++ input)).effects ≡ both (reads b).effects g.produced = ap (λ r. r.effects) (reads-both ∙ ap (after (reads b).effects) (g.rest [])) in
          let text = Appends-passed (passes-both g.produced g.moves.passes) clear none.bytes in
          record {
            text = subst (λ t. Appends ends.written ends.written' t.text) (sym effects) (subst (λ w. Appends ends.written w ((reads b).effects.text ++ g.produced.text)) (sym to) (subst (λ w. Appends w then.written ((reads b).effects.text ++ g.produced.text)) (sym from) text));
            fragments = whole-both g.produced g.moves.passes none ∙ ap (λ t. whole_in (length t.text) 0 t.fragment_ends) (sym effects);
            peak = peak-exact start.account then.account 0 (most_of (both (reads b).effects g.produced)) marked (counts-both g.produced g.moves.counts) ∙ ap (λ t. start.account.live + most_of t) (sym effects);
            tally = g.moves.tallied ∙ ap (λ t. plus t g.produced.tally) s.is_after.tally ∙ ap (λ t. t.tally) (sym effects);
          }

      claim_refused : (ends : Ends) (one : IsOneRead ends start.account.live input) → ends.written ≡ start.written → ends.written' ≡ then.written → IsSent then.waiting → (g : ClaimRefused now then p input)
          → (r : ClaimRefusedAt (run_of reads (b ++ input) start then ends) (prompt-read input then ends one)) × (r.request.sum ≡ g.sum)
      claim_refused ends one from to none g =
          let more = (g.continues []).effects in
          let n = length (reads b).effects.text in
          let k = length g.produced.text in
          let counted = plus (reads b).effects.tally (plus g.produced.tally uncounted) in
          let tally : then.tally ≡ counted = g.moves.tallied ∙ ap (λ t. plus t g.produced.tally) s.is_after.tally ∙ ap (plus (reads b).effects.tally) (sym (plus-none g.produced.tally)) in
          let effects : (reads (b ++ input)).effects ≡ both (reads b).effects (both g.produced (both (requests_memory g.at g.sum) more)) = ap (λ r. r.effects) (reads-both ∙ ap (after (reads b).effects) (g.rest [])) in
          let text = Appends-passed (passes-both g.produced g.moves.passes) clear none.bytes in
          let front : take (n + (k + 0)) (reads (b ++ input)).effects.text ≡ (reads b).effects.text ++ g.produced.text =
          ap (λ t. take (n + (k + 0)) t.text) effects
          ∙ take-append-add (reads b).effects.text (g.produced.text ++ more.text) (k + 0)
          ∙ ap (λ l. (reads b).effects.text ++ l) (take-append-add g.produced.text more.text 0 ∙ append-nil g.produced.text) in (
            record {
              request = record { at = g.at; sum = g.sum; text_before = n + (k + 0); counted = counted };
              before = (reads b).effects.requests ++ shifted (reads b).effects g.produced.requests;
              requested = (
                shifted (reads b).effects (shifted g.produced (shifted (requests_memory g.at g.sum) more.requests)),
                ap (λ t. t.requests) effects
                    ∙ ap (λ l. (reads b).effects.requests ++ l) (shifted-append (reads b).effects g.produced.requests (shifted g.produced (both (requests_memory g.at g.sum) more).requests))
                    ∙ sym (append_assoc (reads b).effects.requests (shifted (reads b).effects g.produced.requests) _),
              );
              new = (shifted (reads b).effects g.produced.requests, refl);
              text = subst (λ l. Appends ends.written ends.written' l) (sym front) (subst (λ w. Appends ends.written w ((reads b).effects.text ++ g.produced.text)) (sym to) (subst (λ w. Appends w then.written ((reads b).effects.text ++ g.produced.text)) (sym from) text));
              fragments =
                  let marked : (reads (b ++ input)).effects.fragment_ends ≡ (both (reads b).effects g.produced).fragment_ends ++ moved n (moved k (moved 0 more.fragment_ends)) =
                  ap (λ t. t.fragment_ends) effects
                  ∙ ap (λ l. (reads b).effects.fragment_ends ++ l) (moved-append n g.produced.fragment_ends (moved k (moved 0 more.fragment_ends)))
                  ∙ sym (append_assoc (reads b).effects.fragment_ends (moved n g.produced.fragment_ends) (moved n (moved k (moved 0 more.fragment_ends)))) in
                  let len : length ((reads b).effects.text ++ g.produced.text) ≡ n + (k + 0) = omega (arith, length-append (reads b).effects.text g.produced.text) in
                  whole-both g.produced g.moves.passes none ∙ ap (λ l. whole_in l 0 (both (reads b).effects g.produced).fragment_ends) len
                  ∙ whole_in-before (n + (k + 0)) 0 (both (reads b).effects g.produced).fragment_ends (moved n (moved k (moved 0 more.fragment_ends))) (reads (b ++ input)).effects.fragment_ends marked (moved-past n k more.fragment_ends (g.past []));
              peak = peak-exact start.account then.account 0 (greatest ((reads b).effects.requests ++ shifted (reads b).effects g.produced.requests)) marked (counts-both g.produced g.moves.counts);
              tally = tally;
              most = subst (λ t. AtMost t (reads (b ++ input)).effects.tally) (sym tally) (subst (λ t. AtMost counted t.tally) (sym effects) (AtMost-after (reads b).effects.tally (plus g.produced.tally uncounted) (plus g.produced.tally (plus uncounted more.tally)) (AtMost-after g.produced.tally uncounted (plus uncounted more.tally) (AtMost-plus uncounted more.tally))));
            },
            refl,
          )

      write_fails : (ends : Ends) → ends.written ≡ start.written → ends.written' ≡ then.written → StopsAt now then p input Write → WritesPrefix (run_of reads (b ++ input) start then ends)
      write_fails ends from to g =
          let r = p.reads (input ++ []) in
          let effects : (reads (b ++ input)).effects ≡ both (reads b).effects r.effects = ap (λ r. r.effects) reads-both in
          let broken = subst (λ t. BreaksMarked start.written then.written start.waiting then.waiting t.text t.fragment_ends) (sym effects) (BreaksMarked-passed s.text (g []).text) in
          let cut_short = subst (λ v. BreaksMarked start.written then.written v then.waiting (reads (b ++ input)).effects.text (reads (b ++ input)).effects.fragment_ends) fresh broken in
          let spends = subst (Spends start.account then.account 0 0) (sym (most-both (reads b).effects r.effects) ∙ ap most_of (sym effects))
          (Spends-after start.account now.account then.account 0 p.claim 0 (most_of (reads b).effects) (most_of r.effects) (omega arith) s.counts (g []).spends) in
          record {
            text = (cut_short.front, cut_short.rest, subst (λ w. Appends ends.written w cut_short.front) (sym to) (subst (λ w. Appends w then.written cut_short.front) (sym from) cut_short.written), cut_short.all);
            fragments = cut_short.whole ∙ ap (λ l. whole_in (length cut_short.front) 0 l) (moved-none (reads (b ++ input)).effects.fragment_ends);
            least = omega (arith, spends.at_least, marked);
            most = peak-most start.account then.account 0 (most_of (reads (b ++ input)).effects) marked spends;
            counted = subst (AtMost then.tally) (ap (λ t. plus t r.effects.tally) s.is_after.tally ∙ ap (λ t. t.tally) (sym effects)) (g []).most;
          }

      -- how it stops
      pub fed-stops : (ends : Ends) (one : IsOneRead ends start.account.live input) → ends.written ≡ start.written → ends.written' ≡ then.written → (e : Stop) → ((e ≡ Write → ⊥) → IsSent then.waiting) → (e ≡ Write → ends.write_failed' ≡ true) → StopsAt now then p input e
          → StopsWith (run_of reads (b ++ input) start then ends) (prompt-read input then ends one) e
      unfolding claim_refused
      fed-stops ends one from to (Stream f) none failed g =
          let is = ap (λ r. r.outcome) (reads-both ∙ ap (after (reads b).effects) (g.rest [])) in (
            refuses-emits f ends from to (none (λ is. absurd cc)) g,
            ap fault_in is,
            λ none. let some : decided_in (reads (b ++ input)).outcome ≡ Some f = ap decided_in is in absurd cc,
          )
      fed-stops ends one from to (Read at) none failed g = absurd g
      fed-stops ends one from to Write none failed g = (write_fails ends from to g, failed refl)
      fed-stops ends one from to OverLimit none failed (g, far) =
          let requested = claim_refused ends one from to (none (λ is. absurd cc)) g in inr (requested.0, omega (arith, far, requested.1, g.moves.counts.live, s.counts.live, g.moves.counts.limit, s.counts.limit, low))
      fed-stops ends one from to Memory none failed (g, near) =
          let requested = claim_refused ends one from to (none (λ is. absurd cc)) g in inr (requested.0, omega (arith, near, requested.1, g.moves.counts.live, s.counts.live, g.moves.counts.limit, s.counts.limit, low))

-- ---- a call that stops

left_by : (o o' : Environment) (p : Continuation) (bs : List ℕ) (e : Stop) → p.claim ≤ o.account.live → StopsAt o o' p bs e → (o'.account.live + p.claim ≡ o.account.live) × (o'.account.limit ≡ o.account.limit)
left_by o o' p bs (Stream f) low g = (omega (arith, g.moves.counts.live), g.moves.counts.limit)
left_by o o' p bs (Read at) low g = absurd g
left_by o o' p bs Write low g = (omega (arith, (g []).spends.live), (g []).spends.limit)
left_by o o' p bs OverLimit low (g, far) = (omega (arith, g.moves.counts.live), g.moves.counts.limit)
left_by o o' p bs Memory low (g, near) = (omega (arith, g.moves.counts.live), g.moves.counts.limit)

-- all is given back but what others have
pub takes-left : {T : Type 0} {change : Change} {p : Continuation} {input : List ℕ} {taken : T → List ℕ} {new : T → Continuation} {e : Stop} → p.claim ≤ change.before.account.live → Takes change p input taken new (Err e)
    → (change.after.account.live + p.claim ≡ change.before.account.live) × (change.after.account.limit ≡ change.before.account.limit)
takes-left {change = change} {p = p} {input = input} {e = e} low t = left_by change.before change.after p (input ++ []) e low (t.err [])

-- and so does a run that was fed the bytes before
pub fed-takes : {T : Type 0} {change : Change} {p : Continuation} {input : List ℕ} {taken : T → List ℕ} {new : T → Continuation} {e : Stop} (reads : List ℕ → Reading) (b : List ℕ) (start : Environment) (fresh : start.waiting ≡ unused) (marked : start.account.peak ≡ start.account.live) (s : IsFed reads b start change.before p) → p.claim ≤ change.before.account.live
    → (ends : Ends) (one : IsOneRead ends start.account.live input) → ends.written ≡ start.written → ends.written' ≡ change.after.written → ((e ≡ Write → ⊥) → IsSent change.after.waiting) → ends.write_failed' ≡ change.failed' → Takes change p input taken new (Err e)
    → StopsWith (run_of reads (b ++ input) start change.after ends) (prompt-read reads b start fresh marked s input change.after ends one) e
fed-takes {change = change} {p = p} {input = input} {e = e} reads b start fresh marked s low ends one from to none failed t =
    fed-stops reads b start fresh marked s change.after input low ends one from to e none (λ is. failed ∙ t.failed (ap Err is)) (subst (λ l. StopsAt change.before change.after p l e) (append-nil input) (t.err []))

-- an empty input is that of a read that gave nothing
pub none_read : (n : ℕ) (into : List ℕ) → true ≡ (length (take n into) == 0) → n ≤ length into → n ≡ 0
none_read n into e within =
    let none : length (take n into) ≡ 0 = grind (arith, nat_tests, e) in
    omega (arith, none, length-take n into, within)

-- bytes after bytes
pub bytes-more : (a b : List ℕ) → IsBytes a → IsBytes b → IsBytes (a ++ b)
bytes-more [] b fits more i = more i
bytes-more (x ∷ a) b fits more zero = fits zero
bytes-more (x ∷ a) b fits more (suc i) = bytes-more a b (λ j. fits (suc j)) more i

-- ---- a run whose bytes to read into were refused

pub idle-stops : {T : Type 0} (reads : List ℕ → Reading) (ends : Ends) (claims : Claims) (live : ℕ) (r : Refused) → reads [] ≡ empty_reading → Consumes ends.left ends.left' [] → Appends ends.written ends.written' [] → ends.write_failed' ≡ ends.write_failed → live ≡ 0 → claims.peak ≡ live
    → (r ≡ refusals.OverLimit → claims.limit < live + claims.copy) → (r ≡ refusals.Memory → live + claims.copy ≤ claims.limit) → (run : ReadsStream {T = T} reads ends claims uncounted (Err (refusal_of r))) × (run.fragments ≡ 0)
idle-stops reads ends claims live refusals.OverLimit none given kept failed idle peak over within = (
  record {
    bytes = [];
    fits = λ i. omega arith;
    given = given;
    fragments = 0;
    prompt = record { early = []; last = []; cut = refl; read = λ some. absurd (omega (arith, some)); undecided = ap (λ r. decided_in r.outcome) none };
    gives = inl (record { bytes = refl; text = kept; fragments = refl; peak = peak ∙ idle; tally = refl }, omega (arith, over refl, idle));
    kept = λ _. failed;
  },
  refl,
)
idle-stops reads ends claims live refusals.Memory none given kept failed idle peak over within = (
  record {
    bytes = [];
    fits = λ i. omega arith;
    given = given;
    fragments = 0;
    prompt = record { early = []; last = []; cut = refl; read = λ some. absurd (omega (arith, some)); undecided = ap (λ r. decided_in r.outcome) none };
    gives = inl (record { bytes = refl; text = kept; fragments = refl; peak = peak ∙ idle; tally = refl }, omega (arith, within refl, idle));
    kept = λ _. failed;
  },
  refl,
)

-- ---- the same claims by other names

pub Runs-same : {T : Type 0} {reads : List ℕ → Reading} {ends : Ends} {tally : Tally} {copy copy' limit limit' peak peak' n : ℕ} {result : Result T Stop} → copy ≡ copy' → limit ≡ limit' → peak ≡ peak'
    → ((run : ReadsStream reads ends (record { copy = copy; limit = limit; peak = peak }) tally result) × (run.fragments ≡ n)) → (run : ReadsStream reads ends (record { copy = copy'; limit = limit'; peak = peak' }) tally result) × (run.fragments ≡ n)
Runs-same {reads = reads} {ends = ends} {tally = tally} {copy = copy} {copy' = copy'} {limit = limit} {limit' = limit'} {peak = peak} {n = n} {result = result} e f g run =
    subst (λ k. (run : ReadsStream reads ends (record { copy = copy'; limit = limit'; peak = k }) tally result) × (run.fragments ≡ n)) g
    (subst (λ k. (run : ReadsStream reads ends (record { copy = copy'; limit = k; peak = peak }) tally result) × (run.fragments ≡ n)) f
    (subst (λ k. (run : ReadsStream reads ends (record { copy = k; limit = limit; peak = peak }) tally result) × (run.fragments ≡ n)) e run))
