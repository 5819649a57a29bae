-- The effects of two inputs are those of their join.
use Rattle.std.proofs.Common.{◌≡◌, ℕ, ◌+◌, ◌-◌, ◌<◌, ◌≤◌, List, [], ◌++◌, take, drop, Option, Bool, true, Result, Ok, Err, OnErr, OnOk, ap, sym, ◌∙◌, refl, length, arith, append_assoc, append-nil, length-append, subst, take-append-drop}
use Rattle.std.proofs.Math.Seq.{take-add}
use Rattle.std.proofs.lemmas.List.{take_all}
use Rattle.mp4_box.specs.Headers.{IsBytes}
use Rattle.mp4_box.specs.declared.rules.Fault.{Fault}
use Rattle.mp4_ledger.specs.Memory.{Account, claimed, given_back}
use Rattle.mp4_machine.specs.Accounts.{Counts, Spends}
use Rattle.mp4_machine.proofs.AccountLemmas.{Counts-none, Counts-claim, Counts-back, Counts-more, Spends-after, Spends-more}
use Rattle.mp4_machine.specs.Blocks.{IsSent, Pending, unused, Breaks, BreaksMarked, Passes, PassesMarked}
use Rattle.mp4_machine.specs.Readings.{AtMost, Faulty, Reading, Effects, plus, after, both, no_effects, requests_memory, most_of, uncounted, decided_in}
use Rattle.mp4_machine.specs.Inputs.{Environment, environment, Continuation, Moves, GoesOn, Refuses, ClaimRefused, WriteFailed, StopsAt, Change, Takes, IsBegun, HasNoEffects, IsFed, TakesAll, farthest}
use Rattle.mp4_machine.specs.declared.stop.Stop.{Stop}
use Rattle.mp4_machine.specs.declared.stop.Stop.TheVariants.{Stream, Read, Write, OverLimit, Memory}
use Rattle.mp4_machine.proofs.ReadingAskLemmas.{AtMost-after, AtMost-plus, AtMost-trans, max_none, most-both, most-first, plus-assoc, plus-none}
use Rattle.mp4_machine.proofs.ReadingLemmas.{after-both, after-silent, both-silent}
use Rattle.mp4_machine.proofs.BlockLemmas.{Passes-none, PassesMarked-more, BreaksMarked-longer, BreaksMarked-passed, Passes-sent_on, Breaks-sent_on}

-- nothing moved
pub Moves-none : (o : Environment) (own : ℕ) → Moves o o own own no_effects
Moves-none o own = record { passes = Passes-none o.written o.waiting; counts = Counts-none o.account own; tallied = sym (plus-none o.tally) }

pub Moves-more : {o o' o'' : Environment} {c d e : ℕ} {s t : Effects} → c ≤ o.account.live → Moves o o' c d s → Moves o' o'' d e t → Moves o o'' c e (both s t)
Moves-more {o = o} {o' = o'} {o'' = o''} {c = c} {d = d} {e = e} {s = s} {t = t} low x y = record {
  passes = PassesMarked-more x.passes y.passes;
  counts = subst (Counts o.account o''.account c e) (sym (most-both s t)) (Counts-more o.account o'.account o''.account c d e (most_of s) (most_of t) low x.counts y.counts);
  tallied = y.tallied ∙ ap (λ n. plus n t.tally) x.tallied ∙ plus-assoc o.tally s.tally t.tally;
}

-- the same outside, but that more was claimed, or given back
abbrev pub claimed_from : Environment → ℕ → Environment
claimed_from o n = record { written = o.written; waiting = o.waiting; account = claimed o.account n; tally = o.tally }

abbrev pub back_to : Environment → ℕ → Environment
back_to o n = record { written = o.written; waiting = o.waiting; account = given_back o.account n; tally = o.tally }

-- what a box asks for was claimed
pub Moves-claim : (o : Environment) (own n at : ℕ) → own ≤ o.account.live → 0 < own + n → Moves o (claimed_from o n) own (own + n) (requests_memory at (own + n))
Moves-claim o own n at low some = record {
  passes = Passes-none o.written o.waiting;
  counts = subst (Counts o.account (claimed o.account n) own (own + n)) (sym (max_none (own + n))) (Counts-claim o.account own n low some);
  tallied = sym (plus-none o.tally);
}

-- some of what was claimed was given back
pub Moves-back : (o : Environment) (own n : ℕ) → n ≤ own → own ≤ o.account.live → Moves o (back_to o n) own (own - n) no_effects
Moves-back o own n some low = record { passes = Passes-none o.written o.waiting; counts = Counts-back o.account own n some low; tallied = sym (plus-none o.tally) }

-- nothing came
pub GoesOn-none : (o : Environment) (p : Continuation) → GoesOn o o p [] p
GoesOn-none o p = record {
  produced = no_effects;
  moves = Moves-none o p.claim;
  reached = omega arith;
  rest = λ later. sym (after-silent (p.reads later));
}

-- bytes came that have no effects yet
pub GoesOn-silent : (o : Environment) (p q : Continuation) (x : List ℕ) → q.claim ≡ p.claim → q.reached ≡ p.reached + length x → ((later : List ℕ) → p.reads (x ++ later) ≡ q.reads later) → GoesOn o o p x q
GoesOn-silent o p q x same far f = record {
  produced = no_effects;
  moves = subst (λ n. Moves o o p.claim n no_effects) (sym same) (Moves-none o p.claim);
  reached = far;
  rest = λ later. f later ∙ sym (after-silent (q.reads later));
}

-- after some bytes a fault is read, whatever comes: everything is given back
pub Refuses-there : (o o' : Environment) (p : Continuation) (x more : List ℕ) (f : Fault) → Moves o o' p.claim 0 no_effects → ((later : List ℕ) → p.reads (x ++ later) ≡ record { effects = no_effects; outcome = Faulty f }) → Refuses o o' p (x ++ more) f
Refuses-there o o' p x more f m r = record { produced = no_effects; moves = m; rest = λ later. ap p.reads (append_assoc x more later) ∙ r (more ++ later) }

-- a write failed in the first effects, which were counted
pub WriteFailed-emitted : (o o' : Environment) (own : ℕ) (effects : Effects) (rest r : Reading) → r ≡ after effects rest → BreaksMarked o.written o'.written o.waiting o'.waiting effects.text effects.fragment_ends → Spends o.account o'.account own 0 0 → o'.tally ≡ plus o.tally effects.tally → WriteFailed o o' own r
WriteFailed-emitted o o' own effects rest r e p q same = record {
  text = subst (λ s. BreaksMarked o.written o'.written o.waiting o'.waiting s.effects.text s.effects.fragment_ends) (sym e) (BreaksMarked-longer rest.effects.text rest.effects.fragment_ends p);
  spends = Spends-more o.account o'.account own 0 0 (most_of r.effects) (omega arith) q;
  least = subst (AtMost o.tally) (sym same) (AtMost-plus o.tally effects.tally);
  most = subst (λ t. AtMost t (plus o.tally r.effects.tally)) (sym same) (subst (λ s. AtMost (plus o.tally effects.tally) (plus o.tally s.effects.tally)) (sym e) (AtMost-after o.tally effects.tally (plus effects.tally rest.effects.tally) (AtMost-plus effects.tally rest.effects.tally)));
}

module _ {o o' : Environment} {p q : Continuation} {xs : List ℕ} (low : p.claim ≤ o.account.live) (g : GoesOn o o' p xs q) where
  rest-all : (ys later : List ℕ) → p.reads ((xs ++ ys) ++ later) ≡ after g.produced (q.reads (ys ++ later))
  rest-all ys later = ap p.reads (append_assoc xs ys later) ∙ g.rest (ys ++ later)

  -- both pieces go on
  pub GoesOn-more : {o'' : Environment} (ys : List ℕ) (r : Continuation) → GoesOn o' o'' q ys r → GoesOn o o'' p (xs ++ ys) r
  GoesOn-more ys r h = record {
    produced = both g.produced h.produced;
    moves = Moves-more low g.moves h.moves;
    reached = omega (arith, g.reached, h.reached, length-append xs ys);
    rest = λ later. rest-all ys later ∙ ap (after g.produced) (h.rest later) ∙ after-both g.produced h.produced (r.reads later);
  }

  ClaimRefused-more : (o'' : Environment) (ys : List ℕ) → ClaimRefused o' o'' q ys → ClaimRefused o o'' p (xs ++ ys)
  ClaimRefused-more o'' ys h = record {
    produced = both g.produced h.produced;
    moves = Moves-more low g.moves h.moves;
    at = h.at;
    sum = h.sum;
    continues = h.continues;
    past = h.past;
    rest = λ later. rest-all ys later ∙ ap (after g.produced) (h.rest later) ∙ after-both g.produced h.produced (after (requests_memory h.at h.sum) (h.continues later));
  }

  WriteFailed-more : (o'' : Environment) (r : Reading) → WriteFailed o' o'' q.claim r → WriteFailed o o'' p.claim (after g.produced r)
  WriteFailed-more o'' r h = record {
    text = BreaksMarked-passed g.moves.passes h.text;
    spends = subst (Spends o.account o''.account p.claim 0) (sym (most-both g.produced r.effects))
        (Spends-after o.account o'.account o''.account p.claim q.claim 0 (most_of g.produced) (most_of r.effects) low g.moves.counts h.spends);
    least = AtMost-trans o.tally o'.tally o''.tally (subst (AtMost o.tally) (sym g.moves.tallied) (AtMost-plus o.tally g.produced.tally)) h.least;
    most = subst (AtMost o''.tally) (ap (λ t. plus t r.effects.tally) g.moves.tallied ∙ plus-assoc o.tally g.produced.tally r.effects.tally) h.most;
  }

  -- the second stops
  pub StopsAt-more : (o'' : Environment) (ys : List ℕ) (e : Stop) → StopsAt o' o'' q ys e → StopsAt o o'' p (xs ++ ys) e
  unfolding ClaimRefused-more
  StopsAt-more o'' ys (Stream f) h = record {
    produced = both g.produced h.produced;
    moves = Moves-more low g.moves h.moves;
    rest = λ later. rest-all ys later ∙ ap (after g.produced) (h.rest later);
  }
  StopsAt-more o'' ys (Read at) h = h
  StopsAt-more o'' ys Write h = λ later. subst (WriteFailed o o'' p.claim) (sym (rest-all ys later)) (WriteFailed-more o'' (q.reads (ys ++ later)) (h later))
  StopsAt-more o'' ys OverLimit (h, far) = (ClaimRefused-more o'' ys h, far)
  StopsAt-more o'' ys Memory (h, near) = (ClaimRefused-more o'' ys h, near)

module _ {o o' : Environment} {p q : Continuation} (low : p.claim ≤ o.account.live) (i : ℕ) (xs : List ℕ) (g : GoesOn o o' p (take i xs) q) where
  pub GoesOn-take_more : {o'' : Environment} (n : ℕ) (r : Continuation) → GoesOn o' o'' q (take n (drop i xs)) r → GoesOn o o'' p (take (i + n) xs) r
  GoesOn-take_more {o'' = o''} n r h = subst (λ l. GoesOn o o'' p l r) (sym (take-add i n xs)) (GoesOn-more low g (take n (drop i xs)) r h)

  pub StopsAt-take_more : (o'' : Environment) (more : List ℕ) (e : Stop) → StopsAt o' o'' q (drop i xs ++ more) e → StopsAt o o'' p (xs ++ more) e
  StopsAt-take_more o'' more e h =
      subst (λ l. StopsAt o o'' p l e) (sym (append_assoc (take i xs) (drop i xs) more) ∙ ap (λ l. l ++ more) (take-append-drop i xs)) (StopsAt-more low g o'' (drop i xs ++ more) e h)

-- bytes x came before, without effects: what they and the input do, the input does after them
module _ (o o' : Environment) (p q : Continuation) (x : List ℕ) (same : q.claim ≡ p.claim) (reads : (later : List ℕ) → p.reads (x ++ later) ≡ q.reads later) (ys : List ℕ) where
  rest-after : (later : List ℕ) → q.reads (ys ++ later) ≡ p.reads ((x ++ ys) ++ later)
  rest-after later = sym (reads (ys ++ later)) ∙ ap p.reads (sym (append_assoc x ys later))

  moves-after : (d : ℕ) (t : Effects) → Moves o o' p.claim d t → Moves o o' q.claim d t
  moves-after d t m = subst (λ n. Moves o o' n d t) (sym same) m

  pub GoesOn-after : (r : Continuation) → q.reached ≡ p.reached + length x → GoesOn o o' p (x ++ ys) r → GoesOn o o' q ys r
  GoesOn-after r far g = record { produced = g.produced; moves = moves-after r.claim g.produced g.moves; reached = omega (arith, far, g.reached, length-append x ys); rest = λ later. rest-after later ∙ g.rest later }

  ClaimRefused-after : ClaimRefused o o' p (x ++ ys) → ClaimRefused o o' q ys
  ClaimRefused-after g = record { produced = g.produced; moves = moves-after 0 g.produced g.moves; at = g.at; sum = g.sum; continues = g.continues; past = g.past; rest = λ later. rest-after later ∙ g.rest later }

  pub StopsAt-after : (e : Stop) → StopsAt o o' p (x ++ ys) e → StopsAt o o' q ys e
  unfolding ClaimRefused-after
  StopsAt-after (Stream f) g = record { produced = g.produced; moves = moves-after 0 g.produced g.moves; rest = λ later. rest-after later ∙ g.rest later }
  StopsAt-after (Read at) g = g
  StopsAt-after Write g = λ later. subst (λ n. WriteFailed o o' n (q.reads (ys ++ later))) (sym same) (subst (WriteFailed o o' p.claim) (sym (rest-after later)) (g later))
  StopsAt-after OverLimit (g, far) = (ClaimRefused-after g, far)
  StopsAt-after Memory (g, near) = (ClaimRefused-after g, near)

-- ---- a call

pub Takes-ok : {T : Type 0} {change : Change} {old : Continuation} {input : List ℕ} {taken : T → List ℕ} {new : T → Continuation} {t : T} → GoesOn change.before change.after old (taken t) (new t) → change.failed' ≡ change.failed → Takes change old input taken new (Ok t)
Takes-ok g kept = record { ok = g; err = tt; failed = λ e. absurd cc; kept = λ _. kept }

pub Takes-err : {T : Type 0} {change : Change} {old : Continuation} {input : List ℕ} {taken : T → List ℕ} {new : T → Continuation} {e : Stop} → ((more : List ℕ) → StopsAt change.before change.after old (input ++ more) e) → (e ≡ Write → change.failed' ≡ true) → ((e ≡ Write → ⊥) → change.failed' ≡ change.failed) → Takes change old input taken new (Err e)
Takes-err stops failed kept = record { ok = tt; err = stops; failed = λ e. failed cc; kept = λ other. kept (λ is. other (ap Err is)) }

-- ---- the buffer is sent at the end of the input

-- the same outside, but that what waited was sent
abbrev pub sent_to : Environment → Option (List ℕ) → Pending → Environment
sent_to o u x = record { written = u; waiting = x; account = o.account; tally = o.tally }

module _ {o o' : Environment} {u : Option (List ℕ)} {x : Pending} where
  Moves-sent : {c d : ℕ} {t : Effects} → Moves o o' c d t → Passes o'.written u o'.waiting x [] → Moves o (sent_to o' u x) c d t
  Moves-sent m h = record { passes = Passes-sent_on m.passes h; counts = m.counts; tallied = m.tallied }

  module _ {p : Continuation} {xs : List ℕ} where
    pub GoesOn-sent : {q : Continuation} → GoesOn o o' p xs q → Passes o'.written u o'.waiting x [] → GoesOn o (sent_to o' u x) p xs q
    GoesOn-sent g h = record { produced = g.produced; moves = Moves-sent g.moves h; reached = g.reached; rest = g.rest }

    ClaimRefused-sent : ClaimRefused o o' p xs → Passes o'.written u o'.waiting x [] → ClaimRefused o (sent_to o' u x) p xs
    ClaimRefused-sent g h = record { produced = g.produced; moves = Moves-sent g.moves h; at = g.at; sum = g.sum; continues = g.continues; past = g.past; rest = g.rest }

-- where a write failed nothing more is sent
pub StopsAt-sent : (o o' : Environment) (u : Option (List ℕ)) (x : Pending) (p : Continuation) (xs : List ℕ) (e : Stop) → (e ≡ Write → ⊥) → StopsAt o o' p xs e → Passes o'.written u o'.waiting x [] → StopsAt o (sent_to o' u x) p xs e
unfolding ClaimRefused-sent
StopsAt-sent o o' u x p xs (Stream f) other g h = record { produced = g.produced; moves = Moves-sent g.moves h; rest = g.rest }
StopsAt-sent o o' u x p xs (Read at) other g h = g
StopsAt-sent o o' u x p xs Write other g h = absurd (other refl)
StopsAt-sent o o' u x p xs OverLimit other (g, far) h = (ClaimRefused-sent g h, far)
StopsAt-sent o o' u x p xs Memory other (g, near) h = (ClaimRefused-sent g h, near)

-- and where it can't be sent, a prefix of what was to be written was
breaks-unsent : {a b c : Option (List ℕ)} {v w u : Pending} (effects more whole : Effects) → PassesMarked a b v w effects.text effects.fragment_ends → Breaks b c w u [] → whole ≡ both effects more → BreaksMarked a c v u whole.text whole.fragment_ends
breaks-unsent {a = a} {c = c} {v = v} {u = u} effects more whole p s e =
    subst (λ t. BreaksMarked a c v u t.text t.fragment_ends) (sym e) (BreaksMarked-longer more.text more.fragment_ends (Breaks-sent_on p s))

-- the same outside, but that what waited was lost and what was claimed was given back
abbrev pub cut_short_to : Environment → Option (List ℕ) → Pending → Account → Environment
cut_short_to o u x a = record { written = u; waiting = x; account = a; tally = o.tally }

module _ {o o' : Environment} (u : Option (List ℕ)) (x : Pending) (a : Account) where
  -- there are effects, and more of them; their reading is known
  write_fails-unsent : (c claim : ℕ) (effects more : Effects) (r : Reading) → r.effects ≡ both effects more → Moves o o' c claim effects → Breaks o'.written u o'.waiting x []
      → claim ≤ o'.account.live → a ≡ given_back o'.account claim → WriteFailed o (cut_short_to o' u x a) c r
  write_fails-unsent c claim effects more r e m f low back = record {
    text = breaks-unsent effects more r.effects m.passes f e;
    spends = Spends-more o.account a c 0 (most_of effects) (most_of r.effects) (subst (λ s. most_of effects ≤ most_of s) (sym e) (most-first effects more)) (record {
      limit = ap (λ k. k.limit) back ∙ m.counts.limit;
      live = omega (arith, ap (λ k. k.live) back, m.counts.live, low);
      at_least = omega (arith, ap (λ k. k.peak) back, m.counts.peak);
      at_most = omega (arith, ap (λ k. k.peak) back, m.counts.peak);
    });
    least = subst (AtMost o.tally) (sym m.tallied) (AtMost-plus o.tally effects.tally);
    most = subst (λ t. AtMost t (plus o.tally r.effects.tally)) (sym m.tallied) (subst (λ s. AtMost (plus o.tally effects.tally) (plus o.tally s.tally)) (sym e) (AtMost-after o.tally effects.tally (plus effects.tally more.tally) (AtMost-plus effects.tally more.tally)));
  }

  module _ {p : Continuation} {xs : List ℕ} (f : Breaks o'.written u o'.waiting x []) where
    pub GoesOn-unsent : {q : Continuation} → q.claim ≤ o'.account.live → a ≡ given_back o'.account q.claim → GoesOn o o' p xs q
        → (later : List ℕ) → WriteFailed o (cut_short_to o' u x a) p.claim (p.reads (xs ++ later))
    GoesOn-unsent {q = q} low back g later =
        write_fails-unsent p.claim q.claim g.produced (q.reads later).effects (p.reads (xs ++ later)) (ap (λ r. r.effects) (g.rest later)) g.moves f low back

none_back : (a : Account) → a ≡ given_back a 0
none_back a = let e : a.live - 0 ≡ a.live = omega arith in ap (λ n. record { limit = a.limit; live = n; peak = a.peak }) (sym e)

pub StopsAt-unsent : (o o' : Environment) (u : Option (List ℕ)) (x : Pending) (p : Continuation) (xs : List ℕ) (e : Stop) → Breaks o'.written u o'.waiting x [] → (e ≡ Write → ⊥) → StopsAt o o' p xs e
    → (later : List ℕ) → WriteFailed o (sent_to o' u x) p.claim (p.reads (xs ++ later))
StopsAt-unsent o o' u x p xs (Stream h) f other g later =
    write_fails-unsent u x o'.account p.claim 0 g.produced no_effects (p.reads (xs ++ later)) (ap (λ r. r.effects) (g.rest later) ∙ sym (both-silent g.produced)) g.moves f (omega arith) (none_back o'.account)
StopsAt-unsent o o' u x p xs (Read at) f other g later = absurd g
StopsAt-unsent o o' u x p xs Write f other g later = absurd (other refl)
StopsAt-unsent o o' u x p xs OverLimit f other (g, far) later =
    write_fails-unsent u x o'.account p.claim 0 g.produced (after (requests_memory g.at g.sum) (g.continues later)).effects (p.reads (xs ++ later)) (ap (λ r. r.effects) (g.rest later)) g.moves f (omega arith) (none_back o'.account)
StopsAt-unsent o o' u x p xs Memory f other (g, near) later =
    write_fails-unsent u x o'.account p.claim 0 g.produced (after (requests_memory g.at g.sum) (g.continues later)).effects (p.reads (xs ++ later)) (ap (λ r. r.effects) (g.rest later)) g.moves f (omega arith) (none_back o'.account)

-- ---- a call, and then what waits is sent

abbrev pub sent_after : Change → Option (List ℕ) → Pending → Bool → Change
sent_after a u x failed' = record { before = a.before; after = sent_to a.after u x; failed = a.failed; failed' = failed' }

pub Takes-sent : {T : Type 0} {change : Change} {old : Continuation} {input : List ℕ} {taken : T → List ℕ} {new : T → Continuation} (r : Result T Stop) (u : Option (List ℕ)) (x : Pending) (failed' : Bool) → (r ≡ Err Write → ⊥) → Takes change old input taken new r
    → Passes change.after.written u change.after.waiting x [] → failed' ≡ change.failed' → Takes (sent_after change u x failed') old input taken new r
Takes-sent (Ok t) u x failed' other h p kept = Takes-ok (GoesOn-sent h.ok p) (kept ∙ h.kept other)
Takes-sent {change = change} {old = old} {input = input} (Err e) u x failed' other h p kept =
    Takes-err (λ more. StopsAt-sent change.before change.after u x old (input ++ more) e (λ is. other (ap Err is)) (h.err more) p) (λ is. absurd (other (ap Err is))) (λ _. kept ∙ h.kept other)

-- what waits can't be sent, and what is claimed is given back
abbrev pub cut_short_after : Change → Option (List ℕ) → Pending → Account → Change
cut_short_after a u x account = record { before = a.before; after = cut_short_to a.after u x account; failed = a.failed; failed' = true }

pub Takes-unsent : {T : Type 0} {change : Change} {old : Continuation} {input : List ℕ} {taken : T → List ℕ} {new new' : T → Continuation} (r : Result T Stop) (u : Option (List ℕ)) (x : Pending) (a : Account) (claim : ℕ) → (r ≡ Err Write → ⊥) → Takes change old input taken new r
    → ((t : T) → r ≡ Ok t → ((taken t ≡ input) × ((new t).claim ≡ claim))) → OnErr r (claim ≡ 0) → claim ≤ change.after.account.live → Breaks change.after.written u change.after.waiting x [] → a ≡ given_back change.after.account claim
    → Takes (cut_short_after change u x a) old input taken new' (Err Write)
Takes-unsent {change = change} {old = old} {input = input} {new = new} (Ok t) u x a claim other h here spent low f back =
    let same = here t refl in
    Takes-err (λ more later. subst (λ l. WriteFailed change.before (cut_short_to change.after u x a) old.claim (old.reads l)) (sym (append_assoc input more later))
    (subst (λ l. WriteFailed change.before (cut_short_to change.after u x a) old.claim (old.reads (l ++ (more ++ later)))) same.0 (GoesOn-unsent u x a f (omega (arith, same.1, low)) (back ∙ ap (given_back change.after.account) (sym same.1)) h.ok (more ++ later)))) (λ is. refl) (λ never. absurd (never refl))
Takes-unsent {change = change} {old = old} {input = input} (Err e) u x a claim other h here spent low f back =
    let same : a ≡ change.after.account = back ∙ ap (given_back change.after.account) spent ∙ sym (none_back change.after.account) in
    Takes-err (λ more later. subst (λ k. WriteFailed change.before (cut_short_to change.after u x k) old.claim (old.reads ((input ++ more) ++ later))) (sym same)
    (StopsAt-unsent change.before change.after u x old (input ++ more) e f (λ is. other (ap Err is)) (h.err more) later)) (λ is. refl) (λ never. absurd (never refl))

-- a machine has taken an input, or stopped in it, and no write has failed: what waits can be sent
pub record MaySend {X : Type 0} (change : Change) (old : Continuation) (input : List ℕ) (new : Continuation) (made made' : X) (result : Result (Unit {0}) Stop) : Type 0 where
  pub takes : Takes change old input (λ _. input) (λ _. new) result
  pub unfailed : result ≡ Err Write → ⊥
  pub claim : new.claim ≤ change.after.account.live
  pub quiet : OnOk result (HasNoEffects new)
  pub near : OnOk result (new.reached ≤ farthest)
  pub spent : OnErr result (new.claim ≡ 0)
  pub task : made' ≡ made

module _ {X : Type 0} {change : Change} {old new : Continuation} {made made' : X} (at : ℕ) (input : List ℕ) where
  -- all of it
  pub MaySend-taken : length input ≤ at → GoesOn change.before change.after old (take at input) new → change.failed' ≡ change.failed → new.claim ≤ change.after.account.live → HasNoEffects new → new.reached ≤ farthest → made' ≡ made
      → MaySend change old input new made made' (Ok tt)
  MaySend-taken whole g kept claim quiet near task = record {
    takes = Takes-ok (subst (λ l. GoesOn change.before change.after old l new) (take_all at input whole) g) kept;
    unfailed = λ e. absurd cc;
    claim = claim;
    quiet = quiet;
    near = near;
    spent = tt;
    task = task;
  }

  -- what was before it, and then it stopped
  pub MaySend-stopped : {T : Type 0} {o : Environment} {failed : Bool} {p : Continuation} {taken : T → List ℕ} {next : T → Continuation} (e : Stop) → old.claim ≤ change.before.account.live → GoesOn change.before o old (take at input) p → failed ≡ change.failed
      → Takes (record { before = o; after = change.after; failed = failed; failed' = change.failed' }) p (drop at input) taken next (Err e) → (e ≡ Write → ⊥) → new.claim ≤ change.after.account.live → new.claim ≡ 0 → made' ≡ made
      → MaySend change old input new made made' (Err e)
  MaySend-stopped e low g kept t other claim spent task = record {
    takes = Takes-err (λ more. StopsAt-take_more low at input g change.after more e (t.err more)) (λ is. absurd (other is)) (λ _. t.kept (λ is. other cc) ∙ kept);
    unfailed = λ is. other cc;
    claim = claim;
    quiet = tt;
    near = tt;
    spent = spent;
    task = task;
  }

module _ {X : Type 0} {change : Change} {old new : Continuation} {input : List ℕ} {made made' : X} {result : Result (Unit {0}) Stop} (may : MaySend change old input new made made' result) (fits : IsBytes input) (u : Option (List ℕ)) (x : Pending) where
  pub TakesAll-sent : (failed' : Bool) → Passes change.after.written u change.after.waiting x [] → failed' ≡ change.failed' → IsSent x → TakesAll (sent_after change u x failed') old input new made made' result
  TakesAll-sent failed' p kept done = record {
    takes = Takes-sent result u x failed' may.unfailed may.takes p kept;
    claim = may.claim;
    quiet = may.quiet;
    near = may.near;
    sent = λ _. done;
    bytes = fits;
    spent = may.spent;
    task = may.task;
  }

  pub TakesAll-unsent : (a : Account) (new' : Continuation) (made'' : X) → Breaks change.after.written u change.after.waiting x [] → a ≡ given_back change.after.account new.claim → new'.claim ≡ 0 → made'' ≡ made'
      → TakesAll (cut_short_after change u x a) old input new' made made'' (Err Write)
  TakesAll-unsent a new' made'' f back spent task = record {
    takes = Takes-unsent result u x a new.claim may.unfailed may.takes (λ t e. (refl, refl)) may.spent may.claim f back;
    claim = omega (arith, spent);
    quiet = tt;
    near = tt;
    sent = λ other. absurd (other refl);
    bytes = fits;
    spent = spent;
    task = task ∙ may.task;
  }

-- ---- all the bytes so far

-- a machine to which no byte has come
pub IsFed-begun : (written : Option (List ℕ)) (account : Account) (p : Continuation) → IsBegun p uncounted → IsFed p.reads [] (environment written unused account uncounted) (environment written unused account uncounted) p
IsFed-begun written account p begun =
    let effects : (p.reads []).effects ≡ no_effects = ap (λ r. r.effects) begun.none in
    record {
      is_after = record {
        reached = begun.reached;
        rest = λ later. sym (ap (λ t. after t (p.reads later)) effects ∙ after-silent (p.reads later));
        tally = sym (ap (λ t. t.tally) effects);
      };
      quiet = record { effects = effects; early = ap (λ r. decided_in r.outcome) begun.none };
      text = subst (λ t. PassesMarked written written unused unused t.text t.fragment_ends) (sym effects) (Passes-none written unused);
      sent = record { bytes = refl; ends = refl };
      counts = subst (λ n. Counts account account 0 n (most_of (p.reads []).effects)) (sym begun.claim) (subst (Counts account account 0 0) (sym (ap most_of effects)) (Counts-none account 0));
    }

-- fed one more input
pub IsFed-more : {o o' : Environment} {p q : Continuation} {input : List ℕ} (reads : List ℕ → Reading) (b : List ℕ) (start : Environment) → IsFed reads b start o p → GoesOn o o' p input q → HasNoEffects q → IsSent o'.waiting
    → IsFed reads (b ++ input) start o' q
IsFed-more {o = o} {o' = o'} {p = p} {q = q} {input = input} reads b start s g quiet done =
    let rest : (later : List ℕ) → reads ((b ++ input) ++ later) ≡ after (both (reads b).effects g.produced) (q.reads later) =
    λ later. ap reads (append_assoc b input later) ∙ s.is_after.rest (input ++ later) ∙ ap (after (reads b).effects) (g.rest later) ∙ after-both (reads b).effects g.produced (q.reads later) in
    let effects : (reads (b ++ input)).effects ≡ both (reads b).effects g.produced =
    ap (λ l. (reads l).effects) (sym (append-nil (b ++ input))) ∙ ap (λ r. r.effects) (rest []) ∙ ap (both (both (reads b).effects g.produced)) quiet.effects ∙ both-silent (both (reads b).effects g.produced) in
    record {
      is_after = record {
        reached = omega (arith, g.reached, s.is_after.reached, length-append b input);
        rest = λ later. rest later ∙ ap (λ t. after t (q.reads later)) (sym effects);
        tally = g.moves.tallied ∙ ap (λ t. plus t g.produced.tally) s.is_after.tally ∙ ap (λ t. t.tally) (sym effects);
      };
      quiet = quiet;
      text = subst (λ t. PassesMarked start.written o'.written start.waiting o'.waiting t.text t.fragment_ends) (sym effects) (PassesMarked-more s.text g.moves.passes);
      sent = done;
      counts = subst (λ t. Counts start.account o'.account 0 q.claim (most_of t)) (sym effects)
          (subst (Counts start.account o'.account 0 q.claim) (sym (most-both (reads b).effects g.produced)) (Counts-more start.account o.account o'.account 0 p.claim q.claim (most_of (reads b).effects) (most_of g.produced) (omega arith) s.counts g.moves.counts));
    }
