-- How steps compose, and what bytes that came before change of a step.
use Rattle.std.proofs.Common.{◌≡◌, ℕ, ◌+◌, ◌≤◌, List, [], ◌++◌, length, take, drop, append-nil, subst, Ok, Err}
use Rattle.mp4_box.specs.declared.rules.Fault.{Fault}
use Rattle.mp4_machine.specs.Inputs.{Change, Continuation, Environment, GoesOn, Refuses, Takes}
use Rattle.mp4_machine.specs.Steps.{GoesTo, StopsIn}
use Rattle.mp4_machine.specs.declared.stop.Stop.{Stop}
use Rattle.mp4_machine.specs.declared.stop.Stop.TheVariants.{Stream}
use Rattle.mp4_machine.proofs.InputLemmas.{GoesOn-after, GoesOn-more, StopsAt-after, StopsAt-take_more, Takes-err, Takes-ok}

-- bytes came, and then a step takes none
pub GoesOn-then : {o o' o'' : Environment} {p q : Continuation} {xs : List ℕ} → p.claim ≤ o.account.live → GoesOn o o' p xs q → (r : Continuation) → GoesOn o' o'' q [] r → GoesOn o o'' p xs r
GoesOn-then {o = o} {o'' = o''} {p = p} {xs = xs} low g r h = subst (λ l. GoesOn o o'' p l r) (append-nil xs) (GoesOn-more {p = p} low g [] r h)

-- ---- bytes come first

-- the same step, begun when this was outside
abbrev pub from_mid : Change → Environment → Change
from_mid a mid = record { before = mid; after = a.after; failed = a.failed; failed' = a.failed' }

-- they move the machine on
pub record Accepts (a : Change) (mid : Environment) (from : Continuation) (bytes : List ℕ) (to : Continuation) : Type 0 where
  pub claim : from.claim ≤ a.before.account.live
  pub goes : GoesOn a.before mid from bytes to

module _ {a : Change} {mid : Environment} {from to : Continuation} where
  -- and then a step that takes none
  pub GoesTo-then : {bytes : List ℕ} {s : Continuation} → Accepts a mid from bytes to → GoesTo (from_mid a mid) to [] s → GoesTo a from bytes s
  GoesTo-then {s = s} x g = record { goes = GoesOn-then x.claim x.goes s g.goes; unfailed = g.unfailed; claim = g.claim }

  pub StopsIn-then : (n : ℕ) (input : List ℕ) {e : Stop} → Accepts a mid from (take n input) to → StopsIn (from_mid a mid) to [] e → StopsIn a from input e
  StopsIn-then n input {e = e} x h = record {
    stops = λ more. StopsAt-take_more {p = from} x.claim n input x.goes a.after more e (h.stops (drop n input ++ more));
    failed = h.failed;
    unfailed = h.unfailed;
  }

-- ---- the same from another place

-- after bytes without effects, where they and the input are taken from an earlier place
module _ {a : Change} {p q : Continuation} (x : List ℕ) (same : q.claim ≡ p.claim) (reads : (later : List ℕ) → p.reads (x ++ later) ≡ q.reads later) where
  pub GoesTo-after : (ys : List ℕ) {s : Continuation} → q.reached ≡ p.reached + length x → GoesTo a p (x ++ ys) s → GoesTo a q ys s
  GoesTo-after ys {s = s} far g = record { goes = GoesOn-after a.before a.after p q x same reads ys s far g.goes; unfailed = g.unfailed; claim = g.claim }

  pub StopsIn-after : {e : Stop} → StopsIn a p x e → StopsIn a q [] e
  StopsIn-after {e = e} h = record {
    stops = λ more. StopsAt-after a.before a.after p q x same reads more e (h.stops more);
    failed = h.failed;
    unfailed = h.unfailed;
  }

-- ---- it stops

-- a fault
pub StopsIn-refused : {a : Change} {from : Continuation} {input : List ℕ} {f : Fault} → a.failed' ≡ a.failed → ((more : List ℕ) → Refuses a.before a.after from (input ++ more) f) → StopsIn a from input (Stream f)
StopsIn-refused unfailed refuses = record { stops = refuses; failed = λ e. absurd cc; unfailed = λ _. unfailed }

-- ---- a call of a machine

pub Takes-goes : {T : Type 0} {a : Change} {old : Continuation} {input : List ℕ} {taken : T → List ℕ} {new : T → Continuation} (t : T) → GoesTo a old (taken t) (new t) → Takes a old input taken new (Ok t)
Takes-goes t g = Takes-ok g.goes g.unfailed

pub Takes-stops : {T : Type 0} {a : Change} {old : Continuation} {input : List ℕ} {taken : T → List ℕ} {new : T → Continuation} (e : Stop) → StopsIn a old input e → Takes a old input taken new (Err e)
Takes-stops e h = Takes-err h.stops h.failed h.unfailed
