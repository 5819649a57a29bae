-- What one call puts after another.
use Rattle.std.proofs.Common.{◌≡◌, ℕ, List, [], ◌++◌, length, take, drop, Bool, Option, ap, ◌∙◌, append_assoc, take-append-drop, refl, subst}
use Rattle.std.specs.Prelude.{Result, Ok, Err}
use Rattle.mp4_ends.specs.Streams.{AppendsPrefix}
use Rattle.mp4_machine.specs.Blocks.{IsSent, Pending, unused}
use Rattle.mp4_machine.specs.Ends.{Sent}
use Rattle.mp4_machine.specs.Puts.{HasFailed, HasFailedIn, HasPut, HasWritten, Puts, PutsMarked}
use Rattle.mp4_machine.specs.Readings.{moved}
use Rattle.mp4_machine.specs.declared.fragment_end.FragmentEnd.{FragmentEnd}
use Rattle.mp4_machine.proofs.BlockLemmas.{Appends-passed, AppendsPrefix-broken, Breaks-front, Breaks-sent_on, BreaksMarked-longer, BreaksMarked-passed, Passes-none, Passes-sent_on, PassesMarked-more}

-- a sink that took these bytes and then those, and had failed and has
abbrev pub sink : (a b : Option (List ℕ)) (f g : Bool) → Sent
sink a b f g = record { written = a; written' = b; failed = f; failed' = g }

-- nothing was put
pub HasPut-none : (a : Option (List ℕ)) (f : Bool) (v : Pending) → HasPut (sink a a f f) v v [] []
HasPut-none a f v = record { passes = Passes-none a v; unfailed = refl }

-- the sink failed in a front of a text
pub HasFailed-front : {s : Sent} {v w : Pending} (text rest whole : List ℕ) → text ++ rest ≡ whole → HasFailed s v w text [] → HasFailed s v w whole []
HasFailed-front text rest whole e p = record { breaks = Breaks-front text rest whole e p.breaks; failed = p.failed }

-- and of a longer one, whatever marks the rest has
pub HasFailed-longer : {s : Sent} {v w : Pending} {text : List ℕ} {xs : List FragmentEnd} (rest : List ℕ) (ys : List FragmentEnd) → HasFailed s v w text xs → HasFailed s v w (text ++ rest) (xs ++ moved (length text) ys)
HasFailed-longer rest ys p = record { breaks = BreaksMarked-longer rest ys p.breaks; failed = p.failed }

module _ {a b : Option (List ℕ)} {f g : Bool} {v w : Pending} {s : List ℕ} {xs : List FragmentEnd} (p : HasPut (sink a b f g) v w s xs) where
  -- one text was put after another
  pub HasPut-then : {c : Option (List ℕ)} {h : Bool} {u : Pending} {t : List ℕ} {ys : List FragmentEnd} → HasPut (sink b c g h) w u t ys
      → HasPut (sink a c f h) v u (s ++ t) (xs ++ moved (length s) ys)
  HasPut-then q = record { passes = PassesMarked-more p.passes q.passes; unfailed = q.unfailed ∙ p.unfailed }

  -- one was put, and in the next the sink failed
  pub HasFailed-then : {c : Option (List ℕ)} {h : Bool} {u : Pending} {t : List ℕ} {ys : List FragmentEnd} → HasFailed (sink b c g h) w u t ys
      → HasFailed (sink a c f h) v u (s ++ t) (xs ++ moved (length s) ys)
  HasFailed-then q = record { breaks = BreaksMarked-passed p.passes q.breaks; failed = q.failed }

  -- one or the other
  pub PutsMarked-then : {T E : Type 0} (c : Option (List ℕ)) (h : Bool) (u : Pending) (t : List ℕ) (ys : List FragmentEnd) (r : Result T E) → PutsMarked (sink b c g h) w u t ys r
      → PutsMarked (sink a c f h) v u (s ++ t) (xs ++ moved (length s) ys) r
  PutsMarked-then c h u t ys (Ok x) q = HasPut-then q
  PutsMarked-then c h u t ys (Err x) q = HasFailed-then q

-- text without a mark after another
pub Puts-then : {a b : Option (List ℕ)} {f g : Bool} {v w : Pending} {s : List ℕ} → HasPut (sink a b f g) v w s []
    → {T E : Type 0} (c : Option (List ℕ)) (h : Bool) (u : Pending) (t whole : List ℕ) → s ++ t ≡ whole → (r : Result T E) → Puts (sink b c g h) w u t r
    → Puts (sink a c f h) v u whole r
Puts-then {a = a} {f = f} {v = v} p c h u t whole e r q = subst (λ l. Puts (sink a c f h) v u l r) e (PutsMarked-then p c h u t [] r q)

-- a text is put in two parts
pub cut_on : (n : ℕ) (text rest front later all : List ℕ) → front ≡ take n rest → later ≡ drop n rest → text ++ rest ≡ all → (text ++ front) ++ later ≡ all
cut_on n text rest front later all p q e = append_assoc text front later ∙ ap (λ l. text ++ l) (ap (λ l. l ++ later) p ∙ ap (λ l. take n rest ++ l) q ∙ take-append-drop n rest) ∙ e

-- ---- what is written by way of a new block

-- the sink failed while a text was put
pub HasFailedIn-put : {s : Sent} {v w : Pending} {text : List ℕ} → v ≡ unused → HasFailed s v w text [] → HasFailedIn s text
HasFailedIn-put {s = s} {text = text} new p = record {
  prefix = subst (λ l. AppendsPrefix s.written s.written' (l ++ text)) (ap (λ v. v.bytes) new) (AppendsPrefix-broken p.breaks);
  failed = p.failed;
}

module _ {a b : Option (List ℕ)} {f g : Bool} {v w : Pending} {s : List ℕ} (new : v ≡ unused) (p : HasPut (sink a b f g) v w s []) where
  -- a text was put, and all that waited was sent
  pub HasWritten-sent : {c : Option (List ℕ)} {h : Bool} {u : Pending} → HasPut (sink b c g h) w u [] [] → IsSent u → HasWritten (sink a c f h) s
  HasWritten-sent q sent = record {
    appends = Appends-passed (Passes-sent_on p.passes q.passes) (ap (λ v. v.bytes) new) sent.bytes;
    unfailed = q.unfailed ∙ p.unfailed;
  }

  -- or the sink failed in that
  pub HasFailedIn-sent : {c : Option (List ℕ)} {h : Bool} {u : Pending} → HasFailed (sink b c g h) w u [] [] → HasFailedIn (sink a c f h) s
  HasFailedIn-sent q = HasFailedIn-put new (record { breaks = Breaks-sent_on p.passes q.breaks; failed = q.failed })
