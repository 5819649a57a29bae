-- A buffer that is filled, and the room that comes after it.
use Rattle.std.proofs.Common.{◌≡◌, ◌∙◌, ℕ, ◌+◌, ◌≤◌, List, ◌∷◌, ◌++◌, append_assoc, length, take, drop, min, Bool, true, false, nat_lt, if◌then◌else◌, Some, Result, Ok, Err, ap, arith, refl, subst, sym}
use Rattle.std.proofs.lemmas.Bool.Decides.{nat_tests}
use Rattle.std.specs.Prelude.{IsErrOf}
use Rattle.std.proofs.lemmas.List.{take-append-drop, take_min}
use Rattle.mp4_ledger.specs.Memory.{Account}
use Rattle.mp4_machine.specs.Fed.{Borrowed}
use Rattle.mp4_machine.specs.declared.stop.Stop.{Stop}
use Rattle.mp4_machine.specs.declared.stop.Stop.TheVariants.{Write}
use Rattle.fmp4_c.specs.Answers.{answer_to, number_of}
use Rattle.fmp4_c.specs.Engines.{Holds, IsPortion, Run, Stopped, after_take}
use Rattle.fmp4_c.specs.PendingOutput.{PendingOutput, ahead, is_full}
use Rattle.fmp4_c.specs.Tasks.{Feeds, fragments_in, held_by, stop_of, sums_of, task_of}
use Rattle.fmp4_c.specs.declared.answer.Answer.{Answer}
use Rattle.fmp4_c.specs.declared.answer.Answer.TheVariants.{NoRoom}
use Rattle.fmp4_c.specs.declared.task.Task.{Task}
use Rattle.fmp4_c.specs.declared.task_feeder.TaskFeeder.{TaskFeeder}
use Rattle.fmp4_c.proofs.HoldLemmas.{Grows, after-its, fed, head-is, holds-taken, only-write, task-its, stopped, stopped-taken, tail-is, text-its}

-- what a Feeder borrows where its output goes there
abbrev pub into : (x y room room' at at' : ℕ) → (filled filled' waiting waiting' : List ℕ) → (whole whole' : ℕ) → (account account' : Account) → Borrowed
into x y room room' at at' filled filled' waiting waiting' whole whole' account account' = record {
  written = Some (ahead x y room at filled waiting);
  written' = Some (ahead x y room' at' filled' waiting');
  whole = whole;
  whole' = whole';
  account = account;
  account' = account';
}

-- where both are full, the buffer is filled to its end
pub at-end : (at len : ℕ) (failed : Bool) → is_full at len failed ≡ true → (len ≤ at) × (failed ≡ true)
at-end at len failed full = by (nat_lt at len) refl
  where
    by : (u : Bool) → nat_lt at len ≡ u → (len ≤ at) × (failed ≡ true)
    by true e =
        let wrong : false ≡ true = sym (ap (λ (u : Bool). if u then false else failed) e) ∙ full in
        absurd cc
    by false e = (grind (arith, nat_tests, e), sym (ap (λ (u : Bool). if u then false else failed) e) ∙ full)

-- nothing but a failed write has the number of want of room
pub wrote : (b input : List ℕ) (p p' : TaskFeeder) (l : Borrowed) (result : Result (Unit {0}) Stop) (e : Stop) → result ≡ Err e → Feeds {T = Unit {0}} b input p p' l result → number_of (answer_to e) ≡ number_of NoRoom → IsErrOf {T = Unit {0}} result Write
wrote b input p p' l result e is feeds number =
    let fed : Feeds {T = Unit {0}} b input p p' l (Err e) = subst (λ (z : Result (Unit {0}) Stop). Feeds {T = Unit {0}} b input p p' l z) is feeds in
    subst (λ (z : Result (Unit {0}) Stop). IsErrOf {T = Unit {0}} z Write) (sym is) (only-write (task_of p) b input l (held_by p) (sums_of p') e fed.err.0 number)

-- up to where it is filled, as far as it goes
pub moved : (b input : List ℕ) (p p' : TaskFeeder) (x y room room' last-room at at' n most : ℕ) (filled filled' last waiting waiting' last-waiting : List ℕ) (whole whole' : ℕ) (account account' : Account) (r : Result (Unit {0}) Stop)
    → Feeds {T = Unit {0}} b input p p' (into x y room room' at at' filled filled' waiting waiting' whole whole' account account') r
    → last ≡ filled' → last-room ≡ room' → last-waiting ≡ waiting' → n ≡ min at' most → most ≡ length last
    → Feeds {T = Unit {0}} b input p p' (into x y room last-room at n filled last waiting last-waiting whole whole' account account') r
moved b input p p' x y room room' last-room at at' n most filled filled' last waiting waiting' last-waiting whole whole' account account' r feeds same-bytes same-room same-waiting is all =
    let front : take n last ≡ take at' filled' = ap (λ k. take k last) is ∙ ap (λ k. take (min at' k) last) all ∙ take_min at' last ∙ ap (λ (l : List ℕ). take at' l) same-bytes in
    let bytes : ahead x y last-room n last last-waiting ≡ ahead x y room' at' filled' waiting' = rw (same-room, same-waiting, front) refl in
    subst (λ (o : List ℕ). Feeds {T = Unit {0}} b input p p' (record { written = Some (ahead x y room at filled waiting); written' = Some o; whole = whole; whole' = whole'; account = account; account' = account' }) r) (sym bytes) feeds

-- what waits is given first, then the input is fed, and then more is given
module _ (task : Task) (b given input : List ℕ) (r r' : Run) (p p' : TaskFeeder) (is : r.feeding ≡ Some p) (is' : r'.feeding ≡ Some p') (h : Holds task b given r) (same : task_of p' ≡ task_of p)
    (x y room room' first at n : ℕ) (filled filled' last waiting waiting' : List ℕ) (account : Account)
    (front : take first filled ≡ take first r.waiting.bytes) (left : waiting ≡ drop first r.waiting.bytes)
    (front' : take (at + n) last ≡ take at filled' ++ take n waiting') (left' : r'.waiting.bytes ≡ drop n waiting') where
  abbrev l : Borrowed
  l = into x y room room' first at filled filled' waiting waiting' (fragments_in p) (fragments_in p') account r'.account

  abbrev before : Run
  before = record { account = r.account; feeding = r.feeding; waiting = record { bytes = take first filled ++ waiting; room = room; failed = r.waiting.failed }; share = r.share; reported = r.reported; task = r.task }

  abbrev after : Run
  after = record { account = r'.account; feeding = r'.feeding; waiting = record { bytes = take at filled' ++ waiting'; room = room'; failed = r'.waiting.failed }; share = r'.share; reported = r'.reported; task = r'.task }

  grown : Grows l before after
  grown more a =
      let two = tail-is y y (room' ∷ (take at filled' ++ waiting')) (room ∷ ((take first filled ++ waiting) ++ more)) (tail-is x x (y ∷ room' ∷ (take at filled' ++ waiting')) (y ∷ room ∷ ((take first filled ++ waiting) ++ more)) a) in (
        head-is room' room (take at filled' ++ waiting') ((take first filled ++ waiting) ++ more) two,
        tail-is room' room (take at filled' ++ waiting') ((take first filled ++ waiting) ++ more) two,
      )

  had : take first filled ++ waiting ≡ r.waiting.bytes
  had = ap (λ (z : List ℕ). z ++ waiting) front ∙ ap (λ (z : List ℕ). take first r.waiting.bytes ++ z) left ∙ take-append-drop first r.waiting.bytes

  held : Holds task b given before
  held = record { feeding = h.feeding; runs = h.runs; is_task = h.is_task; is_after = h.is_after; text = ap (λ (z : List ℕ). given ++ z) had ∙ h.text }

  joined : (given ++ take (at + n) last) ++ r'.waiting.bytes ≡ given ++ (take at filled' ++ waiting')
  joined =
      ap (λ (z : List ℕ). (given ++ z) ++ r'.waiting.bytes) front'
      ∙ ap (λ (z : List ℕ). (given ++ (take at filled' ++ take n waiting')) ++ z) left'
      ∙ append_assoc given (take at filled' ++ take n waiting') (drop n waiting')
      ∙ ap (λ (z : List ℕ). given ++ z) (append_assoc (take at filled') (take n waiting') (drop n waiting') ∙ ap (λ (z : List ℕ). take at filled' ++ z) (take-append-drop n waiting'))

  pub ahead-ok : (result : Result (Unit {0}) Stop) → result ≡ Ok tt → Feeds {T = Unit {0}} b input p p' l result → Holds task (b ++ input) (given ++ take (at + n) last) r'
  ahead-ok result done reported =
      let feeds : Feeds {T = Unit {0}} b input p p' l (Ok tt) = subst (λ (z : Result (Unit {0}) Stop). Feeds {T = Unit {0}} b input p p' l z) done reported in
      let it : Holds (task_of p) (b ++ input) given after = fed b given input before after p p' l is' same grown (text-its task b given before p is held) feeds in
      holds-taken task (b ++ input) given (given ++ take (at + n) last) after r' joined refl (subst (λ (k : Task). Holds k (b ++ input) given after) (task-its task b given r p is h) it)

  pub ahead-err : (e : Stop) → stop_of p' ≡ Some e → r'.account.live ≡ 0 → (result : Result (Unit {0}) Stop) → result ≡ Err e → Feeds {T = Unit {0}} b input p p' l result → Stopped task (b ++ input) (given ++ take (at + n) last) (answer_to e) r'
  ahead-err e stop idle result stopped-by reported =
      let feeds : Feeds {T = Unit {0}} b input p p' l (Err e) = subst (λ (z : Result (Unit {0}) Stop). Feeds {T = Unit {0}} b input p p' l z) stopped-by reported in
      let it : Stopped (task_of p) (b ++ input) given (answer_to e) after = stopped b given input before after p p' l is' same grown (text-its task b given before p is held) refl idle (after-its task b given before p is held) refl refl e stop feeds in
      stopped-taken task (b ++ input) given (given ++ take (at + n) last) after r' joined refl refl (answer_to e) (subst (λ (k : Task). Stopped k (b ++ input) given (answer_to e) after) (task-its task b given r p is h) it)

-- how much is taken of the input follows from what waits once so much of it was given
pub portion-after : (free : ℕ) (r : Run) (n first room : ℕ) (rest input : List ℕ) (taken : ℕ) (answer : Answer) → first ≡ min n (length r.waiting.bytes) → rest ≡ drop first r.waiting.bytes → room ≡ r.waiting.room
    → IsPortion free (record { account = r.account; feeding = r.feeding; waiting = record { bytes = rest; room = room; failed = r.waiting.failed }; share = r.share; reported = r.reported; task = r.task }) input taken answer
    → IsPortion free (after_take n r) input taken answer
portion-after free r n first room rest input taken answer count left same is =
    let bytes : rest ≡ drop (min n (length r.waiting.bytes)) r.waiting.bytes = left ∙ ap (λ k. drop k r.waiting.bytes) count in
    let waits : PendingOutput = record { bytes = rest; room = room; failed = r.waiting.failed } in
    subst (λ (w : PendingOutput). IsPortion free (record { account = r.account; feeding = r.feeding; waiting = w; share = r.share; reported = r.reported; task = r.task }) input taken answer) (rw (bytes, same) refl) is
