-- What a Feeder's calls do to what an engine is.
use Rattle.std.proofs.Common.{◌≡◌, ◌∙◌, ℕ, ◌+◌, List, ◌∷◌, ◌++◌, append_assoc, length, length-append, take, drop, Option, Some, None, Ok, Err, refl, sym, ap, subst, arith, []}
use Rattle.std.proofs.lemmas.List.{take-append-drop}
use Rattle.std.proofs.lemmas.Option.{none-some}
use Rattle.std.specs.Io.KnownBytes.{Appends}
use Rattle.std.specs.Prelude.{IsErrOf}
use Rattle.mp4_ledger.specs.Memory.{Account}
use Rattle.mp4_machine.specs.Fed.{AllWhole, FedUntil, Borrowed, ClaimRefusedAfter, Sums, WritesRest}
use Rattle.mp4_box.specs.declared.rules.Fault as faults
use Rattle.mp4_machine.specs.Readings.{Effects, both, whole_in, fault_in as faults_in}
use Rattle.mp4_machine.specs.declared.stop.Stop.{Stop}
use Rattle.mp4_machine.specs.declared.stop.Stop.TheVariants.{Stream, Read, Write, OverLimit, Memory}
use Rattle.mp4_machine.proofs.MarkLemmas.{whole_in-before, whole_in-both}
use Rattle.mp4_recut.specs.Operations.{reads_of}
use Rattle.mp4_stream.specs.declared.totals.Totals.{Totals}
use Rattle.fmp4_c.specs.Answers.{Counted, answer_to, counted_of, fault_of, number_of, report_from}
use Rattle.fmp4_c.specs.Calls.{Returns}
use Rattle.fmp4_c.specs.Engines.{ChangesOutput, Gives, Fed, Finished, Holds, IsRefused, Run, Stopped, StopsIn, counted_in, report_of}
use Rattle.fmp4_c.specs.Tasks.{Feeds, Finishes, IsAfter, WritesBefore, fragments_in, held_by, live, reading_of, stop_of, sums_of, task_of, totals_of}
use Rattle.fmp4_c.specs.declared.answer.Answer.{Answer}
use Rattle.fmp4_c.specs.declared.answer.Answer.TheVariants.{Done, NoRoom}
use Rattle.fmp4_c.specs.declared.report.Report.{Report}
use Rattle.fmp4_c.specs.declared.task.Task.{Task}
use Rattle.fmp4_c.specs.declared.task_feeder.TaskFeeder.{TaskFeeder}
use Rattle.fmp4_c.specs.declared.task_feeder.TaskFeeder.TheVariants.{Fragments, Boxes}

pub some-is : {A : Type 0} (x y : A) → ◌≡◌ {A = Option A} (Some x) (Some y) → x ≡ y
some-is x y h = cc

pub head-is : (x y : ℕ) (xs ys : List ℕ) → ◌≡◌ {A = List ℕ} (x ∷ xs) (y ∷ ys) → x ≡ y
head-is x y xs ys h = cc

pub tail-is : (x y : ℕ) (xs ys : List ℕ) → ◌≡◌ {A = List ℕ} (x ∷ xs) (y ∷ ys) → xs ≡ ys
tail-is x y xs ys h = cc

-- ---- the Feeder of an engine that holds so

module _ (task : Task) (b given : List ℕ) (r : Run) (p : TaskFeeder) (is : r.feeding ≡ Some p) (h : Holds task b given r) where
  its : h.feeding ≡ p
  its = some-is h.feeding p (sym h.runs ∙ is)

  pub after-its : IsAfter p b
  after-its = subst (λ (x : TaskFeeder). IsAfter x b) its h.is_after

  pub task-its : task_of p ≡ task
  task-its = sym (ap (λ (x : TaskFeeder). task_of x) its) ∙ h.is_task

  pub text-its : given ++ r.waiting.bytes ≡ live (task_of p) b
  text-its = h.text ∙ ap (λ (k : Task). live k b) (sym task-its)

  pub runs-its : stop_of p ≡ None
  runs-its = after-its.running

-- ---- the input was fed

-- the room is the same after a write, and the bytes that wait grow by those that were written
abbrev pub Grows : (l : Borrowed) → (r r' : Run) → Type 0
Grows l r r' = (more : List ℕ) → Appends l.written l.written' more → (r'.waiting.room ≡ r.waiting.room) × (r'.waiting.bytes ≡ r.waiting.bytes ++ more)

-- where the bytes that a sink has are those that wait, after the room
pub grows : (l : Borrowed) (r r' : Run) → l.written ≡ Some (r.waiting.room ∷ r.waiting.bytes) → l.written' ≡ Some (r'.waiting.room ∷ r'.waiting.bytes) → Grows l r r'
grows l r r' here there = λ more a.
    let grown : Appends (Some (r.waiting.room ∷ r.waiting.bytes)) (Some (r'.waiting.room ∷ r'.waiting.bytes)) more = subst (λ (o : Option (List ℕ)). Appends (Some (r.waiting.room ∷ r.waiting.bytes)) o more) there (subst (λ (o : Option (List ℕ)). Appends o l.written' more) here a) in (
      head-is r'.waiting.room r.waiting.room r'.waiting.bytes (r.waiting.bytes ++ more) grown,
      tail-is r'.waiting.room r.waiting.room r'.waiting.bytes (r.waiting.bytes ++ more) grown,
    )

module _ (b given input : List ℕ) (r r' : Run) (p p' : TaskFeeder) (l : Borrowed) (is' : r'.feeding ≡ Some p') (same : task_of p' ≡ task_of p) (grown : Grows l r r') where
  same-room : (more : List ℕ) → Appends l.written l.written' more → r'.waiting.room ≡ r.waiting.room
  same-room more a = (grown more a).0

  module _ (text : given ++ r.waiting.bytes ≡ live (task_of p) b) where
    joined : (more : List ℕ) → Appends l.written l.written' more → given ++ r'.waiting.bytes ≡ live (task_of p) b ++ more
    joined more a =
        ap (λ (x : List ℕ). given ++ x) (grown more a).1 ∙ sym (append_assoc given r.waiting.bytes more) ∙ ap (λ (x : List ℕ). x ++ more) text

    by-text : (own own' : ℕ) (reported : WritesRest (reading_of (task_of p)) b (b ++ input) l own own') → given ++ r'.waiting.bytes ≡ live (task_of p) (b ++ input)
    by-text own own' reported = joined reported.effects.text reported.text ∙ ap (λ (e : Effects). e.text) (sym reported.all)

    -- no fault is decided
    pub fed : Feeds {T = Unit {0}} b input p p' l (Ok tt) → Holds (task_of p) (b ++ input) given r'
    fed feeds = record {
      feeding = p';
      runs = is';
      is_task = same;
      is_after = feeds.ok.0;
      text = by-text (held_by p) (held_by p') feeds.ok.1;
    }

    abbrev refused : (s : ClaimRefusedAfter (reading_of (task_of p)) b (b ++ input) l (held_by p) (sums_of p')) → live (task_of p) (take s.request.at (b ++ input)) ≡ live (task_of p) b ++ s.effects.text → IsRefused (task_of p) (b ++ input) given p' r'
    refused s before = record {
      request = s.request;
      earlier = (both (reading_of (task_of p) b).effects s.effects).requests;
      later = s.requested.0;
      requests = s.requested.1;
      text = joined s.effects.text s.text ∙ sym before;
      sums = s.sums;
    }

    -- it stopped
    module _ (account : l.account' ≡ r'.account) (idle : r'.account.live ≡ 0) where
      same-limit : l.account'.limit ≡ r'.account.limit
      same-limit = ap (λ (a : Account). a.limit) account

      same-live : l.account'.live ≡ r'.account.live
      same-live = ap (λ (a : Account). a.live) account

      stops-in : (e : Stop) (until : FedUntil (reading_of (task_of p)) b input l (held_by p) (sums_of p') e) → WritesBefore (task_of p) b input l (held_by p) (sums_of p') e until → StopsIn (task_of p) (b ++ input) given e p' r'
      stops-in (Stream f) until before = record { early = until.1; text = by-text (held_by p) 0 until.0; sums = until.2 }
      stops-in (Read at) until before = absurd until
      stops-in Write until before = record {
        rest = until.text.1;
        text =
            ap (λ (x : List ℕ). x ++ until.text.1) (joined until.text.0 until.text.2)
            ∙ append_assoc (live (task_of p) b) until.text.0 until.text.1
            ∙ ap (λ (x : List ℕ). live (task_of p) b ++ x) (sym until.text.3)
            ∙ ap (λ (e : Effects). e.text) (sym until.all);
        counted = until.most;
        claimed = until.peak_most;
      }
      stops-in OverLimit until before = (refused until.0 before, omega (arith, until.1, same-limit, same-live, idle))
      stops-in Memory until before = (refused until.0 before, omega (arith, until.1, same-limit, same-live, idle))

      -- the fragments that are whole in what was written
      module _ (is_after : IsAfter p b) (before : l.whole ≡ fragments_in p) (after : l.whole' ≡ fragments_in p') where
        abbrev t : Effects
        t = (reading_of (task_of p) b).effects

        at-front : (produced : Effects) (n : ℕ) → whole_in (length t.text + n) 0 (both t produced).fragment_ends ≡ whole_in n l.whole produced.fragment_ends
        at-front produced n = whole_in-both (length t.text) 0 l.whole t.fragment_ends produced.fragment_ends (subst (AllWhole t) (sym before) is_after.fragments) n

        length-joined : (more : List ℕ) → Appends l.written l.written' more → length (given ++ r'.waiting.bytes) ≡ length t.text + length more
        length-joined more a = ap (λ (x : List ℕ). length x) (joined more a) ∙ length-append t.text more

        whole-rest : (reported : WritesRest (reading_of (task_of p)) b (b ++ input) l (held_by p) 0) → fragments_in p' ≡ whole_in (length (given ++ r'.waiting.bytes)) 0 (reading_of (task_of p) (b ++ input)).effects.fragment_ends
        whole-rest reported =
            let long : length (given ++ r'.waiting.bytes) ≡ length t.text + (length reported.effects.text + 0) = omega (arith, length-joined reported.effects.text reported.text) in
            sym after ∙ sym (reported.fragments 0) ∙ sym (at-front reported.effects (length reported.effects.text + 0))
            ∙ ap (λ k. whole_in k 0 (both t reported.effects).fragment_ends) (sym long)
            ∙ ap (λ (e : Effects). whole_in (length (given ++ r'.waiting.bytes)) 0 e.fragment_ends) (sym reported.all)

        whole-refused : (s : ClaimRefusedAfter (reading_of (task_of p)) b (b ++ input) l (held_by p) (sums_of p')) → fragments_in p' ≡ whole_in (length (given ++ r'.waiting.bytes)) 0 (reading_of (task_of p) (b ++ input)).effects.fragment_ends
        whole-refused s =
            let long : length (given ++ r'.waiting.bytes) ≡ s.request.text_before = omega (arith, length-joined s.effects.text s.text, s.placed) in
            let n : s.request.text_before ≡ length t.text + (length s.effects.text + 0) = omega (arith, s.placed) in
            sym after ∙ sym (s.fragments 0) ∙ sym (at-front s.effects (length s.effects.text + 0))
            ∙ ap (λ k. whole_in k 0 (both t s.effects).fragment_ends) (sym n)
            ∙ whole_in-before s.request.text_before 0 (both t s.effects).fragment_ends s.marked.0 (reading_of (task_of p) (b ++ input)).effects.fragment_ends s.marked.1 s.marked.2
            ∙ ap (λ k. whole_in k 0 (reading_of (task_of p) (b ++ input)).effects.fragment_ends) (sym long)

        whole-stopped : (e : Stop) → FedUntil (reading_of (task_of p)) b input l (held_by p) (sums_of p') e → fragments_in p' ≡ whole_in (length (given ++ r'.waiting.bytes)) 0 (reading_of (task_of p) (b ++ input)).effects.fragment_ends
        whole-stopped (Stream f) until = whole-rest until.0
        whole-stopped (Read at) until = absurd until
        whole-stopped Write until =
            sym after ∙ until.fragments ∙ sym (at-front until.effects (length until.text.0))
            ∙ ap (λ k. whole_in k 0 (both t until.effects).fragment_ends) (sym (length-joined until.text.0 until.text.2))
            ∙ ap (λ (e : Effects). whole_in (length (given ++ r'.waiting.bytes)) 0 e.fragment_ends) (sym until.all)
        whole-stopped OverLimit until = whole-refused until.0
        whole-stopped Memory until = whole-refused until.0

        pub stopped : (e : Stop) → stop_of p' ≡ Some e → Feeds {T = Unit {0}} b input p p' l (Err e) → Stopped (task_of p) (b ++ input) given (answer_to e) r'
        stopped e stop feeds = record {
          feeding = p';
          stop = e;
          runs = is';
          is_task = same;
          stops = stop;
          answers = refl;
          written = stops-in e feeds.err.0 feeds.err.1;
          fragments = whole-stopped e feeds.err.0;
        }

-- what a feed that stopped answers
pub fed-stopped : (task : Task) (b given : List ℕ) (r : Run) (e : Stop) → Stopped task b given (answer_to e) r → Fed task b given (answer_to e) r
fed-stopped task b given r (Stream f) h = h
fed-stopped task b given r (Read at) h = h
fed-stopped task b given r Write h = h
fed-stopped task b given r OverLimit h = h
fed-stopped task b given r Memory h = h

-- it has no room only where a write failed
pub only-write : (task : Task) (b input : List ℕ) (l : Borrowed) (own : ℕ) (s : Sums) (e : Stop) → FedUntil (reading_of task) b input l own s e → number_of (answer_to e) ≡ number_of NoRoom → IsErrOf {T = Unit {0}} (Err e) Write
only-write task b input l own s (Stream f) until number = absurd (omega (arith, number))
only-write task b input l own s (Read at) until number = absurd until
only-write task b input l own s Write until number = refl
only-write task b input l own s OverLimit until number = absurd (omega (arith, number))
only-write task b input l own s Memory until number = absurd (omega (arith, number))

-- why it stopped before
pub stop-its : (task : Task) (b given : List ℕ) (a : Answer) (r : Run) (p : TaskFeeder) → r.feeding ≡ Some p → (h : Stopped task b given a r) → stop_of p ≡ Some h.stop
stop-its task b given a r p is h = sym (ap (λ (x : TaskFeeder). stop_of x) (some-is h.feeding p (sym h.runs ∙ is))) ∙ h.stops

pub answer-its : (task : Task) (b given : List ℕ) (a : Answer) (r : Run) (p : TaskFeeder) (e : Stop) → r.feeding ≡ Some p → stop_of p ≡ Some e → Stopped task b given a r → answer_to e ≡ a
answer-its task b given a r p e is stop h = ap answer_to (some-is e h.stop (sym stop ∙ stop-its task b given a r p is h)) ∙ sym h.answers

-- ---- output was taken

-- bytes from the front
pub taken : (given old out left : List ℕ) (n : ℕ) → take n out ≡ take n old → left ≡ drop n old → (given ++ take n out) ++ left ≡ given ++ old
taken given old out left n front rest = rw (front, rest) (append_assoc given (take n old) (drop n old) ∙ ap (λ (x : List ℕ). given ++ x) (take-append-drop n old))

-- what was given out and what waits, joined, are the same
module _ (task : Task) (b given given' : List ℕ) (r r' : Run) (joined : given' ++ r'.waiting.bytes ≡ given ++ r.waiting.bytes) (pushes : r'.feeding ≡ r.feeding) where
  pub holds-taken : Holds task b given r → Holds task b given' r'
  holds-taken h = record { feeding = h.feeding; runs = pushes ∙ h.runs; is_task = h.is_task; is_after = h.is_after; text = joined ∙ h.text }

  module _ (account : r'.account ≡ r.account) (p : TaskFeeder) where
    same-limit-taken : r'.account.limit ≡ r.account.limit
    same-limit-taken = ap (λ (a : Account). a.limit) account

    abbrev refused-taken : IsRefused task b given p r → IsRefused task b given' p r'
    refused-taken h = record { request = h.request; earlier = h.earlier; later = h.later; requests = h.requests; text = joined ∙ h.text; sums = h.sums }

    stops-taken : (e : Stop) → StopsIn task b given e p r → StopsIn task b given' e p r'
    stops-taken (Stream f) h = record { early = h.early; text = joined ∙ h.text; sums = h.sums }
    stops-taken (Read at) h = absurd h
    stops-taken Write h = record { rest = h.rest; text = ap (λ (x : List ℕ). x ++ h.rest) joined ∙ h.text; counted = h.counted; claimed = h.claimed }
    stops-taken OverLimit h = (refused-taken h.0, omega (arith, h.1, same-limit-taken))
    stops-taken Memory h = (refused-taken h.0, omega (arith, h.1, same-limit-taken))

  pub stopped-taken : r'.account ≡ r.account → (a : Answer) → Stopped task b given a r → Stopped task b given' a r'
  stopped-taken account a h = record {
    feeding = h.feeding;
    stop = h.stop;
    runs = pushes ∙ h.runs;
    is_task = h.is_task;
    stops = h.stops;
    answers = h.answers;
    written = stops-taken account h.feeding h.stop h.written;
    fragments = h.fragments ∙ ap (λ (x : List ℕ). whole_in (length x) 0 (reading_of task b).effects.fragment_ends) (sym joined);
  }

-- nothing else was changed
pub gives-out : (n : ℕ) (bytes : List ℕ) (r r' : Run) → bytes ≡ take n r.waiting.bytes → r'.waiting.bytes ≡ drop n r.waiting.bytes → ChangesOutput r r' → Gives n bytes r r'
gives-out n bytes r r' front left kept =
    let joined = λ (given : List ℕ). ap (λ (x : List ℕ). (given ++ x) ++ r'.waiting.bytes) front ∙ taken given r.waiting.bytes r.waiting.bytes r'.waiting.bytes n refl left in
    record {
      front = front;
      left = left;
      holds = λ task b given h. holds-taken task b given (given ++ bytes) r r' (joined given) kept.0 h;
      stopped = λ task b given a h. stopped-taken task b given (given ++ bytes) r r' (joined given) kept.0 kept.2 a h;
      kept = kept;
    }

pub gives-none : (r : Run) → Gives 0 [] r r
gives-none r = gives-out 0 [] r r refl refl (refl, refl, refl, refl, refl, refl)

-- ---- what is counted

-- how many fragments are whole in the text, where these are all
whole-now : (t : Effects) (fragments : ℕ) → AllWhole t fragments → fragments ≡ whole_in (length t.text) 0 t.fragment_ends
whole-now t fragments h = let all : length t.text + 0 ≡ length t.text = omega arith in sym (h 0) ∙ ap (λ k. whole_in k 0 t.fragment_ends) all

pub totals-are : (p : TaskFeeder) (b : List ℕ) → IsAfter p b → counted_of (totals_of p) ≡ counted_in (task_of p) b
totals-are (Fragments p) b h =
    let t = (reads_of p.operation b).effects in
    let tally : p.machine.counter.tally ≡ t.tally = ap (λ s. s.tally) h.sums in
    let peak = ap (λ s. s.peak) h.sums in
    rw (whole-now t p.fragments h.fragments, tally, peak) refl
totals-are (Boxes f) b h = let peak = ap (λ s. s.peak) h.sums in rw peak refl

-- the report of one that goes on
pub report-holds : (task : Task) (b given : List ℕ) (r : Run) (h : Holds task b given r) → report_of h.feeding ≡ report_from (counted_in task b) None
report-holds task b given r h =
    ap (λ (s : Option Stop). report_from (counted_of (totals_of h.feeding)) (fault_of s)) h.is_after.running
    ∙ ap (λ (t : Counted). report_from t None) (totals-are h.feeding b h.is_after)
    ∙ ap (λ (k : Task). report_from (counted_in k b) None) h.is_task

-- ---- what the end reports

counted-its : (task : Task) (b given : List ℕ) (r : Run) (p : TaskFeeder) → r.feeding ≡ Some p → Holds task b given r → counted_of (totals_of p) ≡ counted_in task b
counted-its task b given r p is h = totals-are p b (after-its task b given r p is h) ∙ ap (λ (k : Task). counted_in k b) (task-its task b given r p is h)

-- where the stream has no fault
pub finished-ok : (task : Task) (b given : List ℕ) (r : Run) (p : TaskFeeder) (t : Totals) (is : r.feeding ≡ Some p) (h : Holds task b given r) → Finishes p b (Ok t) → (report : Report) → report ≡ report_from (counted_of (totals_of p)) None → Finished task b Done report
finished-ok task b given r p t is h ends report reported =
    let here : faults_in (reading_of task b).outcome ≡ None = subst (λ (k : Task). faults_in (reading_of k b).outcome ≡ None) (task-its task b given r p is h) ends in
    record {
      sound = λ none. (refl, reported ∙ ap (λ (t : Counted). report_from t None) (counted-its task b given r p is h));
      faulty = λ fault at. absurd (none-some fault (sym here ∙ at));
    }

-- and where it has one
pub finished-err : (task : Task) (b given : List ℕ) (r : Run) (p : TaskFeeder) (e : Stop) (is : r.feeding ≡ Some p) (h : Holds task b given r) → Finishes p b (Err e) → (report : Report) → report ≡ report_from (counted_of (totals_of p)) (fault_of (Some e)) → Finished task b (answer_to e) report
finished-err task b given r p (Stream f) is h ends report reported =
    let here : faults_in (reading_of task b).outcome ≡ Some f = subst (λ (k : Task). faults_in (reading_of k b).outcome ≡ Some f) (task-its task b given r p is h) ends in
    let counted = counted-its task b given r p is h in
    record {
      sound = λ none. absurd (none-some f (sym none ∙ here));
      faulty = λ fault at. (refl, reported ∙ ap (λ (t : Counted). report_from t (Some f)) counted ∙ ap (λ (x : faults.Fault). report_from (counted_in task b) (Some x)) (some-is f fault (sym here ∙ at)));
    }
finished-err task b given r p (Read at) is h ends report reported = absurd ends
finished-err task b given r p Write is h ends report reported = absurd ends
finished-err task b given r p OverLimit is h ends report reported = absurd ends
finished-err task b given r p Memory is h ends report reported = absurd ends

-- ---- what a handle held is what was in its box

pub in-box : (old before : Option Run) (x y : Run) → Some x ≡ before → before ≡ old → y ≡ x → old ≡ Some y
in-box old before x y opens same is = sym same ∙ sym opens ∙ ap (λ (r : Run). Some r) (sym is)

pub the-run : (old before : Option Run) (x y r : Run) → Some x ≡ before → before ≡ old → y ≡ x → old ≡ Some r → r ≡ y
the-run old before x y r opens same is here = sym (some-is y r (sym (in-box old before x y opens same is) ∙ here))

-- the clauses of a call of an engine, of what the handle holds before and after it
pub handed-back : (clauses : Run → Answer → Run → Type 0) (old before : Option Run) (x y r : Run) → Some x ≡ before → before ≡ old → y ≡ x → old ≡ Some r → (number : ℕ) (answer : Answer) (held : Option Run) (left : Run) → number ≡ number_of answer → held ≡ Some left → clauses y answer left → Returns number held (clauses r)
handed-back clauses old before x y r opens same is here number answer held left returned still does = record {
  answer = answer;
  returned = returned;
  left = left;
  open_still = still;
  does = subst (λ (z : Run). clauses z answer left) (sym (the-run old before x y r opens same is here)) does;
}
