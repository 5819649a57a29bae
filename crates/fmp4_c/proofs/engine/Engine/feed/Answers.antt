use Rattle.std.proofs.lemmas.Grind.{common_steps}
use Rattle.std.proofs.Common.{rules, ◌≡◌, ◌∙◌, ◌∷◌, ◌++◌, Some, ap, arith, refl, sym, subst, take}
use Rattle.mp4_machine.specs.Fed.{Borrowed}
use Rattle.fmp4_c.specs.Answers.{answer_to}
use Rattle.fmp4_c.specs.Engines.{Holds, Run, Stopped, held_in}
use Rattle.fmp4_c.specs.Tasks.{fragments_in, task_of}
use Rattle.fmp4_c.specs.declared.task.Task.{Task}
use Rattle.fmp4_c.proofs.HoldLemmas.{after-its, fed, fed-stopped, grows, only-write, task-its, runs-its, stopped, text-its}
use Rattle.fmp4_c.proofs.engine.Engine.feed.Goals as goal

pub returns-in-Err : goal.returns-in-Err
returns-in-Err c =
    let input = take c.portion-taken.result c.args.input.now in
    let p = c.in-Some.feeder in
    let now : Run = record { account = c.self.inside.ledger; feeding = c.self.inside.feeder; waiting = c.self.inside.out; share = c.self.inside.share; reported = c.self.inside.reported; task = c.self.inside.task } in
    rw (c.fed-in-Err.ensures.is, c.of_stop-in-Err.ensures) (record {
      feeds = λ task b given h.
          let next : Run = record { account = c.feed.new.ledger; feeding = Some c.feed.new.self; waiting = c.feed.new.w; share = c.self.inside.share; reported = c.self.inside.reported; task = c.self.inside.task } in
          let l : Borrowed = record {
            written = Some (c.self.inside.out.room ∷ c.self.inside.out.bytes);
            written' = Some (c.feed.new.w.room ∷ c.feed.new.w.bytes);
            whole = fragments_in p;
            whole' = fragments_in c.feed.new.self;
            account = c.self.inside.ledger;
            account' = c.feed.new.ledger;
          } in
          let before : Holds task b given now = subst (λ (r : Run). Holds task b given r) (sym c.self.view_is) h in
          let had = c.self.invariant ∙ ap held_in c.in-Some.is in
          let idle : c.feed.new.ledger.live ≡ 0 = omega (arith, c.in-Err.ensures.live, c.in-Err.ensures.spent, had) in
          let fed = stopped b given input now next p c.feed.new.self l refl c.feed.ensures.task (grows l now next refl refl) (text-its task b given now p c.in-Some.is before) refl idle (after-its task b given now p c.in-Some.is before) refl refl c.in-Err.stop c.in-Err.ensures.stops (c.in-Err.ensures.feeds b (after-its task b given now p c.in-Some.is before)) in
          fed-stopped task (b ++ input) given next c.in-Err.stop (subst (λ (k : Task). Stopped k (b ++ input) given (answer_to c.in-Err.stop) next) (task-its task b given now p c.in-Some.is before) fed);
      portion = search rules;
      stopped = search rules;
      ended = search rules;
      claims = search rules;
      fits = search rules;
      room = search rules;
      no_room = λ task b given h number.
          let before : Holds task b given now = subst (λ (r : Run). Holds task b given r) (sym c.self.view_is) h in
          let until = (c.in-Err.ensures.feeds b (after-its task b given now p c.in-Some.is before)).err.0 in
          let write = only-write (task_of p) b _ _ _ _ c.in-Err.stop until number in
          c.fed-in-Err.ensures.full (c.in-Err.ensures.failed (runs-its task b given now p c.in-Some.is before) write);
      kept = search rules;
    })

pub returns-else-taken-eq0 : goal.returns-else-taken-eq0
returns-else-taken-eq0 c =
    let input = take c.portion-taken.result c.args.input.now in
    let p = c.in-Some.feeder in
    let now : Run = record { account = c.self.inside.ledger; feeding = c.self.inside.feeder; waiting = c.self.inside.out; share = c.self.inside.share; reported = c.self.inside.reported; task = c.self.inside.task } in
    rw c.fed-in-Ok.ensures.is (record {
      feeds = λ task b given h.
          let next : Run = record { account = c.feed.new.ledger; feeding = Some c.feed.new.self; waiting = c.feed.new.w; share = c.self.inside.share; reported = c.self.inside.reported; task = c.self.inside.task } in
          let l : Borrowed = record {
            written = Some (c.self.inside.out.room ∷ c.self.inside.out.bytes);
            written' = Some (c.feed.new.w.room ∷ c.feed.new.w.bytes);
            whole = fragments_in p;
            whole' = fragments_in c.feed.new.self;
            account = c.self.inside.ledger;
            account' = c.feed.new.ledger;
          } in
          let before : Holds task b given now = subst (λ (r : Run). Holds task b given r) (sym c.self.view_is) h in
          let after = after-its task b given now p c.in-Some.is before in
          subst (λ (k : Task). Holds k (b ++ input) given next) (task-its task b given now p c.in-Some.is before)
          (fed b given input now next p c.feed.new.self l refl c.feed.ensures.task (grows l now next refl refl) (text-its task b given now p c.in-Some.is before) (c.in-Ok.ensures.feeds b after));
      portion = λ p' is none. grind (arith, common_steps);
      stopped = search rules;
      ended = search rules;
      claims = search rules;
      fits = search rules;
      room = search rules;
      no_room = search rules;
      kept = search rules;
    })
