use Rattle.std.proofs.lemmas.Grind.{common_steps}
use Rattle.std.proofs.Common.{rules, ℕ, [], ◌≡◌, ◌∙◌, ◌+◌, ◌++◌, Result, Some, ap, arith, length, refl, sym, subst, take}
use Rattle.std.specs.Prelude.{IfErr, OnErr}
use Rattle.mp4_machine.specs.declared.stop.Stop.{Stop}
use Rattle.fmp4_c.specs.Engines.{Holds, IsPortion, Run, Stopped, after_take, free_in, held_in}
use Rattle.fmp4_c.specs.Tasks.{held_by, stop_of}
use Rattle.fmp4_c.specs.declared.answer.Answer.TheVariants.{Done, Full}
use Rattle.fmp4_c.proofs.AheadLemmas.{ahead-err, ahead-ok, portion-after, wrote}
use Rattle.fmp4_c.proofs.HoldLemmas.{after-its, answer-its, fed-stopped, stopped-taken, taken}
use Rattle.fmp4_c.proofs.engine.Engine.feed_take.Goals as goal

pub returns-in-Some-stop : goal.returns-in-Some-stop
returns-in-Some-stop c =
    let old : Run = record { account = c.self.inside.ledger; feeding = c.self.inside.feeder; waiting = c.self.inside.out; share = c.self.inside.share; reported = c.self.inside.reported; task = c.self.inside.task } in
    rw (c.passed-in-Some-stop.ensures.is, c.of_stop.ensures) (record {
      feeds = search rules;
      portion = search rules;
      stopped = λ task b given a h other.
          let next : Run = record { account = c.self.inside.ledger; feeding = Some c.in-Some.feeder; waiting = c.take-first.new.self; share = c.self.inside.share; reported = c.self.inside.reported; task = c.self.inside.task } in
          let before : Stopped task b given a old = subst (λ (r : Run). Stopped task b given a r) (sym c.self.view_is) h in
          let joined = taken given c.self.inside.out.bytes c.take-first.new.out c.take-first.new.self.bytes c.take-first.result c.take-first.ensures.front c.take-first.ensures.left in (
            refl,
            answer-its task b given a old c.in-Some.feeder c.in-Some-stop.stop c.in-Some.is (sym c.stop.ensures ∙ c.in-Some-stop.is) before,
            stopped-taken task b given (given ++ take c.take-first.result c.take-first.new.out) old next joined (sym c.in-Some.is) refl a before,
          );
      ended = search rules;
      records = search rules;
      claims = search rules;
      fits = search rules;
      room = search rules;
      no_room = search rules;
      within = search rules;
      most = λ p is other less. grind (arith, common_steps);
      kept = search rules;
    })

pub returns-then-leaves_all : goal.returns-then-leaves_all
returns-then-leaves_all c =
    let old : Run = record { account = c.self.inside.ledger; feeding = c.self.inside.feeder; waiting = c.self.inside.out; share = c.self.inside.share; reported = c.self.inside.reported; task = c.self.inside.task } in
    rw c.passed-then-leaves_all.ensures.is (record {
      feeds = λ task b given h other.
          let p = c.in-Some.feeder in
          let next : Run = record { account = c.feed_ahead-at.new.ledger; feeding = Some c.feed_ahead-at.new.feeder; waiting = c.give.new.self; share = c.self.inside.share; reported = c.self.inside.reported; task = c.self.inside.task } in
          let before : Holds task b given old = subst (λ (r : Run). Holds task b given r) (sym c.self.view_is) h in
          let feeds = c.feed_ahead-at.ensures.feeds b (after-its task b given old p c.in-Some.is before) in
          let input = take c.portion-portion.result c.args.input.now in
          ahead-ok task b given input old next p c.feed_ahead-at.new.feeder c.in-Some.is refl before c.feed_ahead-at.ensures.task
          feeds.0 feeds.1 c.take-first.new.self.room c.feed_ahead-at.new.rest.room c.take-first.result c.feed_ahead-at.result.at c.give.result c.take-first.new.out c.feed_ahead-at.new.buffer c.give.new.buffer c.take-first.new.self.bytes c.feed_ahead-at.new.rest.bytes c.self.inside.ledger
          c.take-first.ensures.front c.take-first.ensures.left c.give.ensures.front c.give.ensures.left c.feed_ahead-at.result.result c.in-Ok.is feeds.2;
      portion = λ p is none other.
          let taken = c.portion-portion.result in
          let input = c.args.input.now in
          let free : c.saturating_sub-free.result ≡ free_in (length c.args.buffer.now) old = search rules in
          let all = c.leaves_all.ensures.all c.if-leaves_all.true in
          subst (λ (r : Run). IsPortion (free_in (length c.args.buffer.now) r) (after_take (length c.args.buffer.now) r) input taken Full) c.self.view_is
          (subst (λ (n : ℕ). IsPortion n (after_take (length c.args.buffer.now) old) input taken Full) free (portion-after c.saturating_sub-free.result old (length c.args.buffer.now) c.take-first.result c.take-first.new.self.room c.take-first.new.self.bytes input taken Full c.take-first.ensures.count c.take-first.ensures.left c.take-first.ensures.room
          (record {
            filled = λ over. (c.portion-portion.ensures.filled over, λ some. refl);
            share = c.portion-portion.ensures.share;
            done = search rules;
            full = λ f. (all.0, c.portion-portion.ensures.none all.0 all.1, λ e. omega (arith, all.1, ap length e));
          })));
      stopped = search rules;
      ended = search rules;
      records = search rules;
      claims = search rules;
      fits = search rules;
      room = search rules;
      no_room = search rules;
      within = search rules;
      most = λ p is other less. grind (arith, common_steps);
      kept = search rules;
    })

pub returns-else-leaves_all : goal.returns-else-leaves_all
returns-else-leaves_all c =
    let old : Run = record { account = c.self.inside.ledger; feeding = c.self.inside.feeder; waiting = c.self.inside.out; share = c.self.inside.share; reported = c.self.inside.reported; task = c.self.inside.task } in
    rw c.passed-in-Ok.ensures.is (record {
      feeds = λ task b given h other.
          let p = c.in-Some.feeder in
          let next : Run = record { account = c.feed_ahead-at.new.ledger; feeding = Some c.feed_ahead-at.new.feeder; waiting = c.give.new.self; share = c.self.inside.share; reported = c.self.inside.reported; task = c.self.inside.task } in
          let before : Holds task b given old = subst (λ (r : Run). Holds task b given r) (sym c.self.view_is) h in
          let feeds = c.feed_ahead-at.ensures.feeds b (after-its task b given old p c.in-Some.is before) in
          let input = take c.portion-portion.result c.args.input.now in
          ahead-ok task b given input old next p c.feed_ahead-at.new.feeder c.in-Some.is refl before c.feed_ahead-at.ensures.task
          feeds.0 feeds.1 c.take-first.new.self.room c.feed_ahead-at.new.rest.room c.take-first.result c.feed_ahead-at.result.at c.give.result c.take-first.new.out c.feed_ahead-at.new.buffer c.give.new.buffer c.take-first.new.self.bytes c.feed_ahead-at.new.rest.bytes c.self.inside.ledger
          c.take-first.ensures.front c.take-first.ensures.left c.give.ensures.front c.give.ensures.left c.feed_ahead-at.result.result c.in-Ok.is feeds.2;
      portion = λ p is none other.
          let taken = c.portion-portion.result in
          let input = c.args.input.now in
          let free : c.saturating_sub-free.result ≡ free_in (length c.args.buffer.now) old = search rules in
          let nothing : taken ≡ 0 → input ≡ [] = c.leaves_all.ensures.none c.if-leaves_all.false in
          subst (λ (r : Run). IsPortion (free_in (length c.args.buffer.now) r) (after_take (length c.args.buffer.now) r) input taken Done) c.self.view_is
          (subst (λ (n : ℕ). IsPortion n (after_take (length c.args.buffer.now) old) input taken Done) free (portion-after c.saturating_sub-free.result old (length c.args.buffer.now) c.take-first.result c.take-first.new.self.room c.take-first.new.self.bytes input taken Done c.take-first.ensures.count c.take-first.ensures.left c.take-first.ensures.room
          (record {
            filled = λ over. (c.portion-portion.ensures.filled over, λ some. absurd (some (nothing (c.portion-portion.ensures.filled over))));
            share = c.portion-portion.ensures.share;
            done = λ d. nothing;
            full = search rules;
          })));
      stopped = search rules;
      ended = search rules;
      records = search rules;
      claims = search rules;
      fits = search rules;
      room = search rules;
      no_room = search rules;
      within = search rules;
      most = λ p is other less. grind (arith, common_steps);
      kept = search rules;
    })

pub returns-in-Err : goal.returns-in-Err
returns-in-Err c =
    let old : Run = record { account = c.self.inside.ledger; feeding = c.self.inside.feeder; waiting = c.self.inside.out; share = c.self.inside.share; reported = c.self.inside.reported; task = c.self.inside.task } in
    rw (c.passed-in-Err.ensures.is, c.of_stop-in-Err.ensures) (record {
      feeds = λ task b given h other.
          let p = c.in-Some.feeder in
          let next : Run = record { account = c.feed_ahead-at.new.ledger; feeding = Some c.feed_ahead-at.new.feeder; waiting = c.give.new.self; share = c.self.inside.share; reported = c.self.inside.reported; task = c.self.inside.task } in
          let before : Holds task b given old = subst (λ (r : Run). Holds task b given r) (sym c.self.view_is) h in
          let feeds = c.feed_ahead-at.ensures.feeds b (after-its task b given old p c.in-Some.is before) in
          let input = take c.portion-portion.result c.args.input.now in
          let had = c.self.invariant ∙ ap held_in c.in-Some.is in
          let stops = subst (λ (z : Result (Unit {0}) Stop). IfErr z (λ e. stop_of c.feed_ahead-at.new.feeder ≡ Some e)) c.in-Err.is c.feed_ahead-at.ensures.stops in
          let spent = subst (λ (z : Result (Unit {0}) Stop). OnErr z (held_by c.feed_ahead-at.new.feeder ≡ 0)) c.in-Err.is c.feed_ahead-at.ensures.spent in
          let idle : c.feed_ahead-at.new.ledger.live ≡ 0 = omega (arith, c.feed_ahead-at.ensures.live, spent, had) in
          fed-stopped task (b ++ input) (given ++ take (c.feed_ahead-at.result.at + c.give.result) c.give.new.buffer) next c.in-Err.stop (
          ahead-err task b given input old next p c.feed_ahead-at.new.feeder c.in-Some.is refl before c.feed_ahead-at.ensures.task
          feeds.0 feeds.1 c.take-first.new.self.room c.feed_ahead-at.new.rest.room c.take-first.result c.feed_ahead-at.result.at c.give.result c.take-first.new.out c.feed_ahead-at.new.buffer c.give.new.buffer c.take-first.new.self.bytes c.feed_ahead-at.new.rest.bytes c.self.inside.ledger
          c.take-first.ensures.front c.take-first.ensures.left c.give.ensures.front c.give.ensures.left c.in-Err.stop stops idle c.feed_ahead-at.result.result c.in-Err.is feeds.2);
      portion = search rules;
      stopped = search rules;
      ended = search rules;
      records = search rules;
      claims = search rules;
      fits = search rules;
      room = search rules;
      no_room = λ task b given h number.
          let p = c.in-Some.feeder in
          let before : Holds task b given old = subst (λ (r : Run). Holds task b given r) (sym c.self.view_is) h in
          let after = after-its task b given old p c.in-Some.is before in
          let feeds = c.feed_ahead-at.ensures.feeds b after in
          let input = take c.portion-portion.result c.args.input.now in
          let write = wrote b input p c.feed_ahead-at.new.feeder _ c.feed_ahead-at.result.result c.in-Err.stop c.in-Err.is feeds.2 number in
          let full = c.feed_ahead-at.ensures.full b after write in
          (grind (arith, rules, full.0), search (rules, full.1));
      within = search rules;
      most = λ p is other less. grind (arith, common_steps);
      kept = search rules;
    })
