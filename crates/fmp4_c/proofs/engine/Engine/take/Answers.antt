use Rattle.std.proofs.Common.{refl, subst, take, rules}
use Rattle.fmp4_c.specs.Engines.{Gives, Run}
use Rattle.fmp4_c.proofs.HoldLemmas.{gives-none, gives-out}
use Rattle.fmp4_c.proofs.engine.Engine.take.Goals as goal

pub returns-then-lists_records : goal.returns-then-lists_records
returns-then-lists_records c = rw c.of_records.ensures (record { gives = gives-none c.args.self.now; done = search rules; rest = refl; records = search rules })

pub returns : goal.returns
returns c =
    let now : Run = record { account = c.self.inside.ledger; feeding = c.self.inside.feeder; waiting = c.self.inside.out; share = c.self.inside.share; reported = c.self.inside.reported; task = c.self.inside.task } in
    let next : Run = record { account = c.self.inside.ledger; feeding = c.self.inside.feeder; waiting = c.take.new.self; share = c.self.inside.share; reported = c.self.inside.reported; task = c.self.inside.task } in
    let n = c.take.result in
    rw c.of_bytes.ensures (record {
      gives = subst (λ (r : Run). Gives n (take n c.take.new.out) r next) c.self.view_is (gives-out n (take n c.take.new.out) now next c.take.ensures.front c.take.ensures.left (refl, c.take.ensures.room, refl, refl, refl, refl));
      done = search rules;
      rest = c.take.ensures.rest;
      records = search rules;
    })
