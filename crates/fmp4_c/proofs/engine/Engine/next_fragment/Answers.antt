use Rattle.std.proofs.Common.{◌≡◌, ◌≤◌, ◌∙◌, ℕ, List, ◌++◌, [], ap, arith, drop, length, refl, rules, subst, take, ◌<◌}
use Rattle.mp4_grammar.specs.TrafRecords.{record_bytes, record_len, record_of}
use Rattle.fmp4_c.specs.Engines.{Gives, Run}
use Rattle.fmp4_c.proofs.HoldLemmas.{gives-out}
use Rattle.fmp4_c.proofs.RecordLemmas.{front_is, front_of, no_less}
use Rattle.fmp4_c.proofs.engine.Engine.next_fragment.Goals as goal

pub returns-then-len-lt-RECORD_BYTES : goal.returns-then-len-lt-RECORD_BYTES
returns-then-len-lt-RECORD_BYTES c =
    let few : length c.args.self.now.waiting.bytes < record_len = omega (arith, c.len.ensures.len, c.if-len-lt-RECORD_BYTES.true, ap (λ (r : Run). length r.waiting.bytes) c.self.view_is) in
    record {
      gives = λ records some. absurd (omega (arith, few, some));
      again = λ t rest is_record task is. absurd (no_less t rest c.args.self.now.waiting.bytes is few);
      none = search rules;
      other = search rules;
      kept = search rules;
    }

pub returns : goal.returns
returns c =
    let now : Run = record { account = c.self.inside.ledger; feeding = c.self.inside.feeder; waiting = c.self.inside.out; share = c.self.inside.share; reported = c.self.inside.reported; task = c.self.inside.task } in
    let next : Run = record { account = c.self.inside.ledger; feeding = c.self.inside.feeder; waiting = c.take.new.self; share = c.self.inside.share; reported = c.self.inside.reported; task = c.self.inside.task } in
    let bytes : c.self.inside.out.bytes ≡ c.args.self.now.waiting.bytes = ap (λ (r : Run). r.waiting.bytes) c.self.view_is in
    record {
      gives = λ records some.
          let there : record_len ≤ length c.self.inside.out.bytes = omega (arith, ap (λ (x : List ℕ). length x) bytes, some) in
          let whole : c.take.result ≡ record_len = omega (arith, c.take.ensures.count, there) in
          let out = front_of c.self.inside.out.bytes c.take.new.out c.take.result (search rules) c.take.ensures.count there c.take.ensures.front in
          let left : c.take.new.self.bytes ≡ drop record_len c.self.inside.out.bytes = c.take.ensures.left ∙ ap (λ (k : ℕ). drop k c.self.inside.out.bytes) whole in (
            refl,
            c.of_bytes.ensures.record ∙ ap record_of (out ∙ ap (take record_len) bytes),
            subst (λ (r : Run). Gives record_len (take record_len r.waiting.bytes) r next) c.self.view_is (gives-out record_len (take record_len c.self.inside.out.bytes) now next refl left (refl, c.take.ensures.room, refl, refl, refl, refl)),
          );
      again = λ t rest is_record task is.
          let its : c.self.inside.out.bytes ≡ record_bytes t ++ rest = bytes ∙ is in
          c.of_bytes.ensures.again t [] is_record (front_is t rest c.self.inside.out.bytes c.take.new.out c.take.result (search rules) c.take.ensures.count c.take.ensures.front its);
      none = search rules;
      other = search rules;
      kept = search rules;
    }
