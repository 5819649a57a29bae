use Rattle.std.proofs.Common.{arith, length, rules}
use Rattle.fmp4_c.proofs.AheadLemmas.{at-end, moved}
use Rattle.fmp4_c.proofs.ahead.feed_ahead.Goals as goal

pub returns-clause-feeds : goal.returns-clause-feeds
returns-clause-feeds c = λ b after.
    let same = c.feed_through-result.ensures.same_buffer b after in
    let rest = c.feed_through-result.ensures.same_rest b after in
    let w = c.feed_through-result.new.w in
    (_, _, moved b _ _ _ _ _ _ _ _ c.args.at w.at _ _ c.args.buffer.now w.buffer.now _ c.args.rest.now.bytes w.rest.now.bytes _ _ _ _ _ _ (c.feed_through-result.ensures.feeds b after) (search rules) (search rules) (search rules) c.min.ensures (search rules))

pub returns-clause-full : goal.returns-clause-full
returns-clause-full c = λ b after write.
    let w = c.feed_through-result.new.w in
    let full = at-end w.at (length w.buffer.now) w.rest.now.failed (c.feed_through-result.ensures.full after.running write) in
    (grind (arith, rules, full.0), search (rules, full.1))
