use Rattle.std.proofs.Common.{◌≡◌, ◌∙◌, ◌+◌, ◌<◌, ◌++◌, ◌∷◌, [], ℕ, List, length, take, get_or, ap, sym, arith, append-nil, append_assoc}
use Rattle.std.proofs.lemmas.List.{take_more}
use Rattle.mp4_box.proofs.HeaderLemmas.{is_cut, need_more}
use Rattle.mp4_machine.proofs.header_bytes.take_head.Goals as goal

-- one byte more
one_more : (old new next input : List ℕ) (n : ℕ) → n < length input → new ≡ old ++ take n input → next ≡ new ++ get_or input n 0 ∷ [] → next ≡ old ++ take (n + 1) input
one_more old new next input n h e f = f ∙ ap (λ l. l ++ get_or input n 0 ∷ []) e ∙ append_assoc old (take n input) (get_or input n 0 ∷ []) ∙ ap (λ l. old ++ l) (sym (take_more input n 0 h))

pub loop-count-init : goal.loop-count-init
loop-count-init c = record { within = omega arith; bytes = sym (append-nil c.args.header_bytes.now); short = c.requires.short }

pub feed-step-requires : goal.feed-step-requires
feed-step-requires c = c.loop-count.invariant.short

pub returns-then-not-is_more-clause-bytes : goal.returns-then-not-is_more-clause-bytes
returns-then-not-is_more-clause-bytes c =
    one_more c.args.header_bytes.now c.loop-count.header_bytes c.feed-step.new.self c.args.input.now c.loop-count.count c.loop-count-test.true c.loop-count.invariant.bytes c.feed-step.ensures.bytes

pub returns-then-not-is_more-clause-len : goal.returns-then-not-is_more-clause-len
returns-then-not-is_more-clause-len c =
    rw c.feed-step.ensures.bytes (need_more c.loop-count.header_bytes (get_or c.args.input.now c.loop-count.count 0) c.loop-count.invariant.short)

pub loop-count-preserved : goal.loop-count-preserved
loop-count-preserved c = record {
  within = omega (arith, c.loop-count-test.true);
  bytes = one_more c.args.header_bytes.now c.loop-count.header_bytes c.feed-step.new.self c.args.input.now c.loop-count.count c.loop-count-test.true c.loop-count.invariant.bytes c.feed-step.ensures.bytes;
  short = c.feed-step.ensures.more.0 (c.is_more.ensures.0 c.if-not-is_more.false);
}

pub returns-clause-bytes : goal.returns-clause-bytes
returns-clause-bytes c = c.loop-count.invariant.bytes

pub returns-clause-count : goal.returns-clause-count
returns-clause-count c = (omega (arith, c.loop-count-test.false, c.requires.some), c.loop-count.invariant.within)

pub returns-clause-step : goal.returns-clause-step
returns-clause-step c = sym (is_cut c.loop-count.header_bytes c.loop-count.invariant.short)

pub returns-clause-more : goal.returns-clause-more
returns-clause-more c = λ _. c.loop-count.invariant.short

pub returns-clause-len : goal.returns-clause-len
returns-clause-len c = omega (arith, c.loop-count.invariant.short)

pub returns-clause-all : goal.returns-clause-all
returns-clause-all c = λ _. omega (arith, c.loop-count-test.false, c.loop-count.invariant.within)
