use Rattle.std.proofs.Common.{subst, sym, arith, List}
use Rattle.mp4_pieces.specs.declared.piece.Piece.{Piece}
use Rattle.mp4_cut.proofs.GroupLemmas.{IsCounted, counted_all, counted_more, counted_most, counted_none}
use Rattle.mp4_cut.proofs.sidx.group_len.Goals as goal

pub loop-init : goal.loop-init
loop-init c = record {
  counted = subst (λ (ps : List Piece). IsCounted c.args.pieces ps 0) (sym c.into_iter-iterator.ensures.into_iter_gives) (counted_none c.args.pieces);
  few = omega arith;
}

pub returns-then-count : goal.returns-then-count
returns-then-count c = counted_most c.args.pieces c.loop.iterator' c.loop.count c.loop.invariant.counted c.if-count.true

pub loop-preserved : goal.loop-preserved
loop-preserved c = record {
  counted = counted_more c.args.pieces c.loop.iterator' c.next.new.self c.in-Some.field-0 c.loop.count c.loop.invariant.counted c.in-Some.ensures.steps;
  few = omega (arith, c.loop.invariant.few);
}

pub returns : goal.returns
returns c = counted_all c.args.pieces c.loop.iterator' c.loop.count c.loop.invariant.counted c.in-None.ensures.steps.0 c.loop.invariant.few
