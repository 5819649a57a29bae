use Rattle.std.proofs.Common.{◌∷◌, subst, sym, ◌∙◌}
use Rattle.std.specs.List.{AllByRecursion}
use Rattle.mp4_pieces.specs.Pieces.{IsPieceOf}
use Rattle.mp4_pieces.proofs.PieceLemmas.{pieces_are_of}
use Rattle.bench_jobs.proofs.pieces.put_all.Goals as goal

pub loop-piece-init : goal.loop-piece-init
loop-piece-init c =
    subst (AllByRecursion (IsPieceOf c.args.moof_bytes.now c.args.run.now)) (sym (c.into_iter-piece-iterator.ensures.into_iter_gives ∙ c.of-piece-items.ensures)) (pieces_are_of c.args.cut.now c.args.moof_bytes.now c.args.run.now)

pub put_moof-requires-clause-piece : goal.put_moof-requires-clause-piece
put_moof-requires-clause-piece c =
    let all : AllByRecursion (IsPieceOf c.args.moof_bytes.now c.args.run.now) (c.in-Some.piece ∷ c.next.new.self) = subst (AllByRecursion (IsPieceOf c.args.moof_bytes.now c.args.run.now)) c.in-Some.ensures.steps c.loop-piece.invariant in
    all.0

pub loop-piece-preserved : goal.loop-piece-preserved
loop-piece-preserved c =
    let all : AllByRecursion (IsPieceOf c.args.moof_bytes.now c.args.run.now) (c.in-Some.piece ∷ c.next.new.self) = subst (AllByRecursion (IsPieceOf c.args.moof_bytes.now c.args.run.now)) c.in-Some.ensures.steps c.loop-piece.invariant in
    all.1
