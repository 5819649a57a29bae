use Rattle.std.proofs.Common.{◌∷◌, subst, sym, ◌∙◌}
use Rattle.std.specs.List.{AllByRecursion}
use Rattle.mp4_pieces.specs.Pieces.{IsPieceOf}
use Rattle.mp4_pieces.proofs.PieceLemmas.{pieces_are_of}
use Rattle.test_libraries.proofs.moofs.written.write_all.Goals as goal

pub loop-piece-init : goal.loop-piece-init
loop-piece-init g c =
    subst (AllByRecursion (IsPieceOf c.args.held.now c.args.run.now)) (sym (c.into_iter-piece-iterator.ensures.into_iter_gives ∙ c.of-piece-items.ensures)) (pieces_are_of c.args.cut.now c.args.held.now c.args.run.now)

pub write_moof-requires-clause-piece : goal.write_moof-requires-clause-piece
write_moof-requires-clause-piece g c =
    let all : AllByRecursion (IsPieceOf c.args.held.now c.args.run.now) (c.in-Some.piece ∷ c.next.new.self) = subst (AllByRecursion (IsPieceOf c.args.held.now c.args.run.now)) c.in-Some.ensures.steps c.loop-piece.invariant in
    all.0

pub loop-piece-preserved : goal.loop-piece-preserved
loop-piece-preserved g c =
    let all : AllByRecursion (IsPieceOf c.args.held.now c.args.run.now) (c.in-Some.piece ∷ c.next.new.self) = subst (AllByRecursion (IsPieceOf c.args.held.now c.args.run.now)) c.in-Some.ensures.steps c.loop-piece.invariant in
    all.1
