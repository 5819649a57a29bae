use Rattle.std.proofs.Common.{◌∷◌, subst, sym, ◌∙◌}
use Rattle.std.specs.List.{AllByRecursion}
use Rattle.mp4_pieces.specs.Pieces.{IsPieceOf}
use Rattle.mp4_pieces.proofs.PieceLemmas.{pieces_are_of}
use Rattle.test_libraries.proofs.moofs.written.put_first.Goals as goal

pub put_moof-requires-clause-piece : goal.put_moof-requires-clause-piece
put_moof-requires-clause-piece g c =
    let all : AllByRecursion (IsPieceOf c.args.held.now c.args.run.now) (c.in-Some.first ∷ c.next.new.self) = subst (AllByRecursion (IsPieceOf c.args.held.now c.args.run.now)) (sym c.of.ensures ∙ c.in-Some.ensures.steps) (pieces_are_of c.args.cut.now c.args.held.now c.args.run.now) in
    all.0
