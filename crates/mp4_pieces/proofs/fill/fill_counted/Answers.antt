use Rattle.std.proofs.Common.{List, ap, subst, suc, sym, ◌∙◌}
use Rattle.std.proofs.lemmas.Bool.{le-leb}
use Rattle.mp4_traf.specs.declared.rows.Row.{Row}
use Rattle.mp4_pieces.specs.declared.piece.Piece.{Piece}
use Rattle.mp4_pieces.specs.Implementation.Growing.{Grows, grown}
use Rattle.mp4_pieces.proofs.GrowLemmas.{grown_any, grown_full, grown_more, grown_none, not_less, with_row_grows}
use Rattle.mp4_pieces.proofs.fill.fill_counted.Goals as goal

pub loop-piece-init : goal.loop-piece-init
loop-piece-init c = record {
  pieces = λ last so_far. grown_any c.args.own.now.cut c.args.begun so_far last c.args.rows.now c.requires.plain;
  grows = c.requires.grows;
}

pub loop-piece-preserved : goal.loop-piece-preserved
loop-piece-preserved c =
    let cut = c.args.own.now.cut in
    let p = c.loop-piece.piece in
    let row = c.in-Some.row in
    let rest = c.next.new.self in
    let steps = c.in-Some.ensures.steps in
    record {
      pieces = λ last so_far. ap (λ (q : Piece). grown cut q so_far rest) c.with_row-piece.ensures
          ∙ sym (grown_more cut p so_far row rest c.requires.plain (le-leb (suc p.plain.count) cut.samples c.loop-piece-test.true))
          ∙ ap (λ (rows : List Row). grown cut p so_far rows) (sym steps)
          ∙ c.loop-piece.invariant.pieces last so_far;
      grows = subst (λ (q : Piece). Grows q rest) (sym c.with_row-piece.ensures)
          (with_row_grows p row rest (subst (λ (rows : List Row). Grows p rows) steps c.loop-piece.invariant.grows));
    }

pub returns-in_default-clause-pieces : goal.returns-in_default-clause-pieces
returns-in_default-clause-pieces c = λ last.
    sym (c.loop-piece.invariant.pieces last last)
    ∙ grown_none c.args.own.now.cut c.loop-piece.piece last c.loop-piece.rows c.next.new.self c.in_default.ensures.steps.0 c.in_default.ensures.steps.1

pub returns-clause-pieces : goal.returns-clause-pieces
returns-clause-pieces c = λ last.
    sym (c.loop-piece.invariant.pieces last last)
    ∙ grown_full c.args.own.now.cut c.loop-piece.piece last c.loop-piece.rows (not_less c.loop-piece.piece.plain.count c.args.own.now.cut.samples c.loop-piece-test.false)
