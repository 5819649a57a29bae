use Rattle.std.proofs.Common.{Bool, List, ap, arith, subst, sym, ◌∙◌}
use Rattle.mp4_traf.specs.declared.rows.Row.{Row}
use Rattle.mp4_traf.specs.SyncSamples.{is_sync}
use Rattle.mp4_pieces.specs.declared.piece.Piece.{Piece}
use Rattle.mp4_pieces.specs.Implementation.Growing.{Grows, grown, pieces_left}
use Rattle.mp4_pieces.proofs.GrowLemmas.{grown_full, grown_takes, with_row_grows}
use Rattle.mp4_pieces.proofs.fill.fill.Goals as goal

pub loop-piece-preserved : goal.loop-piece-preserved
loop-piece-preserved c =
    let cut = c.args.own.now.cut in
    let p = c.loop-piece.piece in
    let last = c.loop-piece.last in
    let row = c.in-Some.row in
    let rest = c.next.new.self in
    let steps = c.in-Some.ensures.steps in
    record {
      pieces = ap (λ (b : Bool). grown cut c.with_row-piece.result b rest) c.is_sync-last.ensures
          ∙ ap (λ (q : Piece). grown cut q (is_sync row.flags) rest) c.with_row-piece.ensures
          ∙ sym (grown_takes cut p last row rest (sym c.takes.ensures ∙ c.if-not-takes.false))
          ∙ ap (λ (rows : List Row). grown cut p last rows) (sym steps)
          ∙ c.loop-piece.invariant.pieces;
      grows = subst (λ (q : Piece). Grows q rest) (sym c.with_row-piece.ensures)
          (with_row_grows p row rest (subst (λ (rows : List Row). Grows p rows) steps c.loop-piece.invariant.grows));
    }

pub returns-in_default-clause-pieces : goal.returns-in_default-clause-pieces
unfolding grown pieces_left
returns-in_default-clause-pieces c = grind (arith, with_row_grows, grown_full)

pub returns-then-not-takes-clause-pieces : goal.returns-then-not-takes-clause-pieces
unfolding grown pieces_left
returns-then-not-takes-clause-pieces c = grind (arith, with_row_grows, grown_full)

pub returns-clause-pieces : goal.returns-clause-pieces
unfolding grown pieces_left
returns-clause-pieces c = grind (arith, with_row_grows, grown_full)
