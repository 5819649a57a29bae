use Rattle.std.proofs.Common.{List, ◌∷◌, ◌∙◌, ap, sym, subst}
use Rattle.mp4_traf.specs.declared.rows.Cursor.{Cursor}
use Rattle.mp4_traf.specs.Rows.{IsCursor}
use Rattle.mp4_pieces.specs.declared.piece.Piece.{Piece}
use Rattle.mp4_pieces.specs.Pieces.{pieces_from}
use Rattle.mp4_pieces.proofs.PieceLemmas.{goes_on, piece_ends}
use Rattle.test_libraries.proofs.callers.next_piece.Goals as goal

pub cursor_after-requires : goal.cursor_after-requires
cursor_after-requires c =
    let next = goes_on c.args.cut.now c.args.held.now c.args.run.now c.args.at.now c.in_ok-piece.piece c.next.new.self c.requires.cursor (sym c.at.ensures ∙ c.in_ok-piece.ensures.steps) in
    piece_ends c.args.held.now c.args.run.now c.in_ok-piece.piece c.requires.run next.piece

pub returns-clause-pieces : goal.returns-clause-pieces
returns-clause-pieces c =
    let e = sym c.at.ensures ∙ c.in_ok-piece.ensures.steps in
    let next = goes_on c.args.cut.now c.args.held.now c.args.run.now c.args.at.now c.in_ok-piece.piece c.next.new.self c.requires.cursor e in
    e ∙ ap (λ (ps : List Piece). c.in_ok-piece.piece ∷ ps) (sym next.rest ∙ ap (pieces_from c.args.cut.now c.args.held.now c.args.run.now) (sym c.cursor_after.ensures))

pub returns-clause-cursor : goal.returns-clause-cursor
returns-clause-cursor c =
    let next = goes_on c.args.cut.now c.args.held.now c.args.run.now c.args.at.now c.in_ok-piece.piece c.next.new.self c.requires.cursor (sym c.at.ensures ∙ c.in_ok-piece.ensures.steps) in
    subst (λ (at : Cursor). IsCursor c.args.run.now c.args.held.now at) (sym c.cursor_after.ensures) next.cursor
