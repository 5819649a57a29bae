use Rattle.std.proofs.Common.{List, sym, ap, subst, ◌∙◌}
use Rattle.mp4_traf.specs.declared.rows.Row.{Row}
use Rattle.mp4_traf.specs.Cursors.{HasRoom}
use Rattle.mp4_pieces.specs.Pieces.{cut_rows, pieces_at}
use Rattle.mp4_traf.proofs.CursorLemmas.{cursor_has_room}
use Rattle.mp4_pieces.proofs.GrowLemmas.{pieces_left_are}
use Rattle.mp4_pieces.proofs.PlainLemmas.{cut_as}
use Rattle.mp4_pieces.proofs.pieces.Pieces.at.Goals as goal

pub invariant_of-result : goal.invariant_of-result
invariant_of-result c =
    subst (λ (rows : List Row). HasRoom c.args.cursor rows) (sym c.rows_from.ensures)
    (cursor_has_room c.args.moof_bytes.now c.args.run.now c.args.cursor c.requires.run c.requires.cursor)

pub returns : goal.returns
returns c =
    let cut = c.args.cut.now in
    let run = c.args.run.now in
    let own = c.for_run.result.cut in
    sym (pieces_left_are own c.args.cursor c.rows_from.result)
    ∙ ap (λ (rows : List Row). pieces_at c.args.cursor (cut_rows own rows)) c.rows_from.ensures
    ∙ ap (pieces_at c.args.cursor) (cut_as cut c.args.moof_bytes.now run own c.args.cursor.row c.for_run.ensures)
