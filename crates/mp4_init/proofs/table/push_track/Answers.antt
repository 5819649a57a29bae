use Rattle.std.proofs.Common.{◌∙◌, ap, refl, length, [], ◌∷◌, arith}
use Rattle.std.proofs.lemmas.List.{length-append, length-map}
use Rattle.mp4_init.specs.Implementation.Rows.{node_of_row, track_of_row}
use Rattle.mp4_init.specs.Implementation.SearchTrees.{with_link}
use Rattle.mp4_init.proofs.RowLemmas.{tracks_more, tracks_linked, nodes_more, nodes_linked}
use Rattle.mp4_init.proofs.table.push_track.Goals as goal

pub returns-in-After-clause-tracks : goal.returns-in-After-clause-tracks
returns-in-After-clause-tracks c =
    rw (c.set.ensures, c.push.ensures)
    (tracks_linked c.args.rows.now.rows c.row_for.result c.linked_row-row.result c.get.result c.args.track c.in-After.link.at c.row_for.ensures
    (c.linked_row-row.ensures.track ∙ ap track_of_row (rw c.push.ensures at c.get.ensures)))

pub returns-in-After-clause-indexed : goal.returns-in-After-clause-indexed
returns-in-After-clause-indexed c =
    rw (c.set.ensures, c.push.ensures)
    (nodes_linked c.args.rows.now.rows c.row_for.result c.linked_row-row.result c.get.result c.args.track c.in-After.link c.row_for.ensures c.requires.indexed
    c.in-After.ensures.ending (omega (arith, c.in-After.ensures.within, length-map c.args.rows.now.rows node_of_row))
    (rw c.len-last.ensures.len at c.linked_row-row.ensures.node ∙ ap (λ r. with_link c.in-After.link.is_odd (length c.args.rows.now.rows) (node_of_row r)) (rw c.push.ensures at c.get.ensures)))

pub returns-in_default : goal.returns-in_default
returns-in_default c = rw c.push.ensures (record {
  tracks = tracks_more c.args.rows.now.rows c.row_for.result c.args.track c.row_for.ensures;
  indexed = nodes_more c.args.rows.now.rows c.row_for.result c.args.track c.search-ending.result c.row_for.ensures c.requires.indexed c.search-ending.ensures.ending c.in_default.not-After;
  len = length-append c.args.rows.now.rows (c.row_for.result ∷ []);
  cap = refl;
})
