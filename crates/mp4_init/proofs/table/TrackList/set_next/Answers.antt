use Rattle.std.proofs.Common.{rules, subst, sym, ◌≡◌, ◌∙◌, ap, List, ℕ, length, arith}
use Rattle.std.specs.Prelude.{map}
use Rattle.std.proofs.lemmas.List.{length-map}
use Rattle.mp4_ledger.specs.Memory.{Rows}
use Rattle.mp4_init.specs.declared.search_tree.Node.{Node}
use Rattle.mp4_init.specs.Implementation.SearchTrees.{IsIndexed}
use Rattle.mp4_init.specs.Implementation.Rows.{track_of_row, node_of_row}
use Rattle.mp4_init.specs.Tracks.{with_next}
use Rattle.std.proofs.Math.Seq.{map-set_same}
use Rattle.mp4_init.proofs.RowLemmas.{set_row}
use Rattle.mp4_init.proofs.table.TrackList.set_next.Goals as goal

pub returns-clause-next : goal.returns-clause-next
returns-clause-next c =
    ap (λ (rs : List (List ℕ)). map track_of_row rs) (ap (λ (t : Rows). t.rows) c.set.ensures)
    ∙ set_row c.self.inside.rows.rows c.args.i c.args.next c.ended_row-row.result c.get.result
    (omega (arith, c.requires, length-map c.self.inside.rows.rows track_of_row, ap length c.self.view_is))
    (c.ended_row-row.ensures.track ∙ ap (λ (r : List ℕ). record (track_of_row r) { next = c.args.next }) c.get.ensures)
    ∙ ap (with_next c.args.i c.args.next) c.self.view_is

pub invariant_of-self : goal.invariant_of-self
invariant_of-self c =
    let rows = c.self.inside.rows.rows in
    let nodes : map node_of_row c.set.new.self.rows ≡ map node_of_row rows =
    ap (λ (t : Rows). map node_of_row t.rows) c.set.ensures
    ∙ map-set_same node_of_row rows c.args.i c.ended_row-row.result c.get.result (c.ended_row-row.ensures.node ∙ ap node_of_row c.get.ensures) in
    (search rules, subst (λ (ns : List Node). IsIndexed ns) (sym nodes) c.self.invariant.1)
