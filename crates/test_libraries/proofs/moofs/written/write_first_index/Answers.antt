use Rattle.std.proofs.Common.{List, ap, length, sym, ◌∙◌}
use Rattle.std.specs.Prelude.{take}
use Rattle.mp4_pieces.specs.declared.piece.Piece.{Piece}
use Rattle.mp4_pieces.specs.Groups.{group_length}
use Rattle.mp4_cut.proofs.GroupLemmas.{first_is_group}
use Rattle.test_libraries.proofs.moofs.written.write_first_index.Goals as goal

pub write_index-requires-clause-group : goal.write_index-requires-clause-group
write_index-requires-clause-group g c =
    first_is_group c.args.cut.now c.args.held.now c.args.run.now c.in-Some.first c.next.new.self c.group_len-count.result c.requires.index
    (sym c.of.ensures ∙ c.in-Some.ensures.steps)
    (c.group_len-count.ensures ∙ ap (λ (ps : List Piece). length (take group_length ps)) c.of-2.ensures)
