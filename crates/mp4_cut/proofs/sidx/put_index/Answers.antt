use Rattle.std.proofs.Common.{◌++◌, ◌∙◌, sym, ap, subst, List, ℕ}
use Rattle.std.specs.Prelude.{take}
use Rattle.std.specs.List.{flat_map}
use Rattle.mp4_traf.specs.declared.rows.Cursor.{Cursor}
use Rattle.mp4_traf.specs.Rows.{IsCursor}
use Rattle.mp4_cut.specs.Sidx.{reference_bytes, written_index}
use Rattle.mp4_cut.specs.IndexGroups.{group_from}
use Rattle.mp4_cut.proofs.IndexLemmas.{index_is, index_is_put, room_is}
use Rattle.mp4_machine.proofs.PutLemmas.{HasFailed-front, Puts-then}
use Rattle.mp4_cut.proofs.sidx.put_index.Goals as goal

pub at-pieces-requires : goal.at-pieces-requires
at-pieces-requires g c =
    record { run = c.requires.run; cursor = subst (λ (at : Cursor). IsCursor c.args.run.now c.args.moof_bytes.now at) (sym c.cursor.ensures) c.requires.group.cursor }

pub put_references-requires : goal.put_references-requires
put_references-requires g c =
    room_is c.args.cut.now c.args.moof_bytes.now c.args.run.now c.args.first.now c.args.count c.cursor.result c.at-pieces.result c.requires.group c.cursor.ensures c.at-pieces.ensures

pub returns-in-Err : goal.returns-in-Err
returns-in-Err g c =
    let group = group_from c.args.cut.now c.args.moof_bytes.now c.args.run.now c.args.first.now c.args.count in
    let index = written_index c.args.run.now c.args.timescale group in
    HasFailed-front c.as_slice.result.now (flat_map reference_bytes group) index
    (ap (λ (x : List ℕ). x ++ flat_map reference_bytes group) (c.as_slice.ensures ∙ c.index_front-front.ensures) ∙ sym (index_is c.args.run.now c.args.timescale c.args.first.now c.args.count group c.requires.group.begins c.requires.group.all))
    c.in-Err.ensures.puts

pub returns : goal.returns
returns g c =
    let group = group_from c.args.cut.now c.args.moof_bytes.now c.args.run.now c.args.first.now c.args.count in
    let index = written_index c.args.run.now c.args.timescale group in
    let references = flat_map reference_bytes (take c.args.count c.at-pieces.result) in
    let whole = index_is_put c.args.cut.now c.args.moof_bytes.now c.args.run.now c.args.timescale c.args.first.now c.args.count c.as_slice.result.now c.index_front-front.result c.cursor.result c.at-pieces.result
    c.requires.group c.as_slice.ensures c.index_front-front.ensures c.cursor.ensures c.at-pieces.ensures in
    Puts-then c.in-Ok.ensures.puts _ _ _ references index whole c.put_references.result c.put_references.ensures
