use Rattle.std.proofs.Common.{◌≡◌, ◌∙◌, None, ap, pos, sym}
use Rattle.mp4_traf.specs.Rows.{rows_of}
use Rattle.mp4_traf.specs.SyncSamples.{is_sync}
use Rattle.mp4_traf.specs.declared.rows.Row.{Row}
use Rattle.mp4_grammar.specs.Presented.{once_if, syncs_in}
use Rattle.mp4_grammar.specs.declared.presented.Presented.{Presented}
use Rattle.mp4_grammar.proofs.PresentedLemmas.{none_of, one_presented, plain_earliest}
use Rattle.mp4_grammar.proofs.presented.of_run.Goals as goal

pub returns-then-run-eq1 : goal.returns-then-run-eq1
returns-then-run-eq1 c =
    let of : Row → Presented = λ row. record { earliest = row.offset; syncs = once_if (is_sync row.flags) } in
    c.of_row.ensures ∙ (ap of c.row.ensures ∙ sym (one_presented c.args.run.now c.args.moof_bytes.now c.if-run-eq1.true))

pub returns-then-is_none-2 : goal.returns-then-is_none-2
returns-then-is_none-2 c =
    let rows = rows_of c.args.run.now c.args.moof_bytes.now in
    let none : c.args.run.now.fields.sample_composition_time_offset ≡ None = none_of _ c.if-is_none-2.ensures in
    ap (λ n. record { earliest = pos 0; syncs = n }) c.default_syncs.ensures ∙ ap (λ z. record { earliest = z; syncs = syncs_in rows }) (sym (plain_earliest c.args.run.now c.args.moof_bytes.now none))
