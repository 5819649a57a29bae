use Rattle.std.proofs.Common.{◌≡◌, ◌-◌, ◌*◌, ap, arith, suc}
use Rattle.mp4_traf.specs.SyncSamples.{is_sync}
use Rattle.mp4_traf.specs.declared.rows.Row.{Row}
use Rattle.mp4_grammar.specs.Presented.{once_if}
use Rattle.mp4_grammar.proofs.PresentedLemmas.{plain_syncs}
use Rattle.mp4_grammar.proofs.presented.default_syncs.Goals as goal

pub returns : goal.returns
returns c =
    let run = c.args.run.now in
    let count : run.count ≡ suc (run.count - 1) = omega (arith, c.if-run-eq0.false) in
    omega (arith, plain_syncs run c.args.moof_bytes.now (run.count - 1) count c.requires, c.once_if_sync-first.ensures.result, ap (λ (row : Row). once_if (is_sync row.flags)) c.row.ensures, ap (λ k. k * (run.count - 1)) c.once_if_sync.ensures.result)
