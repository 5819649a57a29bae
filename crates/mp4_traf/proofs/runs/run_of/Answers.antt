use Rattle.std.proofs.Common.{◌∙◌, ap, arith}
use Rattle.mp4_box.specs.Trees.{view}
use Rattle.mp4_traf.specs.Implementation.TrafContexts.{shared_of}
use Rattle.mp4_traf.specs.Rows.{durations, sizes}
use Rattle.mp4_traf.proofs.BetweenLemmas.{all_rows}
use Rattle.mp4_traf.proofs.TimeLemmas.{run_is, ticks_of_run}
use Rattle.mp4_traf.proofs.runs.run_of.Goals as goal

pub overflow_add-run : goal.overflow_add-run
overflow_add-run c =
    let run = c.run_at-run.result in
    let sums = c.sums_between-sums in
    let ticks = sums.ensures.ticks ∙ ap durations (all_rows run c.args.context.now.moof_bytes.now) in
    omega (arith, c.requires, ticks_of_run (shared_of c.args.context.now) c.args.run_start.now.time c.args.run_start.now.place (view c.args.trun.now) run sums.result.ticks ticks c.run_at-run.ensures)

pub returns : goal.returns
returns c =
    let run = c.run_at-run.result in
    let sums = c.sums_between-sums in
    let all = all_rows run c.args.context.now.moof_bytes.now in
    run_is (shared_of c.args.context.now) c.args.run_start.now.time c.args.run_start.now.place (view c.args.trun.now) run sums.result.ticks sums.result.bytes
    c.run_at-run.ensures (sums.ensures.ticks ∙ ap durations all) (sums.ensures.bytes ∙ ap sizes all)
