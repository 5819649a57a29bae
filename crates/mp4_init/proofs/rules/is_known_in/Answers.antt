use Rattle.std.proofs.Common.{arith, ◌∙◌, ap}
use Rattle.mp4_box.specs.Trees.{view}
use Rattle.mp4_init.specs.Implementation.Summaries.{summary_in}
use Rattle.mp4_init.proofs.SummaryLemmas.{not_known, known_once}
use Rattle.mp4_init.proofs.rules.is_known_in.Goals as goal

pub returns-then-summary-tkhd-clause-known : goal.returns-then-summary-tkhd-clause-known
returns-then-summary-tkhd-clause-known g c =
    not_known (view c.args.moov.now) (view c.args.tkhd.now) c.summary-summary.result
    (c.summary-summary.ensures.summary ∙ ap (summary_in (view c.args.moov.now)) c.number_after_times.ensures)
    (omega (arith, c.args.tkhd.now.room)) c.if-summary-tkhd.true

pub returns-clause-known : goal.returns-clause-known
returns-clause-known g c =
    known_once (view c.args.moov.now) (view c.args.tkhd.now) c.summary-summary.result
    (c.summary-summary.ensures.summary ∙ ap (summary_in (view c.args.moov.now)) c.number_after_times.ensures)
    (omega (arith, c.args.tkhd.now.room)) c.if-summary-tkhd.false
