use Rattle.std.proofs.Common.{◌≡◌, ◌∙◌, ◌++◌, ap, arith, length, length-append, sym, subst}
use Rattle.std.proofs.lemmas.List.Sums.{sum_by-append}
use Rattle.mp4_traf.specs.Rows.{durations}
use Rattle.mp4_traf.specs.SyncSamples.{is_sync}
use Rattle.mp4_traf.specs.declared.rows.Row.{Row}
use Rattle.mp4_grammar.specs.Implementation.FoundRows.{earliest_from}
use Rattle.mp4_grammar.specs.Presented.{all_rows, once_if, syncs_in}
use Rattle.mp4_grammar.proofs.PresentedLemmas.{all_first, earliest-append}
use Rattle.mp4_grammar.proofs.presented.add_runs.Goals as goal

pub loop-run-preserved : goal.loop-run-preserved
loop-run-preserved c =
    let bytes = c.args.moof_bytes.now in
    let found = c.loop-run.so_far in
    let rows = c.rows.result in
    let rest = all_rows bytes c.next.new.self in
    let all : all_rows bytes c.loop-run.run-iterator ≡ rows ++ rest = all_first bytes c.in-Some.run' c.next.new.self c.loop-run.run-iterator rows c.in-Some.ensures.steps c.rows.ensures in
    let inv = c.loop-run.invariant in
    let did = c.add_rows.ensures in (
      tt,
      tt,
      ap (λ o. earliest_from o c.add_rows.new.so_far.elapsed rest) did.earliest
          ∙ (ap (λ n. earliest_from (earliest_from found.earliest found.elapsed rows) n rest) did.elapsed
          ∙ (sym (earliest-append found.earliest found.elapsed rows rest) ∙ (ap (earliest_from found.earliest found.elapsed) (sym all) ∙ inv.2))),
      omega (arith, did.syncs, sum_by-append (λ (row : Row). once_if (is_sync row.flags)) rows rest, ap syncs_in all, inv.3),
      omega (arith, did.elapsed, sum_by-append (λ (row : Row). row.duration) rows rest, ap durations all, inv.4),
      omega (arith, did.few, length-append rows rest, ap (λ l. length l) all, inv.5),
      did.first,
    )

pub returns-clause-earliest : goal.returns-clause-earliest
unfolding earliest_from
returns-clause-earliest c = subst (λ runs. earliest_from c.loop-run.so_far.earliest c.loop-run.so_far.elapsed (all_rows c.args.moof_bytes.now runs) ≡ earliest_from c.args.so_far.now.earliest c.args.so_far.now.elapsed (all_rows c.args.moof_bytes.now c.args.runs)) c.in-None.ensures.steps.0 c.loop-run.invariant.2
