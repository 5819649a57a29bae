use Rattle.std.proofs.Common.{◌∙◌, ap, ◌<◌, ◌^◌, arith, length, sym}
use Rattle.mp4_traf.specs.Rows.{durations}
use Rattle.mp4_traf.specs.Runs.{runs_of}
use Rattle.mp4_grammar.specs.Presented.{all_rows, presented_in}
use Rattle.mp4_grammar.proofs.PresentedLemmas.{few_rows, found_is, rows_last}
use Rattle.mp4_grammar.proofs.presented.Presented.of.Goals as goal

pub add_runs-requires-clause-time : goal.add_runs-requires-clause-time
add_runs-requires-clause-time c =
    let last : durations (all_rows c.args.traf.now.shared.moof.bytes (runs_of c.args.traf.now)) < 2 ^ 64 = rows_last c.args.traf.now c.requires.sound in
    rw (c.runs.ensures, sym c.requires.bytes) (omega (arith, last))

pub add_runs-requires-clause-few : goal.add_runs-requires-clause-few
add_runs-requires-clause-few c =
    let few : length (all_rows c.args.traf.now.shared.moof.bytes (runs_of c.args.traf.now)) < 2 ^ 32 = few_rows c.args.traf.now c.requires.sound in
    rw (c.runs.ensures, sym c.requires.bytes) (omega (arith, few))

pub returns : goal.returns
returns c =
    let bytes = c.args.moof_bytes.now in
    c.to_presented.ensures ∙ (found_is (all_rows bytes c.runs.result) _ _ c.add_runs.ensures.earliest c.add_runs.ensures.syncs
    ∙ (ap (λ runs. presented_in (all_rows bytes runs)) c.runs.ensures ∙ ap (λ m. presented_in (all_rows m (runs_of c.args.traf.now))) (sym c.requires.bytes)))
