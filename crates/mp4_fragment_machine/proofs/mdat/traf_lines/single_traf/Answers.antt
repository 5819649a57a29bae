use Rattle.std.proofs.Common.{◌∙◌, Some, ap, arith}
use Rattle.mp4_traf.specs.Runs.{MoofBytes, moof_at}
use Rattle.mp4_grammar.specs.FragmentLines.{traf_with}
use Rattle.mp4_fragment_machine.specs.Implementation.TrafLines.{put_of}
use Rattle.mp4_fragment_machine.proofs.FragmentLineLemmas.{single_line}
use Rattle.mp4_fragment_machine.proofs.mdat.traf_lines.single_traf.Goals as goal

pub of_only_run-totals-requires : goal.of_only_run-totals-requires
of_only_run-totals-requires c = omega (arith, c.requires.end)

pub returns : goal.returns
returns c = λ command single.
    let h : MoofBytes = moof_at c.args.moof_bytes.now c.args.at in
    let tracks = c.args.tracks.now in
    let totals = c.of_only_run-totals in
    let presented = c.of_only_run-presented in
    let listed = c.of.ensures ∙ ap (λ n. traf_with n c.args.at (Some c.args.size) tracks totals.result presented.result) single.sequence in
    ap (put_of command tracks) listed ∙ single_line command h tracks c.args.single_run.now (Some c.args.size) totals.result presented.result single totals.ensures presented.ensures
