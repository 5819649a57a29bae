use Rattle.std.proofs.Common.{◌<◌, ◌^◌, List, ℕ, subst}
use Rattle.mp4_traf.specs.Rows.{durations, rows_of}
use Rattle.mp4_fragment_machine.proofs.FragmentLineLemmas.{only_run_is}
use Rattle.mp4_fragment_machine.proofs.mdat.traf_lines.listed.Goals as goal

pub of_only_run-totals-requires : goal.of_only_run-totals-requires
of_only_run-totals-requires c = (only_run_is c.args.traf.now c.in-Some.run' c.requires.sound c.in-Some.ensures).0

pub of_only_run-presented-requires : goal.of_only_run-presented-requires
of_only_run-presented-requires c = subst (λ (l : List ℕ). durations (rows_of c.in-Some.run' l) < 2 ^ 64) c.requires.bytes (only_run_is c.args.traf.now c.in-Some.run' c.requires.sound c.in-Some.ensures).1
