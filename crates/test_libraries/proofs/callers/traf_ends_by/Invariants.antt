use Rattle.std.proofs.Common.{◌≡◌}
use Rattle.std.specs.Prelude.{nat_le}
use Rattle.std.specs.List.{list_all}
use Rattle.mp4_traf.specs.declared.run.Run.{Run}
use Rattle.mp4_traf.specs.Runs.{runs_of}
use Rattle.test_libraries.proofs.callers.traf_ends_by.Given as goal

abbrev pub invariant-loop-run : goal.invariant-loop-run
invariant-loop-run l = record {
  left : list_all (λ (run : Run). nat_le run.end l.time) l.run-iterator ≡ list_all (λ (run : Run). nat_le run.end l.time) (runs_of l.traf);
}
