use Rattle.std.proofs.Common.{◌≡◌}
use Rattle.std.specs.Prelude.{nat_le}
use Rattle.std.specs.List.{list_all}
use Rattle.mp4_traf.specs.declared.run.Run.{Run}
use Rattle.mp4_traf.specs.declared.rows.Row.{Row}
use Rattle.mp4_traf.specs.Rows.{rows_of}
use Rattle.mp4_traf.specs.Runs.{runs_of}
use Rattle.test_libraries.proofs.callers.samples_fit.Given as goal

abbrev pub invariant-loop-run : goal.invariant-loop-run
invariant-loop-run l = record {
  left : list_all (λ (run : Run). list_all (λ (row : Row). nat_le row.size l.most) (rows_of run l.held)) l.run-iterator
      ≡ list_all (λ (run : Run). list_all (λ (row : Row). nat_le row.size l.most) (rows_of run l.held)) (runs_of l.traf);
}
