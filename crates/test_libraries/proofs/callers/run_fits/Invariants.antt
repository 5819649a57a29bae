use Rattle.std.proofs.Common.{◌≡◌}
use Rattle.std.specs.Prelude.{nat_le}
use Rattle.std.specs.List.{list_all}
use Rattle.mp4_traf.specs.declared.rows.Row.{Row}
use Rattle.mp4_traf.specs.Rows.{rows_of}
use Rattle.test_libraries.proofs.callers.run_fits.Given as goal

abbrev pub invariant-loop-row : goal.invariant-loop-row
invariant-loop-row l = record {
  left : list_all (λ (row : Row). nat_le row.size l.most) l.row-iterator ≡ list_all (λ (row : Row). nat_le row.size l.most) (rows_of l.run l.held);
}
