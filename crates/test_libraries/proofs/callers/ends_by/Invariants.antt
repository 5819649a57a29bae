use Rattle.std.proofs.Common.{◌≡◌}
use Rattle.std.specs.Prelude.{nat_le}
use Rattle.std.specs.List.{flat_map, list_all}
use Rattle.mp4_traf.specs.declared.run.Run.{Run}
use Rattle.mp4_frag.specs.Moofs.{moof_runs}
use Rattle.mp4_traf.specs.Runs.{runs_of}
use Rattle.test_libraries.proofs.callers.ends_by.Given as goal

abbrev pub invariant-loop-traf : goal.invariant-loop-traf
invariant-loop-traf l = record {
  left : list_all (λ (run : Run). nat_le run.end l.time) (flat_map runs_of l.traf-iterator) ≡ list_all (λ (run : Run). nat_le run.end l.time) (moof_runs (record { bytes = l.held; offset = l.offset }) l.tracks);
}
