use Rattle.std.proofs.Common.{◌≡◌, ◌==◌, not}
use Rattle.std.specs.List.{list_all}
use Rattle.mp4_box.specs.Fields.{number_in}
use Rattle.mp4_box.specs.Paths.{at_path}
use Rattle.mp4_box.specs.Trees.{Box, view}
use Rattle.test_libraries.specs.Kinds.{to_trun}
use Rattle.test_libraries.proofs.callers.runs_have_samples.Given as goal

-- what is asked of all runs is asked of those that are left
abbrev pub invariant-loop-trun : goal.invariant-loop-trun
invariant-loop-trun l = record {
  left : list_all (λ (trun : Box). not (number_in trun.payload 4 == 0)) l.trun-iterator ≡ list_all (λ (trun : Box). not (number_in trun.payload 4 == 0)) (at_path to_trun (view l.moof));
}
