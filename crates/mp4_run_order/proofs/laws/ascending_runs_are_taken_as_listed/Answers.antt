use Rattle.mp4_run_order.proofs.TakingLemmas.{ascending_is_taken}
use Rattle.mp4_run_order.proofs.laws.ascending_runs_are_taken_as_listed.Goals as goal

pub returns : goal.returns
returns c runs l up = ascending_is_taken runs l up
