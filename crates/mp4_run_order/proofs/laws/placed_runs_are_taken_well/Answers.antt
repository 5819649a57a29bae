use Rattle.mp4_run_order.proofs.TakingLemmas.{taken_well}
use Rattle.mp4_run_order.proofs.laws.placed_runs_are_taken_well.Goals as goal

pub returns : goal.returns
returns c p runs xs l t h = taken_well p runs xs l t h
