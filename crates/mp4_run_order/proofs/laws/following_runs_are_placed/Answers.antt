use Rattle.mp4_run_order.proofs.TakingLemmas.{follows_placed, follows_order}
use Rattle.mp4_run_order.proofs.laws.following_runs_are_placed.Goals as goal

pub returns-clause-placed : goal.returns-clause-placed
returns-clause-placed c p runs h = follows_placed p runs h

pub returns-clause-order : goal.returns-clause-order
returns-clause-order c p runs xs l t h = follows_order p runs xs l t h
