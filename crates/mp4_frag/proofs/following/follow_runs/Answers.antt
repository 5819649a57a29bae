use Rattle.std.proofs.Common.{arith, rules}
use Rattle.std.proofs.lemmas.Grind.{common_steps}
use Rattle.mp4_frag.specs.Implementation.Following.{all_follow, past_runs}
use Rattle.mp4_frag.proofs.following.follow_runs.Goals as goal

pub returns-then-not-follow_run-clause-is : goal.returns-then-not-follow_run-clause-is
unfolding all_follow past_runs
returns-then-not-follow_run-clause-is c = search rules

pub loop-run-preserved : goal.loop-run-preserved
unfolding all_follow past_runs
loop-run-preserved c = grind (arith, common_steps)

pub returns-clause-is : goal.returns-clause-is
unfolding all_follow past_runs
returns-clause-is c = search rules

pub returns-clause-end : goal.returns-clause-end
unfolding all_follow past_runs
returns-clause-end c = search rules
