use Rattle.std.proofs.Common.{rules}
use Rattle.mp4_init.specs.Implementation.Summaries.{all_added, gathered}
use Rattle.mp4_init.proofs.slots.add_along.Goals as goal

pub loop-this-preserved : goal.loop-this-preserved
unfolding all_added gathered
loop-this-preserved c = search rules

pub returns-clause-all : goal.returns-clause-all
unfolding all_added gathered
returns-clause-all c = search rules

pub returns-clause-own : goal.returns-clause-own
unfolding all_added gathered
returns-clause-own c = search rules
