use Rattle.std.proofs.Common.{arith}
use Rattle.std.proofs.lemmas.Grind.{common_steps}
use Rattle.mp4_init.specs.Implementation.Summaries.{summaries_in, summary_in}
use Rattle.mp4_init.proofs.slots.Slots.refill.Goals as goal

pub returns-clause-added : goal.returns-clause-added
unfolding summaries_in summary_in
returns-clause-added g c = grind (arith, common_steps)

pub returns-clause-summary : goal.returns-clause-summary
unfolding summaries_in summary_in
returns-clause-summary g c = grind (arith, common_steps)
