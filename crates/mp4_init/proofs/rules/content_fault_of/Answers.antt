use Rattle.std.proofs.Common.{arith}
use Rattle.mp4_box.proofs.OrderLemmas.{least_from_append}
use Rattle.mp4_init.specs.Moovs.{content_fault, form_faults, value_faults}
use Rattle.mp4_init.proofs.rules.content_fault_of.Goals as goal

pub returns-then-count_of : goal.returns-then-count_of
unfolding content_fault form_faults value_faults
returns-then-count_of c = grind (arith, least_from_append)

pub returns-else-count_of : goal.returns-else-count_of
unfolding content_fault form_faults value_faults
returns-else-count_of c = grind (arith, least_from_append)

pub returns-else-is_none : goal.returns-else-is_none
unfolding content_fault form_faults value_faults
returns-else-is_none c = grind (arith, least_from_append)
