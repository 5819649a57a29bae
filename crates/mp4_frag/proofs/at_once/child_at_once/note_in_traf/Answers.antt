use Rattle.std.proofs.Common.{arith, rules}
use Rattle.mp4_box.specs.Order.{least_from}
use Rattle.mp4_box.proofs.OrderLemmas.{least_from_append}
use Rattle.mp4_frag.specs.Implementation.AtOnce.{faults_in_traf}
use Rattle.mp4_frag.proofs.at_once.child_at_once.note_in_traf.Goals as goal

pub returns-then-is-clause-best : goal.returns-then-is-clause-best
unfolding faults_in_traf least_from
returns-then-is-clause-best c = grind (arith, least_from_append)

pub returns-then-is-2-clause-best : goal.returns-then-is-2-clause-best
unfolding faults_in_traf least_from
returns-then-is-2-clause-best c = grind (arith, least_from_append)

pub returns-then-is-3-clause-best : goal.returns-then-is-3-clause-best
unfolding faults_in_traf least_from
returns-then-is-3-clause-best c = search rules

pub returns-else-is-3-clause-best : goal.returns-else-is-3-clause-best
unfolding faults_in_traf least_from
returns-else-is-3-clause-best c = search rules
