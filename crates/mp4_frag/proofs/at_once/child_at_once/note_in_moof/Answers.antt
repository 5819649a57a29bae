use Rattle.std.proofs.Common.{rules}
use Rattle.mp4_box.specs.Order.{least_from}
use Rattle.mp4_frag.specs.Implementation.AtOnce.{faults_in_moof}
use Rattle.mp4_frag.specs.Repeats.{untimed_ids}
use Rattle.mp4_frag.proofs.at_once.child_at_once.note_in_moof.Goals as goal

pub returns-then-is-clause-best : goal.returns-then-is-clause-best
unfolding faults_in_moof untimed_ids least_from
returns-then-is-clause-best c = search rules

pub returns-then-is-2-clause-best : goal.returns-then-is-2-clause-best
unfolding faults_in_moof untimed_ids least_from
returns-then-is-2-clause-best c = search rules

pub returns-then-is-2-clause-count : goal.returns-then-is-2-clause-count
unfolding faults_in_moof untimed_ids least_from
returns-then-is-2-clause-count c = search rules

pub returns-else-is-2-clause-best : goal.returns-else-is-2-clause-best
unfolding faults_in_moof untimed_ids least_from
returns-else-is-2-clause-best c = search rules

pub returns-else-is-2-clause-count : goal.returns-else-is-2-clause-count
unfolding faults_in_moof untimed_ids least_from
returns-else-is-2-clause-count c = search rules
