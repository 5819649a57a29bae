use Rattle.mp4_run_order.proofs.OrderLemmas.{taken_is_order, order_is_taken}
use Rattle.mp4_run_order.proofs.laws.taking_order_is_one.Goals as goal

pub returns-clause-exists : goal.returns-clause-exists
returns-clause-exists c runs l = taken_is_order runs l

pub returns-clause-alone : goal.returns-clause-alone
returns-clause-alone c runs xs l t = order_is_taken runs xs l t
