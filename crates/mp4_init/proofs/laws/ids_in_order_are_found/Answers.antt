use Rattle.mp4_init.proofs.OrderedIdLemmas.{found_in_order, holds_id}
use Rattle.mp4_init.proofs.laws.ids_in_order_are_found.Goals as goal

pub returns-clause-found : goal.returns-clause-found
returns-clause-found c = found_in_order

pub returns-clause-holds_id : goal.returns-clause-holds_id
returns-clause-holds_id c = holds_id
