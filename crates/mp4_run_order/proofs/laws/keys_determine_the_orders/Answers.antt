use Rattle.mp4_run_order.proofs.OrderLemmas.{place_keys_order, track_keys_order}
use Rattle.mp4_run_order.proofs.laws.keys_determine_the_orders.Goals as goal

pub returns-clause-place : goal.returns-clause-place
returns-clause-place c runs xs l f m up = place_keys_order runs xs l f m up

pub returns-clause-track : goal.returns-clause-track
returns-clause-track c runs xs l f m up = track_keys_order runs xs l f m up
