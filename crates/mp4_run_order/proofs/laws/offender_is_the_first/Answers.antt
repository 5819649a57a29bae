use Rattle.mp4_run_order.proofs.SearchLemmas.{offender_means}
use Rattle.mp4_run_order.proofs.laws.offender_is_the_first.Goals as goal

pub returns : goal.returns
returns c p runs l = offender_means p runs l
