use Rattle.mp4_run_order.proofs.SearchLemmas.{search_is}
use Rattle.mp4_run_order.proofs.laws.search_finds_the_first.Goals as goal

pub returns : goal.returns
returns c p runs sorted xs l s t = search_is p runs sorted xs l s t
