use Rattle.std.proofs.Common.{◌<◌}
use Rattle.mp4_run_order.proofs.ListLemmas.{all_of_pairs, pairs_of_all, pairs_of_map}
use Rattle.mp4_run_order.proofs.OrderLemmas.{TakenBefore, taken_permutes, taken_rises}
use Rattle.mp4_frag.specs.Moofs.{moof_runs}
use Rattle.mp4_frag.specs.RunLists.{moof_listing, taken_runs}
use Rattle.mp4_frag.specs.Places.{listed_run}
use Rattle.mp4_frag.proofs.laws.lists_are_in_order.Goals as goal

pub returns-clause-same : goal.returns-clause-same
returns-clause-same c h tracks = taken_permutes listed_run (moof_runs h tracks)

pub returns-clause-order : goal.returns-clause-order
returns-clause-order c h tracks l is =
    all_of_pairs (TakenBefore listed_run) (taken_runs h tracks) (taken_rises listed_run (moof_runs h tracks)
    (pairs_of_map listed_run (λ a b. a.number < b.number) (moof_runs h tracks) (pairs_of_all (λ a b. a.number < b.number) (moof_listing h tracks) is.ordered.listing)))
