use Rattle.std.proofs.Common.{refl, rules}
use Rattle.mp4_ledger.proofs.LendingLemmas.{lent_is}
use Rattle.mp4_ledger.proofs.rows.Rows64.all_mut.Goals as goal

pub returns : goal.returns
returns c = (
  (refl, λ w. rw (← c.self.view_is, lent_is c.self.inside.rows.len c.as_mut_slice.result.now c.self.inside.rows.items w c.as_mut_slice.ensures.len c.as_mut_slice.ensures.value) refl),
  record { writes_back = tt; value = search rules },
)
