use Rattle.std.proofs.Common.{refl, rules}
use Rattle.mp4_ledger.proofs.LendingLemmas.{lent_is}
use Rattle.mp4_ledger.proofs.buf.Buf.room_mut.Goals as goal

pub returns : goal.returns
returns c = (
  (refl, λ w. rw (← c.self.view_is, lent_is c.resize.new.self.len c.as_mut_slice.result.now c.resize.new.self.items w c.as_mut_slice.ensures.len c.as_mut_slice.ensures.value) refl),
  record { writes_back = tt; value = search rules; len = search rules },
)
