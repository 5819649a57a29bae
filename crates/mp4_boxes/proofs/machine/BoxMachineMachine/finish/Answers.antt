use Rattle.std.proofs.Common.{refl}
use Rattle.std.proofs.lemmas.Bool.{false≢true}
use Rattle.mp4_boxes.proofs.BoxLemmas.{end-held, end-none, some_bytes}
use Rattle.mp4_boxes.proofs.machine.BoxMachineMachine.finish.Goals as goal

pub returns-then-is_empty-clause-ok : goal.returns-then-is_empty-clause-ok
returns-then-is_empty-clause-ok c = rw (← c.self.view_is, c.in-Header.is) (end-none c.in-Header.at c.self.inside.header_bytes (c.if-is_empty.ensures.0 refl))

pub returns-else-is_empty-clause-err : goal.returns-else-is_empty-clause-err
returns-else-is_empty-clause-err c =
    let header_bytes = c.self.inside.header_bytes in
    let is = rw c.in-Header.is at c.self.invariant in
    rw (← c.self.view_is, c.in-Header.is, c.truncated.ensures, c.kind.ensures.computed)
    (end-held c.in-Header.at header_bytes (some_bytes header_bytes (λ e. false≢true (c.if-is_empty.ensures.1 e))) is.0)
