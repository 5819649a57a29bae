use Rattle.mp4_recut.specs.Operations.{operation_meaning, number_in}
use Rattle.std.proofs.Common.{refl}
use Rattle.std.proofs.lemmas.Bool.{false≢true}
use Rattle.mp4_grammar.specs.Contexts.{context}
use Rattle.mp4_fragment_machine.proofs.HeadLemmas.{ends-header, ends-none}
use Rattle.mp4_fragment_machine.proofs.QuietLemmas.{some_bytes}
use Rattle.mp4_fragment_machine.proofs.machine.FragmentMachineMachine.finish.Goals as goal

pub returns-then-is_empty-clause-ok : goal.returns-then-is_empty-clause-ok
returns-then-is_empty-clause-ok c =
    let m = c.self.inside in
    rw (← c.self.view_is, c.in-Header.is) (ends-none (operation_meaning m.carried.operation) (context c.in-Header.at m.carried.tracks (number_in m.carried.operation m.carried.counter.tally)) m.carried.header_bytes (c.if-is_empty.ensures.0 refl))

pub returns-else-is_empty-clause-err : goal.returns-else-is_empty-clause-err
returns-else-is_empty-clause-err c =
    let m = c.self.inside in
    let is = rw c.in-Header.is at c.self.invariant in
    rw (← c.self.view_is, c.in-Header.is, c.truncated.ensures, c.kind.ensures.computed)
    (ends-header (operation_meaning m.carried.operation) (context c.in-Header.at m.carried.tracks (number_in m.carried.operation m.carried.counter.tally)) m.carried.header_bytes (some_bytes m.carried.header_bytes (λ e. false≢true (c.if-is_empty.ensures.1 e))) is.0.0)
