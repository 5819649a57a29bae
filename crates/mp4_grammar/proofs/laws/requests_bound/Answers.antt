use Rattle.mp4_grammar.specs.Commands.{command_meaning}
use Rattle.mp4_grammar.proofs.BoundLemmas.{asks-bound}
use Rattle.mp4_grammar.proofs.CommandLemmas.{command_meaning-quiet}
use Rattle.mp4_grammar.proofs.laws.requests_bound.Goals as goal

pub returns : goal.returns
returns c command b fits = asks-bound (command_meaning command) (command_meaning-quiet command) b fits
