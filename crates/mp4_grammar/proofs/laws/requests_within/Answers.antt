use Rattle.mp4_grammar.specs.Commands.{command_meaning}
use Rattle.mp4_grammar.proofs.CommandLemmas.{command_meaning-quiet}
use Rattle.mp4_grammar.proofs.HeldSizeLemmas.{asks-within}
use Rattle.mp4_grammar.proofs.laws.requests_within.Goals as goal

pub returns : goal.returns
returns c command b moov moof fits within = asks-within (command_meaning command) (command_meaning-quiet command) moov moof b fits within
