use Rattle.mp4_grammar.specs.Commands.{command_meaning}
use Rattle.mp4_grammar.proofs.BeforeLemmas.{text-before, count-before}
use Rattle.mp4_grammar.proofs.CommandLemmas.{command_meaning-quiet}
use Rattle.mp4_grammar.proofs.laws.lines_before.Goals as goal

pub returns-clause-text : goal.returns-clause-text
returns-clause-text c command b before a after e = text-before (command_meaning command) (command_meaning-quiet command) b before a after e

pub returns-clause-counted : goal.returns-clause-counted
returns-clause-counted c command b before a after e = count-before (command_meaning command) (command_meaning-quiet command) b before a after e
