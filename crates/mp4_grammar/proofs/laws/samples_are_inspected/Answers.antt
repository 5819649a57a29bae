use Rattle.mp4_grammar.specs.Commands.{command_meaning}
use Rattle.mp4_grammar.specs.Contexts.{first_context}
use Rattle.mp4_grammar.proofs.CommandLemmas.{command_meaning-once}
use Rattle.mp4_grammar.proofs.InspectionLemmas.{samples-inspected}
use Rattle.mp4_grammar.proofs.laws.samples_are_inspected.Goals as goal

pub returns : goal.returns
returns c command b = samples-inspected (command_meaning command) (command_meaning-once command) first_context b
