use Rattle.mp4_grammar.specs.Commands.{command_meaning}
use Rattle.mp4_grammar.specs.Contexts.{first_context}
use Rattle.mp4_grammar.proofs.CommandLemmas.{command_meaning-growing}
use Rattle.mp4_grammar.proofs.ItemLemmas.{reads-grow}
use Rattle.mp4_grammar.proofs.laws.more_bytes.Goals as goal

pub returns : goal.returns
returns c command b later = reads-grow (command_meaning command) (command_meaning-growing command) first_context b later
