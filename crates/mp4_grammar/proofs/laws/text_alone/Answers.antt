use Rattle.mp4_grammar.proofs.TextLemmas.{reads-without}
use Rattle.mp4_grammar.proofs.laws.text_alone.Goals as goal

pub returns : goal.returns
returns c meaning no_effects start b w = reads-without meaning no_effects w start b
