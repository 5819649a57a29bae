use Rattle.mp4_grammar.proofs.JoinLemmas.{reads-items}
use Rattle.mp4_grammar.proofs.laws.whole_items.Goals as goal

pub returns : goal.returns
returns c meaning start is later sound near = reads-items meaning is start later sound near
