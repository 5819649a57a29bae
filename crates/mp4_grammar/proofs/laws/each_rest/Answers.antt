use Rattle.mp4_grammar.proofs.RestLemmas.{rest-reads}
use Rattle.mp4_grammar.proofs.laws.each_rest.Goals as goal

pub returns : goal.returns
returns c meaning start y r fits is = rest-reads meaning start y r fits is
