use Rattle.mp4_grammar.proofs.BeforeLemmas.{text-before, count-before}
use Rattle.mp4_recut.specs.Splitting.{splitting}
use Rattle.mp4_recut.proofs.SplitLemmas.{splitting-quiet}
use Rattle.mp4_recut.proofs.laws.text_before.Goals as goal

pub returns-clause-text : goal.returns-clause-text
returns-clause-text c cut b before a after e = text-before (splitting cut) (splitting-quiet cut) b before a after e

pub returns-clause-counted : goal.returns-clause-counted
returns-clause-counted c cut b before a after e = count-before (splitting cut) (splitting-quiet cut) b before a after e
