use Rattle.mp4_pieces.proofs.GroupLemmas.{groups_first, groups_none}
use Rattle.mp4_pieces.proofs.laws.groups_begin_with_the_first.Goals as goal

pub returns-clause-none : goal.returns-clause-none
returns-clause-none c = groups_none

pub returns-clause-some : goal.returns-clause-some
returns-clause-some c p ps = groups_first p ps
