use Rattle.mp4_pieces.proofs.GroupLemmas.{groups_are, groups_only}
use Rattle.mp4_pieces.proofs.laws.groups_are_one.Goals as goal

pub returns-clause-exists : goal.returns-clause-exists
returns-clause-exists c ps = groups_are ps

pub returns-clause-alone : goal.returns-clause-alone
returns-clause-alone c ps gs are = groups_only ps gs are
