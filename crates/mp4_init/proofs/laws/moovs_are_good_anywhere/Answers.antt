use Rattle.mp4_init.proofs.OffsetLemmas.{good_anywhere, tracks_anywhere}
use Rattle.mp4_init.proofs.laws.moovs_are_good_anywhere.Goals as goal

pub returns-clause-good : goal.returns-clause-good
returns-clause-good c = λ o to x. good_anywhere x o to

pub returns-clause-tracks : goal.returns-clause-tracks
returns-clause-tracks c = λ o to x. tracks_anywhere x o to
