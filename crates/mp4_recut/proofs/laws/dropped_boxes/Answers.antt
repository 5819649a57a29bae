use Rattle.std.proofs.Common.{ap}
use Rattle.mp4_recut.specs.Splitting.{copied}
use Rattle.mp4_recut.proofs.DroppedLemmas.{dropped}
use Rattle.mp4_recut.proofs.laws.dropped_boxes.Goals as goal

pub returns-clause-dropped : goal.returns-clause-dropped
returns-clause-dropped c kind = dropped kind

pub returns-clause-copied : goal.returns-clause-copied
returns-clause-copied c cut kind bytes e = ap (λ t. copied t bytes) e

pub returns-clause-nothing : goal.returns-clause-nothing
returns-clause-nothing c cut kind bytes e = ap (λ t. copied t bytes) e
