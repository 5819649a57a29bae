use Rattle.std.proofs.Common.{arith}
use Rattle.std.proofs.lemmas.Grind.{common_steps}
use Rattle.std.proofs.lemmas.Int.{to_z-of_z}
use Rattle.mp4_pieces.specs.Implementation.Growing.{with_row}
use Rattle.mp4_pieces.proofs.fill.with_row.Goals as goal

pub returns : goal.returns
unfolding with_row
returns c = grind (arith, to_z-of_z, common_steps)
