use Rattle.std.proofs.Common.{arith}
use Rattle.mp4_frag.proofs.ReadRunLemmas.{runs_are}
use Rattle.mp4_pieces.proofs.laws.runs_of_a_moof_can_be_cut.Goals as goal

pub returns : goal.returns
returns c h tracks whole fits room read = runs_are h tracks (omega (arith, room)) whole fits read
