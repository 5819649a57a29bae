use Rattle.std.proofs.Common.{arith}
use Rattle.mp4_frag.proofs.rules.repeats.note_repeats.Goals as goal

pub note_among-requires : goal.note_among-requires
note_among-requires c = λ _. omega (arith, c.untimed_in.ensures)
