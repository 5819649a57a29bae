use Rattle.std.proofs.Common.{rules}
use Rattle.mp4_frag.specs.Implementation.RepeatMarks.{all_marked, marks}
use Rattle.mp4_frag.proofs.rules.repeats.note_by.Goals as goal

pub note_all-requires : goal.note_all-requires
unfolding marks all_marked
note_all-requires g c = search rules
