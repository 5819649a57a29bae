use Rattle.std.proofs.Common.{refl, rules}
use Rattle.mp4_machine.proofs.InputLemmas.{GoesOn-none}
use Rattle.mp4_boxes.proofs.buffered_box.hold.Goals as goal

pub returns-then-not-is_whole : goal.returns-then-not-is_whole
returns-then-not-is_whole g c = (record { goes = GoesOn-none _ _; unfailed = refl; claim = c.requires.claim }, search rules)
