use Rattle.std.proofs.Common.{arith, length, refl}
use Rattle.mp4_machine.proofs.HoldingLemmas.{begins_whole}
use Rattle.mp4_boxes.proofs.listed_box.whole_held.Goals as goal

pub whole_box-requires-clause-whole : goal.whole_box-requires-clause-whole
whole_box-requires-clause-whole c = begins_whole (length c.args.bytes.now) c.args.bytes.now (λ i. omega (arith, c.type_inv.bytes i)) c.requires.begins refl
