use Rattle.std.proofs.Common.{ap, arith, length}
use Rattle.mp4_boxes.proofs.listed_box.list_held.Goals as goal

pub returns : goal.returns
returns g c a low =
    c.list_box.ensures c.args.buffered.now a (record { is = rw (c.bytes.ensures.bytes, c.offset.ensures.at) at c.whole_held.ensures; len = c.requires.whole; claim = low })

pub whole_held-requires-clause-room : goal.whole_held-requires-clause-room
whole_held-requires-clause-room g c = omega (arith, c.offset.ensures.at, c.offset.ensures.end, ap length c.bytes.ensures.bytes, c.requires.whole)
