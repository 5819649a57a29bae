use Rattle.std.proofs.Common.{arith}
use Rattle.mp4_fragment_machine.proofs.SecondLemmas.{head-end}
use Rattle.mp4_fragment_machine.proofs.mdat.check.payload_of.Goals as goal

pub overflow_add-result : goal.overflow_add-result
overflow_add-result c =
    let header = c.args.header.now in
    omega (arith, head-end c.args.at header header.size c.requires.room c.requires.end)
