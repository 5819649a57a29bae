use Rattle.mp4_machine.proofs.HoldingLemmas.{begins_whole}
use Rattle.mp4_fragment_machine.proofs.held.moof.read_moof.Goals as goal

pub again-requires-clause-whole : goal.again-requires-clause-whole
again-requires-clause-whole c =
    let buffered = c.args.buffered.now in
    rw c.bytes.ensures.bytes (begins_whole buffered.size buffered.bytes c.bytes.ensures.valid c.requires.begins c.requires.whole)

pub read-read-requires-clause-whole : goal.read-read-requires-clause-whole
read-read-requires-clause-whole c =
    let buffered = c.args.buffered.now in
    rw c.bytes-2.ensures.bytes (begins_whole buffered.size buffered.bytes c.bytes-2.ensures.valid c.requires.begins c.requires.whole)

pub returns-in-Err-read-clause-fault : goal.returns-in-Err-read-clause-fault
returns-in-Err-read-clause-fault c =
    let fault = rw (c.bytes-2.ensures.bytes, c.offset-2.ensures.at) at c.read-read.ensures.fault in
    (fault c.in-Err-read.fault).0 c.in-Err-read.is
