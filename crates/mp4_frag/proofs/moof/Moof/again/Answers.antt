use Rattle.mp4_frag.proofs.MoofLemmas.{read_count}
use Rattle.mp4_frag.proofs.moof.Moof.again.Goals as goal

pub of-requires-clause-count : goal.of-requires-clause-count
of-requires-clause-count c = read_count (record { bytes = c.args.moof_bytes.now; offset = c.args.offset }) c.requires.read.0 c.requires.read.1
