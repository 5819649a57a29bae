use Rattle.mp4_recut.proofs.PrefixLemmas.{output_of-prefix}
use Rattle.mp4_recut.proofs.laws.prefix_of_a_payload.Goals as goal

pub returns : goal.returns
returns c start n payload ps a few = output_of-prefix start n payload few ps a
