use Rattle.mp4_recut_laws.proofs.StreamLemmas.{laws, text_reads}
use Rattle.mp4_recut_laws.proofs.items.recut_of_a_stream.Goals as goal

pub returns-clause-bytes : goal.returns-clause-bytes
returns-clause-bytes c = λ cut s is. (laws cut s is).join

pub returns-clause-again : goal.returns-clause-again
returns-clause-again c = λ cut s is. (laws cut s is).text

pub returns-clause-samples : goal.returns-clause-samples
returns-clause-samples c = λ cut s is. (laws cut s is).same

pub returns-clause-read : goal.returns-clause-read
returns-clause-read c = text_reads
