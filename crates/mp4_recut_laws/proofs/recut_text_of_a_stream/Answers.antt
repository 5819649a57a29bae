use Rattle.mp4_recut_laws.proofs.StreamBytesLemmas.{reported_by_samples, text_of_stream}
use Rattle.mp4_recut_laws.proofs.ReadStreamLemmas.{recut_text_of_a_stream}
use Rattle.mp4_recut_laws.proofs.MoofMarkLemmas.{moofs_are_marked}
use Rattle.mp4_recut_laws.proofs.recut_text_of_a_stream.Goals as goal

pub returns-clause-text : goal.returns-clause-text
returns-clause-text c = λ cut s is. (recut_text_of_a_stream cut s is).text

pub returns-clause-sound : goal.returns-clause-sound
returns-clause-sound c = λ cut s is. (recut_text_of_a_stream cut s is).sound

pub returns-clause-each : goal.returns-clause-each
returns-clause-each c = text_of_stream

pub returns-clause-samples : goal.returns-clause-samples
returns-clause-samples c = reported_by_samples

pub returns-clause-moofs : goal.returns-clause-moofs
returns-clause-moofs c = λ cut s is. (moofs_are_marked cut s is).fragment_ends

pub returns-clause-counted : goal.returns-clause-counted
returns-clause-counted c = λ cut s is. (moofs_are_marked cut s is).counted

pub returns-clause-whole : goal.returns-clause-whole
returns-clause-whole c = λ cut s n is. (moofs_are_marked cut s is).whole n
