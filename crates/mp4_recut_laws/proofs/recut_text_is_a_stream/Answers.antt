use Rattle.mp4_recut_laws.proofs.StreamBytesLemmas.{one_list, own_recut, samples_stay, text_laws}
use Rattle.mp4_recut_laws.proofs.recut_text_is_a_stream.Goals as goal

pub returns-clause-bytes : goal.returns-clause-bytes
returns-clause-bytes c = λ cut b moof_bytes sound. (text_laws cut b moof_bytes sound).bytes

pub returns-clause-read : goal.returns-clause-read
returns-clause-read c = λ cut b moof_bytes sound. (text_laws cut b moof_bytes sound).sound

pub returns-clause-again : goal.returns-clause-again
returns-clause-again c = λ cut b moof_bytes sound. (text_laws cut b moof_bytes sound).again

pub returns-clause-own : goal.returns-clause-own
returns-clause-own c = own_recut

pub returns-clause-samples : goal.returns-clause-samples
returns-clause-samples c = samples_stay

pub returns-clause-one_list : goal.returns-clause-one_list
returns-clause-one_list c = one_list

pub returns-clause-reported : goal.returns-clause-reported
returns-clause-reported c = λ cut b report moof_bytes sound. (text_laws cut b moof_bytes sound).samples report
