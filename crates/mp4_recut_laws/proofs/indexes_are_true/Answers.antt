use Rattle.std.proofs.Common.{◌∙◌, ◌≤◌, ◌^◌, ℕ, List, length, sym, subst}
use Rattle.mp4_recut_laws.specs.Streams.{recut}
use Rattle.mp4_recut_laws.proofs.IndexTruthLemmas.{recut_indexes_true}
use Rattle.mp4_recut_laws.proofs.StreamBytesLemmas.{text_of_stream, text_stream}
use Rattle.mp4_recut_laws.proofs.StreamLemmas.{laws}
use Rattle.mp4_recut_laws.proofs.WrittenIndexLemmas.{stream_indexed}
use Rattle.mp4_recut_laws.proofs.indexes_are_true.Goals as goal

pub returns-clause-bytes : goal.returns-clause-bytes
returns-clause-bytes c = λ cut b moof_bytes sound index near.
    let found = text_of_stream cut b moof_bytes sound in
    let s = found.0 in
    let short = subst (λ (x : List ℕ). length x ≤ 2 ^ 62) found.3 near in
    (recut cut s, text_stream cut s found.1 short, (laws cut s found.1).join ∙ sym found.3, recut_indexes_true cut index s found.1)

pub returns-clause-read : goal.returns-clause-read
returns-clause-read c = λ cut s is index. recut_indexes_true cut index s is

pub returns-clause-written : goal.returns-clause-written
returns-clause-written c = λ cut s is index. stream_indexed cut index s is
