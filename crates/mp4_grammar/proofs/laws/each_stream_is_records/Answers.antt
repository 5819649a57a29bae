use Rattle.mp4_grammar.proofs.StreamRecordLemmas.{stream_records, stream_fragments}
use Rattle.mp4_grammar.proofs.laws.each_stream_is_records.Goals as goal

pub returns-clause-fragments : goal.returns-clause-fragments
returns-clause-fragments c b fits = stream_fragments b fits

pub returns-clause-records : goal.returns-clause-records
returns-clause-records c b fits = stream_records b fits
