use Rattle.mp4_grammar.proofs.RecordFitLemmas.{accepted_records}
use Rattle.mp4_grammar.proofs.laws.records_fit_their_fields.Goals as goal

pub returns : goal.returns
returns c f is = accepted_records f is
