use Rattle.std.proofs.Common.{refl}
use Rattle.mp4_grammar.specs.TrafRecords.{in_4, in_8, record_bytes}
use Rattle.mp4_grammar.proofs.laws.worked_records.Goals as goal

pub returns-clause-sized : goal.returns-clause-sized
returns-clause-sized c = refl

pub returns-clause-open : goal.returns-clause-open
returns-clause-open c = refl

pub returns-clause-bytes : goal.returns-clause-bytes
unfolding record_bytes in_8 in_4
returns-clause-bytes c = refl
