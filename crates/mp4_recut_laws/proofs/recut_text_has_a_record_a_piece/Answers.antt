use Rattle.mp4_grammar.specs.declared.command.Command.TheVariants.{Records}
use Rattle.mp4_recut_laws.proofs.ListedStreamLemmas.{recut_listed, stream_listed}
use Rattle.mp4_recut_laws.proofs.PieceLineLemmas.{its_record}
use Rattle.mp4_recut_laws.proofs.PieceRecordLemmas.{each_has_one, each_lies_there, records_counted}
use Rattle.mp4_recut_laws.proofs.recut_text_has_a_record_a_piece.Goals as goal

pub returns-clause-stream : goal.returns-clause-stream
returns-clause-stream c = stream_listed Records

pub returns-clause-recut : goal.returns-clause-recut
returns-clause-recut c = recut_listed Records

pub returns-clause-one : goal.returns-clause-one
returns-clause-one c = each_has_one

pub returns-clause-place : goal.returns-clause-place
returns-clause-place c = each_lies_there

pub returns-clause-count : goal.returns-clause-count
returns-clause-count c = records_counted

pub returns-clause-piece : goal.returns-clause-piece
returns-clause-piece c = its_record
