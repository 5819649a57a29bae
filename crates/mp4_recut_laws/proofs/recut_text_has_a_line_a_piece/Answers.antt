use Rattle.mp4_grammar.specs.declared.command.Command.TheVariants.{Fragments}
use Rattle.mp4_recut_laws.specs.PieceLines.{IsOneLine}
use Rattle.mp4_recut_laws.specs.RecutItems.{without_index}
use Rattle.mp4_recut_laws.proofs.ListedStreamLemmas.{recut_listed, stream_listed}
use Rattle.mp4_recut_laws.proofs.PieceLineLemmas.{of_pieces, one_line, piece_line}
use Rattle.mp4_recut_laws.proofs.StreamLemmas.{laws}
use Rattle.mp4_recut_laws.proofs.recut_text_has_a_line_a_piece.Goals as goal

pub returns-clause-stream : goal.returns-clause-stream
returns-clause-stream c = stream_listed Fragments

pub returns-clause-recut : goal.returns-clause-recut
returns-clause-recut c = recut_listed Fragments

pub returns-clause-one : goal.returns-clause-one
returns-clause-one c = λ cut s is. of_pieces (without_index cut) IsOneLine (one_line (without_index cut)) (without_index cut) _ _ (laws cut s is).pieces

pub returns-clause-piece : goal.returns-clause-piece
returns-clause-piece c = piece_line
