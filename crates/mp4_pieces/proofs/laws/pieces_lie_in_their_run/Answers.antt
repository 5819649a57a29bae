use Rattle.mp4_pieces.proofs.SpanLemmas.{piece_from, piece_to}
use Rattle.mp4_pieces.proofs.laws.pieces_lie_in_their_run.Goals as goal

pub returns-clause-from : goal.returns-clause-from
returns-clause-from c moof_bytes run p is of = piece_from moof_bytes run p is of

pub returns-clause-to : goal.returns-clause-to
returns-clause-to c moof_bytes run p is of = piece_to moof_bytes run p is of
