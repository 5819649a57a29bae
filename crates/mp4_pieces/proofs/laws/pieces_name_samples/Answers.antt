use Rattle.mp4_pieces.proofs.PieceLemmas.{least_is, piece_ends, pieces_are_of}
use Rattle.mp4_pieces.proofs.laws.pieces_name_samples.Goals as goal

pub returns-clause-pieces : goal.returns-clause-pieces
returns-clause-pieces c cut moof_bytes run = pieces_are_of cut moof_bytes run

pub returns-clause-least : goal.returns-clause-least
returns-clause-least c moof_bytes run p is = least_is moof_bytes run p is

pub returns-clause-range : goal.returns-clause-range
returns-clause-range c moof_bytes run p of is = piece_ends moof_bytes run p of is
