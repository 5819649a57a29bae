use Rattle.mp4_pieces.proofs.ShortLemmas.{all_in_time, all_short}
use Rattle.mp4_pieces.proofs.laws.pieces_are_short.Goals as goal

pub returns-clause-ticks : goal.returns-clause-ticks
returns-clause-ticks c cut moof_bytes run millis is = all_short cut moof_bytes run millis is

pub returns-clause-time : goal.returns-clause-time
returns-clause-time c cut moof_bytes run millis is = all_in_time cut moof_bytes run millis is
