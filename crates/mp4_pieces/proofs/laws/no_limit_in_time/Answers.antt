use Rattle.mp4_pieces.proofs.ShortLemmas.{without_time}
use Rattle.mp4_pieces.proofs.laws.no_limit_in_time.Goals as goal

pub returns : goal.returns
returns c cut timescale rows none no_ticks = without_time cut timescale rows none no_ticks
