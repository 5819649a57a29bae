use Rattle.mp4_boxes.proofs.RestLemmas.{every-stream}
use Rattle.mp4_boxes.proofs.laws.every_stream.Goals as goal

pub returns : goal.returns
returns c b fits = every-stream b fits
