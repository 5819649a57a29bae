use Rattle.mp4_boxes.proofs.HeldBoxLemmas.{asks-exactly}
use Rattle.mp4_boxes.proofs.laws.requests_are_held_boxes.Goals as goal

pub returns : goal.returns
returns c b most fits = asks-exactly b most fits
