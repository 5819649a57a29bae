use Rattle.mp4_frag.proofs.MoofTotalLemmas.{moof_sound}
use Rattle.mp4_frag.proofs.laws.trafs_are_sound.Goals as goal

pub returns : goal.returns
returns c h tracks whole fits near read = moof_sound h tracks near whole fits read
