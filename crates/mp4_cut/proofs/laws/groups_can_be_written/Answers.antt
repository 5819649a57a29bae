use Rattle.mp4_cut.proofs.GroupLemmas.{groups_are}
use Rattle.mp4_cut.proofs.laws.groups_can_be_written.Goals as goal

pub returns : goal.returns
returns c cut moof_bytes run fits = groups_are cut moof_bytes run fits
