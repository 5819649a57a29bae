use Rattle.mp4_cut.proofs.GivenLemmas.{piece_can_be_read}
use Rattle.mp4_cut.proofs.laws.pieces_can_be_read_again.Goals as goal

pub returns : goal.returns
returns c h tracks run piece whole moof_bytes room all read there is = piece_can_be_read h tracks run piece whole moof_bytes room all read there is
