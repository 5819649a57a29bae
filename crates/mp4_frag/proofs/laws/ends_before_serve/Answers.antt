use Rattle.mp4_frag.proofs.SettleLemmas.{in_turn_are}
use Rattle.mp4_frag.proofs.laws.ends_before_serve.Goals as goal

pub returns : goal.returns
returns c h tracks e = in_turn_are h tracks e
