use Rattle.mp4_box.proofs.HeaderAnswers.{heads_along}
use Rattle.mp4_box.proofs.laws.no_prefix.Goals as goal

pub returns : goal.returns
returns c h k x more p q = heads_along h k x more p q
