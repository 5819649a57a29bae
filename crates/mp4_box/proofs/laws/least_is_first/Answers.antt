use Rattle.mp4_box.proofs.OrderLemmas.{least-is, least-none}
use Rattle.mp4_box.proofs.laws.least_is_first.Goals as goal

pub returns : goal.returns
returns c = record {
  some = λ fs f e. least-is fs f e;
  none = λ fs e. least-none fs e;
}
