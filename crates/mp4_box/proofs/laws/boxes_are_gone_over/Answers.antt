use Rattle.mp4_box.proofs.GrammarLemmas.{gone_over_whole, gone_over_rest}
use Rattle.mp4_box.proofs.laws.boxes_are_gone_over.Goals as goal

pub returns : goal.returns
returns c = record {
  whole = λ f g xs o all. gone_over_whole f g xs o all;
  rest = λ f g xs y o all fits long none. gone_over_rest f g xs y o all fits long none;
}
