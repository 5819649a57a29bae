use Rattle.mp4_recut.proofs.TextLemmas.{ahead-text}
use Rattle.mp4_recut.proofs.laws.fragments_are_text.Goals as goal

pub returns : goal.returns
returns c cut f payload = ahead-text cut f payload
