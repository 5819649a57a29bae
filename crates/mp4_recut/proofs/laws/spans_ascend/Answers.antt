use Rattle.mp4_grammar.specs.Meanings.{runs_in}
use Rattle.mp4_traf.specs.Ranges.{IsRunOf}
use Rattle.mp4_recut.proofs.FragmentLemmas.{spans_ascend}
use Rattle.mp4_recut.proofs.RoomLemmas.{all_each}
use Rattle.mp4_recut.proofs.laws.spans_ascend.Goals as goal

pub returns : goal.returns
returns c cut f l end list are good room ends = spans_ascend cut f l list (all_each (IsRunOf f.moof.bytes) (runs_in f) are) good end room ends
