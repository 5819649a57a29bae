use Rattle.std.proofs.Common.{sym}
use Rattle.mp4_grammar.specs.Contexts.{first_context}
use Rattle.mp4_grammar.proofs.ItemLemmas.{reads-grow}
use Rattle.mp4_machine.proofs.MarkLemmas.{whole_in-before}
use Rattle.mp4_machine.proofs.PastLemmas.{ArePast-fewer}
use Rattle.mp4_recut.specs.Splitting.{reading, splitting}
use Rattle.mp4_recut.proofs.SplitLemmas.{splitting-growing}
use Rattle.mp4_recut.proofs.laws.fragments_stay.Goals as goal

pub returns : goal.returns
returns c cut b later n few =
    let (more, all, past) = (reads-grow (splitting cut) (splitting-growing cut) first_context b later).effects.fragment_ends in
    sym (whole_in-before n 0 (reading cut b).effects.fragment_ends more _ (sym all) (ArePast-fewer _ n more few past))
