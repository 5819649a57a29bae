use Rattle.std.proofs.Common.{◌∙◌, ap, sym, List, ◌∷◌, rules}
use Rattle.mp4_box.specs.Trees.{Box, view}
use Rattle.mp4_traf.proofs.StartLemmas.{Headed, headed}
use Rattle.mp4_traf.proofs.start.heads_of.Goals as goal

begins : (c : goal.After-base_media_decode_time) → Headed (view c.args.traf.now) (view c.in-Some.tfhd) (view c.in-Some-next.tfdt)
begins c =
    headed (view c.args.traf.now) (view c.in-Some.tfhd) (view c.in-Some-next.tfdt) _
    (sym c.of-rest.ensures.children ∙ c.in-Some.ensures.steps ∙ ap (λ (bs : List Box). view c.in-Some.tfhd ∷ bs) c.in-Some-next.ensures.steps)
    (search rules) (search rules)

pub returns-clause-tfhd : goal.returns-clause-tfhd
returns-clause-tfhd c = (begins c).tfhd

pub returns-clause-at : goal.returns-clause-at
returns-clause-at c = (begins c).at

pub returns-clause-time : goal.returns-clause-time
returns-clause-time c = λ next. c.base_media_decode_time.ensures ∙ (begins c).time next
