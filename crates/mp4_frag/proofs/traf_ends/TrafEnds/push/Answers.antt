use Rattle.std.proofs.Common.{◌≡◌, ◌∷◌, [], rules, true, ◌==◌, length}
use Rattle.std.proofs.lemmas.Bool.{eqb-true}
use Rattle.mp4_frag.specs.TrafEnds.{few_trafs}
use Rattle.mp4_frag.proofs.TrafEndLemmas.{full_taken}
use Rattle.mp4_frag.proofs.traf_ends.TrafEnds.push.Goals as goal

pub returns-then-is_full-clause-ends : goal.returns-then-is_full-clause-ends
returns-then-is_full-clause-ends c =
    let items = c.args.self.now.ends.items in
    let full : (length items == few_trafs) ≡ true = search rules in
    full_taken few_trafs items (c.args.end ∷ []) (eqb-true (length items) few_trafs full)
