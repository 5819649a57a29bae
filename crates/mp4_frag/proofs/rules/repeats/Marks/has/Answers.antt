use Rattle.std.proofs.Common.{◌∙◌, ℕ, List, sym, ap, arith, rules}
use Rattle.mp4_box.specs.Trees.{view}
use Rattle.mp4_init.specs.OrderedIds.{sought}
use Rattle.mp4_frag.specs.Repeats.{trafs_before}
use Rattle.mp4_frag.proofs.MarkLemmas.{mark_states}
use Rattle.mp4_frag.proofs.rules.repeats.Marks.has.Goals as goal

pub returns-in-Some-clause-listed : goal.returns-in-Some-clause-listed
returns-in-Some-clause-listed g c =
    mark_states g.row.N c.args.self.now.ids.items c.args.self.now.seen (trafs_before c.args.passed (view c.args.moof.now)) c.args.id c.in-Some.at _ (sym (ap (λ (xs : List ℕ). sought xs c.args.id) c.as_slice.ensures.value) ∙ sym c.seek_in_order.ensures.place ∙ c.in-Some.is) (search rules) (omega (arith, c.in-Some.ensures.within, c.as_slice.ensures.fits)) c.requires.seen
